use Rattle.jr_overlay.specs.Overlays.{sighted}
use Rattle.jcr_write.specs.Places.{above}
use Rattle.jcr_write.specs.Writes.{absent}
use Rattle.jcr_write.proofs.Due.{at_path}
use Rattle.jcr_write.proofs.moves.check_above.Goals as goal

pub returns-in-Ok-clause-err : goal.returns-in-Ok-clause-err
returns-in-Ok-clause-err c = at_path c.check_there.result
    (λ q. absent (sighted c.args.draft.now.sight) c.args.draft.now.steps q)
    c.in-Ok.parent (above c.args.path.now) c.in-Ok.ensures c.check_there.ensures.err
