use Rattle.jr_items.specs.Refusals.{limit_refusal}
use Rattle.jcr_write.specs.Writes.{moved_path}
use Rattle.jcr_write.proofs.Due.{at_path}
use Rattle.jcr_write.proofs.moves.check_moved_path.Goals as goal

pub returns-in-Ok-clause-err : goal.returns-in-Ok-clause-err
returns-in-Ok-clause-err c = at_path c.check_limits.result limit_refusal
    c.in-Ok.place (moved_path c.args.from.now c.args.to.now c.args.at.now) c.in-Ok.ensures c.check_limits.ensures.err
