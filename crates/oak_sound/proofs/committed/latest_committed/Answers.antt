use Rattle.oak_read.specs.Meaning.{documents_in, is_committed}
use Rattle.oak_read.specs.Shown.{shown}
use Rattle.oak_read.proofs.Entries.{latest_step}
use Rattle.oak_sound.proofs.committed.latest_committed.Goals as goal

pub loop-r-preserved : goal.loop-r-preserved
loop-r-preserved g c =
    latest_step (λ e. is_committed (documents_in c.args.documents.now) c.args.sweep.now c.args.document.now e.0)
    (shown c.loop-r.best) (shown c.in_ok-best.best) (c.in-Some.r.now, c.in-Some.value.now) _ _ _
    c.in-Some.ensures.steps c.in_ok-best.ensures c.loop-r.invariant
