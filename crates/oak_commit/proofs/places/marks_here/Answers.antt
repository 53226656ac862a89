use Rattle.oak_commit.proofs.Indexed.{copied_more}
use Rattle.oak_commit.proofs.places.marks_here.Goals as goal

pub loop-at-preserved : goal.loop-at-preserved
loop-at-preserved c = copied_more c.args.marks.now c.deref-at-items.result.now c.loop-at.at-index _ _ _ c.loop-at-test.true c.loop-at.invariant c.in_ok-push_mark.ensures
