use Rattle.oak_commit.specs.Writing.{entry_of}
use Rattle.oak_commit.proofs.Indexed.{made_more}
use Rattle.oak_commit.proofs.ops.put_entries_at.Goals as goal

pub loop-at-preserved : goal.loop-at-preserved
loop-at-preserved c =
    made_more c.args.writes.now (entry_of c.args.r c.args.path.now) c.deref-at-items.result.now c.loop-at.at-index _ c.args.changes.now _ _ c.loop-at-test.true c.loop-at.invariant c.in_ok-put_entry_at.ensures
