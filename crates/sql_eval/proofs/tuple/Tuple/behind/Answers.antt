use Rattle.std.specs.Map.Iter.{deref_pair}
use Rattle.sql_eval.proofs.Missing.{missing_more}
use Rattle.sql_eval.proofs.tuple.Tuple.behind.Goals as goal

pub loop-preserved : goal.loop-preserved
loop-preserved c = missing_more deref_pair _ _ _ c.loop.invariant c.in_ok-push.ensures
