use Rattle.std.proofs.Common.{drop}
use Rattle.jcr_call.proofs.Written.{IsSeenOnce}
use Rattle.jcr_call.proofs.proper.is_once.Given as goal

abbrev pub invariant-loop-at : goal.invariant-loop-at
invariant-loop-at l = IsSeenOnce (drop l.at l.writes) l.seen
