use Rattle.std.proofs.Common.{length}
use Rattle.jr_script.proofs.Adding.{AreLeft}
use Rattle.jr_script.proofs.types.add_kept.Given as goal

abbrev pub invariant-loop-rest : goal.invariant-loop-rest
invariant-loop-rest l = AreLeft l.initial.registry l.definitions l.registry l.rest

abbrev pub decreases-loop-rest : goal.decreases-loop-rest
decreases-loop-rest l = length l.rest
