use Rattle.std.proofs.Common.{◌≡◌, length}
use Rattle.jr_cnd.specs.Meaning.{first_bad}
use Rattle.jr_cnd.proofs.file.judge.Given as goal

abbrev pub invariant-loop-rest : goal.invariant-loop-rest
invariant-loop-rest l = first_bad l.registry l.rest ≡ first_bad l.initial.registry l.types

abbrev pub decreases-loop-rest : goal.decreases-loop-rest
decreases-loop-rest l = length l.rest
