use Rattle.std.proofs.Common.{◌≡◌, map}
use Rattle.jr_cnd.proofs.file.definitions_of.Given as goal

abbrev pub invariant-loop-placed : goal.invariant-loop-placed
invariant-loop-placed l = l.definitions ≡ map (λ d. d.definition) l.yielded
