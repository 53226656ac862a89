use Rattle.std.proofs.Common.{◌≡◌, ◌++◌}
use Rattle.jr_list.proofs.keyed.KeyedDeepCopy.copy.Given as goal

abbrev pub invariant-loop-key : goal.invariant-loop-key
invariant-loop-key g l = l.map.entries ++ l.key-iterator ≡ l.self
