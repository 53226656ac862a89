use Rattle.std.proofs.Common.{take}
use Rattle.jr_types.specs.Registered.{AreAbove}
use Rattle.jr_types.proofs.registry.Registry.above.Given as goal

abbrev pub invariant-loop-name : goal.invariant-loop-name
invariant-loop-name l = AreAbove l.self (take l.name-index l.name-items) l.above
