use Rattle.std.proofs.Common.{◌≡◌, ◌++◌, take}
use Rattle.std.specs.List.{flat_map}
use Rattle.cnd_print.specs.Printing.{type_text}
use Rattle.cnd_print.proofs.printing.put_types.Given as goal

abbrev pub invariant-loop-definition : goal.invariant-loop-definition
invariant-loop-definition l = l.out ≡ l.initial.out ++ flat_map type_text (take l.definition-index l.types)
