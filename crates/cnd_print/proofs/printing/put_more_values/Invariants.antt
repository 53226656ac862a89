use Rattle.std.proofs.Common.{◌≡◌, ◌++◌, map, take}
use Rattle.std.specs.List.{flat_map}
use Rattle.std.specs.Prelude.{codes}
use Rattle.cnd_print.specs.Printing.{quoted, value_text}
use Rattle.cnd_print.proofs.printing.put_more_values.Given as goal

abbrev pub invariant-loop-value : goal.invariant-loop-value
invariant-loop-value l = l.out ≡ l.initial.out ++ flat_map (λ u. codes ", " ++ u) (map (λ v. quoted (value_text v)) (take l.value-index l.values))
