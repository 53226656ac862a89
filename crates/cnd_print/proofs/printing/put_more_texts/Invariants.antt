use Rattle.std.proofs.Common.{◌≡◌, ◌++◌, map, take}
use Rattle.std.specs.List.{flat_map}
use Rattle.std.specs.Prelude.{codes}
use Rattle.cnd_print.specs.Printing.{quoted}
use Rattle.cnd_print.proofs.printing.put_more_texts.Given as goal

abbrev pub invariant-loop-text : goal.invariant-loop-text
invariant-loop-text l = l.out ≡ l.initial.out ++ flat_map (λ u. codes ", " ++ u) (map quoted (take l.text-index l.texts))
