use Rattle.std.proofs.Common.{◌≡◌, ◌++◌, take}
use Rattle.std.specs.List.{flat_map}
use Rattle.cnd_print.specs.Printing.{prefix_text}
use Rattle.cnd_print.proofs.printing.put_prefixes.Given as goal

abbrev pub invariant-loop-prefix : goal.invariant-loop-prefix
invariant-loop-prefix l = l.out ≡ l.initial.out ++ flat_map prefix_text (take l.prefix-index l.prefixes)
