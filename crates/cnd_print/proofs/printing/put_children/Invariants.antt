use Rattle.std.proofs.Common.{◌≡◌, ◌++◌, take}
use Rattle.std.specs.List.{flat_map}
use Rattle.cnd_print.specs.Printing.{child_text}
use Rattle.cnd_print.proofs.printing.put_children.Given as goal

abbrev pub invariant-loop-child : goal.invariant-loop-child
invariant-loop-child l = l.out ≡ l.initial.out ++ flat_map child_text (take l.child-index l.children)
