use Rattle.std.proofs.Common.{◌≡◌, ◌++◌, take}
use Rattle.std.specs.List.{flat_map}
use Rattle.cnd_print.specs.Printing.{prop_text}
use Rattle.cnd_print.proofs.printing.put_props.Given as goal

abbrev pub invariant-loop-prop : goal.invariant-loop-prop
invariant-loop-prop l = l.out ≡ l.initial.out ++ flat_map prop_text (take l.prop-index l.props)
