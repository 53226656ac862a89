use Rattle.std.proofs.Common.{◌≡◌, ◌++◌, map, take}
use Rattle.jr_types.proofs.counting.add_props.Given as goal

abbrev pub invariant-loop-prop : goal.invariant-loop-prop
invariant-loop-prop l = map (λ d. d.now) l.list.items ≡ map (λ d. d.now) l.initial.list.items ++ take l.prop-index l.props
