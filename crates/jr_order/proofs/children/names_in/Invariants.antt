use Rattle.std.proofs.Common.{◌≡◌, map, take}
use Rattle.std.specs.List.{filter_map}
use Rattle.jr_items.specs.Items.{name_in}
use Rattle.jr_order.proofs.children.names_in.Given as goal

-- the names so far
abbrev pub invariant-loop-value : goal.invariant-loop-value
invariant-loop-value l = map (λ n. n.now) l.names.items ≡ filter_map name_in (take l.value-index l.values)
