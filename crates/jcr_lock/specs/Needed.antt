-- The writes that change something, each judged by the tree before them.
use Rattle.std.specs.Prelude.{Bool, true, false, not, is_some, is_none}
use Rattle.std.specs.Option.{option_map_or}
use Rattle.std.specs.FinMap.{is_sorted}
use Rattle.jr_path.specs.Names.{name_cmp}
use Rattle.jr_path.specs.declared.name.Name.{Name}
use Rattle.jr_path.specs.declared.path.Path.{Path}
use Rattle.jr_value.specs.declared.value.Property.{Property}
use Rattle.jr_value.specs.Values.{same_property}
use Rattle.jr_tree.specs.declared.edit.Write.{Write}
use Rattle.jr_tree.specs.declared.edit.Write.TheVariants.{Here, Gone, Put, Unset}
use Rattle.jr_tree.specs.Trees.{Nodes, node_at, property_at}

-- the node has this property
abbrev pub has_this_property : Nodes → Path → Name → Property → Bool
has_this_property t p n x = option_map_or (same_property x) (property_at t p n) false

-- the item isn't yet what the write makes it
abbrev pub is_needed : Nodes → Write → Bool
is_needed t (Here p) = is_none (node_at t p)
is_needed t (Gone p) = is_some (node_at t p)
is_needed t (Put p n x) = not (has_this_property t p n x)
is_needed t (Unset p n) = is_some (property_at t p n)

-- the names of the node at a path stand in order
abbrev pub are_names_in_order : Nodes → Path → Bool
are_names_in_order t p = option_map_or (λ node. is_sorted name_cmp node.props) (node_at t p) true
