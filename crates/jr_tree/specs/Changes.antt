-- Steps of the list of changes: what each node adds to the writes so far, which are kept by their items.
use Rattle.std.specs.Prelude.{cond, List, [], ◌∷◌, ◌++◌, is_none, is_some, map, not, false}
use Rattle.std.specs.Option.{option_map_or}
use Rattle.std.specs.Map.{lookup}
use Rattle.std.specs.BTreeMap.{is_at, insert_entry}
use Rattle.std.specs.List.{fold, filter, flat_map}
use Rattle.jr_path.specs.Names.{name_cmp}
use Rattle.jr_path.specs.declared.name.Name.{Name}
use Rattle.jr_path.specs.declared.path.Path.{Path}
use Rattle.jr_path.specs.declared.path.Item.{Item}
use Rattle.jr_value.specs.declared.value.Property.{Property}
use Rattle.jr_value.specs.Values.{same_property}
use Rattle.jr_tree.specs.declared.tree.Node.{Node}
use Rattle.jr_tree.specs.declared.edit.Write.{Write}
use Rattle.jr_tree.specs.declared.edit.Write.TheVariants.{Here, Put, Unset}
use Rattle.jr_tree.specs.Trees.{Nodes, node_at}
use Rattle.jr_tree.specs.Edits.{item_of, item_cmp, taking, property_changes, properties_at}

-- writes by their items
abbrev pub Writes : Type 0
Writes = List (Item × Write)

-- more writes, each in the place of an earlier one of its item
abbrev pub with_writes : Writes → List Write → Writes
with_writes es ws = fold (λ es w. insert_entry item_cmp es (item_of w) w) es ws

-- the properties of the old node that the new one lacks are unset
abbrev pub unset_missing : Path → List (Name × Property) → List (Name × Property) → List Write
unset_missing p old new = map (λ n. Unset p n.0) (filter (λ n. is_none (lookup (is_at (name_cmp n.0)) new)) old)

-- the properties of the new node that the old one doesn't have so are put
abbrev pub put_changed : Path → List (Name × Property) → List (Name × Property) → List Write
put_changed p old new = map (λ n. Put p n.0 n.1) (filter (λ n. not (option_map_or (same_property n.1) (lookup (is_at (name_cmp n.0)) old) false)) new)

-- the nodes that the new tree lacks go
abbrev pub nodes_taken : Nodes → Nodes → List Write
nodes_taken to es = flat_map taking (filter (λ e. is_none (node_at to e.0)) es)

-- what one node of the new tree has otherwise than the old tree
abbrev pub node_changes : Nodes → Path × Node → List Write
node_changes from e = (cond (is_some (node_at from e.0)) [] (Here e.0 ∷ [])) ++ property_changes e.0 (properties_at from e.0) e.1.props

-- the writes that turn a tree's nodes into other ones, but the removals
abbrev pub nodes_changed : Nodes → Nodes → List Write
nodes_changed from es = flat_map (node_changes from) es
