-- Edits: lists of writes of items.
use Rattle.std.specs.Prelude.{Bool, true, false, cond, ◌&&◌, List, [], ◌∷◌, Option, None, Some, IsTrue, is_some, is_none, not, map, ◌++◌}
use Rattle.std.specs.declared.cmp.Ordering.{Ordering}
use Rattle.std.specs.Option.{option_map_or, option_cmp}
use Rattle.std.specs.Ordering.{eq_by_cmp, ordering_then}
use Rattle.std.specs.Map.{lookup, remove_entry, set_value, values_of}
use Rattle.std.specs.BTreeMap.{is_at, insert_entry}
use Rattle.std.specs.List.{fold, filter, flat_map, list_any, list_all}
use Rattle.jr_path.specs.Names.{name_cmp, path_cmp}
use Rattle.jr_path.specs.declared.name.Name.{Name}
use Rattle.jr_path.specs.declared.path.Path.{Path}
use Rattle.jr_path.specs.declared.path.Item.{Item}
use Rattle.jr_rev.specs.declared.revision.Revision.{Revision}
use Rattle.jr_value.specs.declared.value.Property.{Property}
use Rattle.jr_value.specs.Values.{same_property}
use Rattle.jr_tree.specs.declared.tree.Node.{Node}
use Rattle.jr_tree.specs.declared.edit.Write.{Write}
use Rattle.jr_tree.specs.declared.edit.Write.TheVariants.{Here, Gone, Put, Unset}
use Rattle.jr_tree.specs.Trees.{Nodes, node_at, property_at, IsTree}

-- whether two writes are of one item
abbrev pub is_same_item : Write → Write → Bool
is_same_item (Here p) (Here q) = eq_by_cmp path_cmp p q
is_same_item (Here p) (Gone q) = eq_by_cmp path_cmp p q
is_same_item (Gone p) (Here q) = eq_by_cmp path_cmp p q
is_same_item (Gone p) (Gone q) = eq_by_cmp path_cmp p q
is_same_item (Put p n x) (Put q m y) = eq_by_cmp path_cmp p q && eq_by_cmp name_cmp n m
is_same_item (Put p n x) (Unset q m) = eq_by_cmp path_cmp p q && eq_by_cmp name_cmp n m
is_same_item (Unset p n) (Put q m y) = eq_by_cmp path_cmp p q && eq_by_cmp name_cmp n m
is_same_item (Unset p n) (Unset q m) = eq_by_cmp path_cmp p q && eq_by_cmp name_cmp n m
is_same_item _ _ = false

-- the last write of each item
abbrev pub last_writes : List Write → List Write
last_writes [] = []
last_writes (w ∷ ws) = cond (list_any (is_same_item w) ws) (last_writes ws) (w ∷ last_writes ws)

-- the properties of a node, or none
abbrev pub properties_at : Nodes → Path → List (Name × Property)
properties_at t p = option_map_or (λ node. node.props) (node_at t p) []

-- a node that is here was added by the edit's revision, and has no properties where it comes; a node that goes loses them
abbrev pub with_node_write : Option Revision → Nodes → Write → Nodes
with_node_write born t (Here p) = insert_entry path_cmp t p (record { props = properties_at t p; born = born })
with_node_write born t (Gone p) = remove_entry (is_at (path_cmp p)) t
with_node_write born t (Put p n x) = t
with_node_write born t (Unset p n) = t

-- a property is written where its node stands
abbrev pub with_property_write : Nodes → Write → Nodes
with_property_write t (Here p) = t
with_property_write t (Gone p) = t
with_property_write t (Put p n x) =
    option_map_or (λ node. set_value (is_at (path_cmp p)) t (record node { props = insert_entry name_cmp node.props n x })) (node_at t p) t
with_property_write t (Unset p n) =
    option_map_or (λ node. set_value (is_at (path_cmp p)) t (record node { props = remove_entry (is_at (name_cmp n)) node.props })) (node_at t p) t

-- the tree after an edit by a revision, or by none in a view: the last write of each item counts, those of nodes first
abbrev pub applied : Option Revision → Nodes → List Write → Nodes
applied born t ws = fold with_property_write (fold (with_node_write born) t (last_writes ws)) (last_writes ws)

-- each item is written once
abbrev pub is_once : List Write → Bool
is_once [] = true
is_once (w ∷ ws) = not (list_any (is_same_item w) ws) && is_once ws

-- the write changes its item from one tree to another
abbrev pub is_change : Nodes → Nodes → Write → Bool
is_change t u (Here p) = is_none (node_at t p) && is_some (node_at u p)
is_change t u (Gone p) = is_some (node_at t p) && is_none (node_at u p)
is_change t u (Put p n x) = not (option_map_or (same_property x) (property_at t p n) false) && option_map_or (same_property x) (property_at u p n) false
is_change t u (Unset p n) = is_some (property_at t p n) && is_none (property_at u p n)

-- the write unsets the property of that name of the node at p
abbrev pub is_unset_of : Path → Name → Write → Bool
is_unset_of p n (Unset q m) = eq_by_cmp path_cmp p q && eq_by_cmp name_cmp n m
is_unset_of p n _ = false

-- each property of a node that goes is unset
abbrev pub is_emptied : Nodes → List Write → Write → Bool
is_emptied t ws (Gone p) = list_all (λ e. list_any (is_unset_of p e.0) ws) (properties_at t p)
is_emptied t ws _ = true

-- the result is a tree, each item is written once and is changed by it, and a node that goes has each property unset
pub record IsProper (t : Nodes) (ws : List Write) : Type 0 where
  pub tree : IsTree (applied None t ws)
  pub once : IsTrue (is_once ws)
  pub changing : IsTrue (list_all (is_change t (applied None t ws)) ws)
  pub emptied : IsTrue (list_all (is_emptied t ws) ws)

-- the item of a write
abbrev pub item_of : Write → Item
item_of (Here p) = record { path = p; name = None }
item_of (Gone p) = record { path = p; name = None }
item_of (Put p n x) = record { path = p; name = Some n }
item_of (Unset p n) = record { path = p; name = Some n }

-- nodes in path order, a node before its properties, and these by name
abbrev pub item_cmp : Item → Item → Ordering
item_cmp a b = ordering_then (path_cmp a.path b.path) (option_cmp name_cmp a.name b.name)

-- the writes that take a node's items away
abbrev pub taking : Path × Node → List Write
taking e = Gone e.0 ∷ map (λ n. Unset e.0 n.0) e.1.props

-- the writes that make the properties of a node from those of another
abbrev pub property_changes : Path → List (Name × Property) → List (Name × Property) → List Write
property_changes p old new =
    map (λ n. Unset p n.0) (filter (λ n. is_none (lookup (is_at (name_cmp n.0)) new)) old)
    ++ map (λ n. Put p n.0 n.1) (filter (λ n. not (option_map_or (same_property n.1) (lookup (is_at (name_cmp n.0)) old) false)) new)

-- the writes by which a tree differs from another, in the order of their items
abbrev pub changes : Nodes → Nodes → List Write
changes from to = values_of (fold (λ es w. insert_entry item_cmp es (item_of w) w) []
    (flat_map taking (filter (λ e. is_none (node_at to e.0)) from)
    ++ flat_map (λ e. (cond (is_some (node_at from e.0)) [] (Here e.0 ∷ [])) ++ property_changes e.0 (properties_at from e.0) e.1.props) to))
