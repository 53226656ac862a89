-- Steps of applying an edit: the nodes that are written are copied, changed apart from the tree, and put in their places.
use Rattle.std.specs.Prelude.{Bool, cond, List, [], Option, None, is_some, is_none}
use Rattle.std.specs.Option.{option_map_or}
use Rattle.std.specs.Ordering.{eq_by_cmp}
use Rattle.std.specs.Map.{remove_entry, set_value, keys_of}
use Rattle.std.specs.BTreeMap.{is_at, insert_entry}
use Rattle.std.specs.List.{fold, filter, list_any}
use Rattle.jr_path.specs.Names.{path_cmp}
use Rattle.jr_path.specs.declared.path.Path.{Path}
use Rattle.jr_rev.specs.declared.revision.Revision.{Revision}
use Rattle.jr_tree.specs.declared.edit.Write.{Write}
use Rattle.jr_tree.specs.Trees.{Nodes, node_at}
use Rattle.jr_tree.specs.Edits.{item_of, with_node_write, with_property_write}

-- a write is of the node at p, or of a property of it
abbrev pub is_touched : List Write → Path → Bool
is_touched ws p = list_any (λ w. eq_by_cmp path_cmp p (item_of w).path) ws

-- with the node of the tree at a path, where there is one that isn't there yet
abbrev pub with_node_of : Nodes → Nodes → Path → Nodes
with_node_of t part p = cond (is_some (node_at part p)) part (option_map_or (insert_entry path_cmp part p) (node_at t p) part)

-- the nodes of the tree that are written
abbrev pub written_nodes : Nodes → List Write → Nodes
written_nodes t ws = fold (λ part w. with_node_of t part (item_of w).path) [] ws

-- the paths that the tree lacks
abbrev pub paths_missing : Nodes → Nodes → List Path
paths_missing t part = filter (λ p. is_none (node_at t p)) (keys_of part)

-- with a node that has no properties at each of some paths
abbrev pub with_room : Nodes → List Path → Nodes
with_room t ps = fold (λ t p. insert_entry path_cmp t p (record { props = []; born = None })) t ps

-- a tree without the nodes at some paths
abbrev pub without_paths : Nodes → List Path → Nodes
without_paths t ps = fold (λ t p. remove_entry (is_at (path_cmp p)) t) t ps

-- without the node at a path, unless the part has one there
abbrev pub without_unless : Nodes → Nodes → Path → Nodes
without_unless part t p = cond (is_some (node_at part p)) t (remove_entry (is_at (path_cmp p)) t)

-- without the written nodes that the part hasn't any more
abbrev pub without_gone : Nodes → Nodes → List Write → Nodes
without_gone t part ws = fold (λ t w. without_unless part t (item_of w).path) t ws

-- with the nodes of a part in the places that are there for them
abbrev pub with_tree_part : Nodes → Nodes → Nodes
with_tree_part t part = fold (λ t e. option_map_or (λ old. set_value (is_at (path_cmp e.0)) t e.1) (node_at t e.0) t) t part

-- the nodes that are written, with the writes made
abbrev pub changed_part : Option Revision → Nodes → List Write → Nodes
changed_part born t ws = fold with_property_write (fold (with_node_write born) (written_nodes t ws) ws) ws

-- the tree with the changed part in its places
abbrev pub merged : Nodes → Nodes → List Write → Nodes
merged t part ws = with_tree_part (without_gone (with_room t (paths_missing t part)) part ws) part
