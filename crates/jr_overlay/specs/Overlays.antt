-- A view: a tree with nodes of its own in the place of the tree's.
use Rattle.std.specs.Prelude.{◌≡◌, cond, List, [], Option, None, Some, IsTrue, option_map}
use Rattle.std.specs.Option.{option_map_or, unwrap_or}
use Rattle.std.specs.Map.{lookup, remove_entry}
use Rattle.std.specs.BTreeMap.{is_at, insert_entry}
use Rattle.std.specs.FinMap.{is_sorted}
use Rattle.std.specs.List.{filter_map, fold}
use Rattle.jr_path.specs.Names.{name_cmp, path_cmp, last_name}
use Rattle.jr_path.specs.declared.name.Name.{Name}
use Rattle.jr_path.specs.declared.path.Path.{Path}
use Rattle.jr_tree.specs.declared.tree.Node.{Node}
use Rattle.jr_tree.specs.declared.edit.Write.{Write}
use Rattle.jr_tree.specs.Trees.{Nodes, born_of, dated_children_of, is_child_of, node_at, subtree_of}
use Rattle.jr_tree.specs.Edits.{changes}
use Rattle.jr_part.specs.Parts.{ChildNames, Knowledge, list_at}
use Rattle.jr_overlay.specs.declared.overlay.Change.{Change}

-- changed nodes, by their paths
abbrev pub Changed : Type 0
Changed = List (Path × Change)

-- the change at p, if there is one
abbrev pub change_at : Changed → Path → Option Change
change_at c p = lookup (is_at (path_cmp p)) c

-- the node at p in the view: the changed one, or else the tree's
abbrev pub seen : Nodes → Changed → Path → Option Node
seen t c p = option_map_or (λ x. x.new) (change_at c p) (node_at t p)

-- the node at p at the base, which a change keeps
abbrev pub base_at : Nodes → Changed → Path → Option Node
base_at t c p = option_map_or (λ x. x.old) (change_at c p) (node_at t p)

-- a tree with this node at p, or with none there
abbrev pub with_node_at : Nodes → Path → Option Node → Nodes
with_node_at t p None = remove_entry (is_at (path_cmp p)) t
with_node_at t p (Some node) = insert_entry path_cmp t p node

-- the view: the tree with each changed node in its place
abbrev pub view_of : Nodes → Changed → Nodes
view_of t c = fold (λ u e. with_node_at u e.0 e.1.new) t c

-- a node was added by the revision that added what stood at its path at the base, or is pending
abbrev pub dated_as : Option Node → Node → Node
dated_as old node = record node { born = born_of old }

-- a change keeps what the tree has at its path, and its node is dated as that
pub record IsChangeOf (t : Nodes) (e : Path × Change) : Type 0 where
  pub old : e.1.old ≡ node_at t e.0
  pub new : option_map (dated_as e.1.old) e.1.new ≡ e.1.new

-- the changes are of this tree, each path once, in order
pub record AreOver (t : Nodes) (c : Changed) : Type 0 where
  pub paths : IsTrue (is_sorted path_cmp c)
  pub kept : (p : Path) (x : Change) → change_at c p ≡ Some x → IsChangeOf t (p, x)

-- the nodes at the changed paths at the base
abbrev pub old_nodes : Changed → Nodes
old_nodes c = filter_map (λ e. option_map (λ node. (e.0, node)) e.1.old) c

-- the nodes at the changed paths in the view
abbrev pub new_nodes : Changed → Nodes
new_nodes c = filter_map (λ e. option_map (λ node. (e.0, node)) e.1.new) c

-- the edit that makes the view of the base: of each changed node what it has otherwise
abbrev pub edit_of : Changed → List Write
edit_of c = changes (old_nodes c) (new_nodes c)

-- the children's names with one that a change adds, dates or takes away
abbrev pub with_child : Path → ChildNames → Path × Change → ChildNames
with_child p names e = cond (is_child_of p e.0)
    (option_map_or (λ n. renamed n) (last_name e.0) names) names
  where
    renamed : Name → ChildNames
    renamed n = option_map_or (λ node. insert_entry name_cmp names n node.born) e.1.new
        (remove_entry (is_at (name_cmp n)) names)

-- the names of the children of p in the view, where so much is known of the tree
abbrev pub known_children : Knowledge → Changed → Path → ChildNames
known_children k c p = fold (with_child p) (unwrap_or (list_at k p) []) c

-- what commands read of a view: the node at a path, the nodes at or below a path, and the children
-- of a node
pub record View : Type 0 where
  pub node : Path → Option Node
  pub below : Path → Nodes
  pub children : Path → ChildNames

-- what is read of a whole view
abbrev pub whole_view : Nodes → View
whole_view v = record { node = node_at v; below = subtree_of v; children = dated_children_of v }

-- what is read of a view of a tree of which so much is known
abbrev pub known_view : Knowledge → Changed → View
known_view k c = record {
  node = seen k.nodes c;
  below = subtree_of (view_of k.nodes c);
  children = known_children k c;
}

-- what is known of a tree, with the changes over it
pub record Sighted : Type 0 where
  pub known : Knowledge
  pub changed : Changed

-- what is read of the view there
abbrev pub sighted : Sighted → View
sighted s = known_view s.known s.changed
