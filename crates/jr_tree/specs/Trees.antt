-- Trees: a node for each path, and a property for each name of a node.
use Rattle.std.specs.Prelude.{Bool, true, false, cond, List, [], ◌∷◌, map, Option, None, Some, is_some, IsTrue, codes}
use Rattle.std.specs.Option.{option_and_then, option_map, option_map_or}
use Rattle.std.specs.Ordering.{eq_by_cmp}
use Rattle.std.specs.Map.{lookup}
use Rattle.std.specs.BTreeMap.{is_at}
use Rattle.std.specs.FinMap.{is_sorted}
use Rattle.std.specs.List.{list_all, filter, filter_map}
use Rattle.jr_path.specs.Names.{name_cmp, path_cmp, parent_of, last_name, is_under}
use Rattle.jr_path.specs.declared.name.Name.{Name}
use Rattle.jr_path.specs.declared.path.Path.{Path}
use Rattle.jr_rev.specs.declared.revision.Revision.{Revision}
use Rattle.jr_value.specs.declared.value.Property.{Property}
use Rattle.jr_value.specs.declared.value.Property.TheVariants.{Single}
use Rattle.jr_value.specs.declared.value.Value.TheVariants as value
use Rattle.jr_tree.specs.declared.tree.Node.{Node}

-- a tree, as its nodes in the order of their paths
abbrev pub Nodes : Type 0
Nodes = List (Path × Node)

-- the node at a path
abbrev pub node_at : Nodes → Path → Option Node
node_at t p = lookup (is_at (path_cmp p)) t

-- the property of that name, of the node at a path
abbrev pub property_at : Nodes → Path → Name → Option Property
property_at t p n = option_and_then (λ node. lookup (is_at (name_cmp n)) node.props) (node_at t p)

-- the revision that added a node, or none while its adding is pending
abbrev pub born_of : Option Node → Option Revision
born_of node = option_and_then (λ n. n.born) node

-- the revision that added the node at a path, where one is noted
abbrev pub born_at : Nodes → Path → Option Revision
born_at t p = born_of (node_at t p)

-- the tree without the revisions that added its nodes
abbrev pub undated : Nodes → Nodes
undated t = map (λ e. (e.0, record e.1 { born = None })) t

-- the node above stands; the root needs none
abbrev pub has_parent : Nodes → Path → Bool
has_parent t p = option_map_or (λ q. is_some (node_at t q)) (parent_of p) true

-- each name of a node stands once, in order
abbrev pub has_names_in_order : Nodes → Bool
has_names_in_order t = list_all (λ e. is_sorted name_cmp e.1.props) t

-- each path and each name stands once, in order; the root is there, and so is the parent of each node
pub record IsTree (t : Nodes) : Type 0 where
  pub paths : IsTrue (is_sorted path_cmp t)
  pub names : IsTrue (list_all (λ e. is_sorted name_cmp e.1.props) t)
  pub root : IsTrue (is_some (node_at t []))
  pub parents : IsTrue (list_all (λ e. has_parent t e.0) t)

-- q is the path of a child of p: the node above q is p
abbrev pub is_child_of : Path → Path → Bool
is_child_of p q = option_map_or (eq_by_cmp path_cmp p) (parent_of q) false

-- the last names of the children of p, in the order of names
abbrev pub children_of : Nodes → Path → List Name
children_of t p = filter_map (λ e. cond (is_child_of p e.0) (last_name e.0) None) t

-- the same, each with the revision that added the child
abbrev pub dated_children_of : Nodes → Path → List (Name × Option Revision)
dated_children_of t p = filter_map (λ e. cond (is_child_of p e.0) (option_map (λ n. (n, e.1.born)) (last_name e.0)) None) t

-- the nodes at or below p
abbrev pub subtree_of : Nodes → Path → Nodes
subtree_of t p = filter (λ e. is_under e.0 p) t

-- a node of this type, with no other property, and added by that revision
abbrev pub typed_node : Option Revision → Name → Node
typed_node born name = record { props = (codes "jcr:primaryType", Single (value.Name name)) ∷ []; born = born }

-- a pending node of this type, with no other property
abbrev pub node_of_type : Name → Node
node_of_type name = typed_node None name

-- the revision that added what is there before any commit
abbrev pub first_revision : Revision
first_revision = record { time = 0; counter = 0; cluster = 1 }

-- what is there before any commit: the root, and what is the repository's own
abbrev pub initial_tree : Nodes
initial_tree =
    ([], typed_node (Some first_revision) (codes "nt:unstructured"))
    ∷ (codes "jcr:system" ∷ [], typed_node (Some first_revision) (codes "rep:system"))
    ∷ (codes "jcr:system" ∷ codes "jcr:versionStorage" ∷ [], typed_node (Some first_revision) (codes "rep:versionStorage"))
    ∷ []
