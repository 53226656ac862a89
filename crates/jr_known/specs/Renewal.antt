-- What is known of an earlier tree, while it becomes what is known of the new one.
use Rattle.std.specs.Prelude.{◌≡◌, ◌∷◌, ◌++◌, [], List, Contains, Option, Some, None, cond, is_some, IsTrue}
use Rattle.std.specs.BTreeMap.{is_at}
use Rattle.std.specs.Map.{lookup}
use Rattle.std.specs.Option.{option_map}
use Rattle.std.specs.Ordering.{eq_by_cmp}
use Rattle.jr_path.specs.Names.{name_cmp, path_cmp}
use Rattle.jr_path.specs.declared.name.Name.{Name}
use Rattle.jr_path.specs.declared.path.Path.{Path}
use Rattle.jr_rev.specs.declared.revision.Revision.{Revision}
use Rattle.jr_tree.specs.declared.tree.Node.{Node}
use Rattle.jr_tree.specs.Trees.{Nodes, node_at}
use Rattle.jr_part.specs.Parts.{ChildNames, Knowledge, list_at, with_children}
use Rattle.jr_part.specs.Follows.{with_name, without_name}

-- the revision that added a node, where there is one
abbrev pub born_in : Option Node → Option (Option Revision)
born_in node = option_map {T = Node} (λ n. n.born) node

-- the names of children with that of one, added by that revision, or without it
abbrev pub with_child : Option (Option Revision) → Name → ChildNames → ChildNames
with_child (Some by) n names = with_name by n names
with_child None n names = without_name n names

-- where no node is at p it is known that it has no children
abbrev pub with_list_begun : Knowledge → Path → Knowledge
with_list_begun k p = cond (is_some (node_at k.nodes p)) k (with_children k p [])

-- among the children of the node above p, where they are known, the one at p stands as it is now,
-- and nothing else changed
pub record ListsChild (old new : Knowledge) (p : Path)
    (born : Option (Option Revision)) : Type 0 where
  pub nodes : new.nodes ≡ old.nodes
  pub known : (q : Path) → is_some (list_at new q) ≡ is_some (list_at old q)
  pub named : (q : Path) (n : Name) (before after : ChildNames) → list_at old q ≡ Some before
      → list_at new q ≡ Some after → lookup (is_at (name_cmp n)) after
      ≡ cond (eq_by_cmp path_cmp (q ++ n ∷ []) p) born (lookup (is_at (name_cmp n)) before)

-- what is known is the new tree's, but for the nodes at the paths that are left, and their names
-- above
pub record IsRenewedBut (t : Nodes) (left : List Path) (k : Knowledge) : Type 0 where
  pub nodes : (p : Path) → (Contains left p → ⊥) → node_at k.nodes p ≡ node_at t p
  pub named : (p : Path) (n : Name) (names : ChildNames) → list_at k p ≡ Some names
      → (Contains left (p ++ n ∷ []) → ⊥)
      → lookup (is_at (name_cmp n)) names ≡ born_in (node_at t (p ++ n ∷ []))

-- the children of each node that is there, and of each told path, are known
pub record AreListed (told : List Path) (k : Knowledge) : Type 0 where
  pub there : (p : Path) → IsTrue (is_some (node_at k.nodes p)) → IsTrue (is_some (list_at k p))
  pub changed : (p : Path) → Contains told p → IsTrue (is_some (list_at k p))
