-- What is known of a tree once an edit was made of it: nodes that come begin without children, and
-- the name of each child that comes or goes is put among the names of the node above, or taken away.
use Rattle.std.specs.Prelude.{cond, List, [], Option, is_some, ◌≡◌, ℕ, ◌<◌, ◌≤◌, length}
use Rattle.std.specs.Option.{option_map_or}
use Rattle.std.specs.declared.cmp.Ordering.TheVariants.{Less, Greater}
use Rattle.std.specs.List.{AllWithin, HoldsAt, fold}
use Rattle.std.specs.Map.{lookup, remove_entry, set_value}
use Rattle.std.specs.BTreeMap.{is_at, insert_entry}
use Rattle.jr_path.specs.Names.{last_name, name_cmp, parent_of, path_cmp}
use Rattle.jr_path.specs.declared.name.Name.{Name}
use Rattle.jr_path.specs.declared.path.Path.{Path}
use Rattle.jr_rev.specs.declared.revision.Revision.{Revision}
use Rattle.jr_tree.specs.declared.edit.Write.{Write}
use Rattle.jr_tree.specs.declared.edit.Write.TheVariants.{Here, Gone, Put, Unset}
use Rattle.jr_tree.specs.Edits.{applied}
use Rattle.jr_tree.specs.Trees.{Nodes, node_at}
use Rattle.jr_part.specs.Parts.{ChildNames, Knowledge}

-- the names of the children of nodes, by the paths of these
abbrev pub Lists : Type 0
Lists = List (Path × ChildNames)

-- a node that comes has no children before those that come with it
abbrev pub with_begun : Lists → Write → Lists
with_begun lists (Here p) = insert_entry path_cmp lists p []
with_begun lists (Gone p) = lists
with_begun lists (Put p n x) = lists
with_begun lists (Unset p n) = lists

-- the names at p changed, where they are known
abbrev pub with_changed : (ChildNames → ChildNames) → Lists → Path → Lists
with_changed change lists p =
    option_map_or (λ names. set_value (is_at (path_cmp p)) lists (change names))
    (lookup (is_at (path_cmp p)) lists) lists

-- the names of the node above p changed at the last name of p
abbrev pub with_change_above : (Name → ChildNames → ChildNames) → Lists → Path → Lists
with_change_above change lists p =
    option_map_or (λ n. option_map_or (with_changed (change n) lists) (parent_of p) lists)
    (last_name p) lists

-- the name of a child, with the revision that added it
abbrev pub with_name : Option Revision → Name → ChildNames → ChildNames
with_name by n names = insert_entry name_cmp names n by

-- a list of children without the child of a name
abbrev pub without_name : Name → ChildNames → ChildNames
without_name n names = remove_entry (is_at (name_cmp n)) names

-- a child that comes is named in the list of the node above, and one that goes no more
abbrev pub with_listed : Option Revision → Lists → Write → Lists
with_listed by lists (Here p) = with_change_above (with_name by) lists p
with_listed by lists (Gone p) = with_change_above without_name lists p
with_listed by lists (Put p n x) = lists
with_listed by lists (Unset p n) = lists

-- the lists after an edit
abbrev pub lists_after : Option Revision → Lists → List Write → Lists
lists_after by lists ws = fold (with_listed by) (fold with_begun lists ws) ws

-- the paths without a node, with the root where an edit left none there
abbrev pub absent_after : Nodes → List (Path × Unit {0}) → List (Path × Unit {0})
absent_after t absent = cond (is_some (node_at t [])) absent (insert_entry path_cmp absent [] tt)

-- what is known once an edit by a revision was made of the tree
abbrev pub followed : Option Revision → Knowledge → List Write → Knowledge
followed by k ws = record {
  nodes = applied by k.nodes ws;
  absent = absent_after (applied by k.nodes ws) k.absent;
  lists = lists_after by k.lists ws;
}

-- the name stands at place i
pub record IsNamePlace (names : ChildNames) (name : Name) (i : ℕ) : Type 0 where
  pub within : i < length names
  pub there : HoldsAt (λ e. e.0 ≡ name) names i

-- the name is none of these, and would go to place i
pub record IsNameGap (names : ChildNames) (name : Name) (i : ℕ) : Type 0 where
  pub within : i ≤ length names
  pub front : AllWithin (λ e. name_cmp e.0 name ≡ Less) names 0 i
  pub back : AllWithin (λ e. name_cmp e.0 name ≡ Greater) names i (length names)
