-- Parts of a tree: what is known of a tree so far, what a need asks of that, and what lacks.
use Rattle.std.specs.Prelude.{◌≡◌, ◌++◌, Bool, true, false, cond, ◌&&◌, List, [], ◌∷◌, ℕ, Option, None, Some, is_some, IsTrue, IsFalse}
use Rattle.std.specs.declared.cmp.Ordering.{Ordering}
use Rattle.std.specs.Option.{option_map_or}
use Rattle.std.specs.Ordering.{is_le, nat_cmp, on, then_cmp}
use Rattle.std.specs.Map.{lookup, remove_entry}
use Rattle.std.specs.BTreeMap.{is_at, insert_entry}
use Rattle.std.specs.FinMap.{is_sorted}
use Rattle.jr_path.specs.Names.{name_cmp, path_cmp}
use Rattle.jr_path.specs.declared.name.Name.{Name}
use Rattle.jr_path.specs.declared.path.Path.{Path}
use Rattle.jr_rev.specs.declared.revision.Revision.{Revision}
use Rattle.jr_tree.specs.declared.tree.Node.{Node}
use Rattle.jr_tree.specs.Trees.{Nodes, dated_children_of, node_at}
use Rattle.jr_part.specs.declared.need.Need.{Need}
use Rattle.jr_part.specs.declared.need.Need.TheVariants as need

-- the names of the children of a node, each with the revision that added the child
abbrev pub ChildNames : Type 0
ChildNames = List (Name × Option Revision)

-- what is known of a tree: nodes that are there, paths without a node, and the children of nodes
pub record Knowledge : Type 0 where
  pub nodes : Nodes
  pub absent : List (Path × Unit {0})
  pub lists : List (Path × ChildNames)

-- what is known of a tree before anything was read
abbrev pub nothing_known : Knowledge
nothing_known = record { nodes = []; absent = []; lists = [] }

-- no node is known to be at p
abbrev pub is_absent : Knowledge → Path → Bool
is_absent k p = is_some (lookup (is_at (path_cmp p)) k.absent)

-- what is known of the node at p: the node that is there, or that none is
abbrev pub known_at : Knowledge → Path → Option (Option Node)
known_at k p =
    cond (is_some (node_at k.nodes p))
    (Some (node_at k.nodes p))
    (cond (is_absent k p) (Some None) None)

-- the children of p, where they are known
abbrev pub list_at : Knowledge → Path → Option ChildNames
list_at k p = lookup (is_at (path_cmp p)) k.lists

-- a list of children has one of the name
abbrev pub has_name : ChildNames → Name → Bool
has_name names n = is_some (lookup (is_at (name_cmp n)) names)

-- a child of that name is known to be below p
abbrev pub lists_child : Knowledge → Path → Name → Bool
lists_child k p n = option_map_or (λ names. has_name names n) (list_at k p) false

-- the names lead down from p: each is a child's of the node above, which is there
abbrev pub leads_down : Knowledge → Path → List Name → Bool
leads_down k p [] = true
leads_down k p (n ∷ ns) =
    is_some (node_at k.nodes p) && lists_child k p n && leads_down k (p ++ n ∷ []) ns

-- names lead down from p to q
pub record IsReached (k : Knowledge) (p q : Path) : Type 0 where
  pub names : List Name
  pub path : q ≡ p ++ names
  pub down : IsTrue (leads_down k p names)

-- a subtree asks for each node that names lead down to, and for the children of each that is there
abbrev pub AsksBelow : Knowledge → Path → Need → Type 0
AsksBelow k p (need.Node q) = IsReached k p q
AsksBelow k p (need.Children q) = IsReached k p q × IsTrue (is_some (node_at k.nodes q))
AsksBelow k p (need.Subtree q) = ⊥
AsksBelow k p need.All = ⊥

-- what a need asks of a tree of which so much is known: nodes, and children of nodes
abbrev pub AsksOf : Knowledge → Need → Need → Type 0
AsksOf k (need.Node p) asked = asked ≡ need.Node p
AsksOf k (need.Children p) asked = asked ≡ need.Children p
AsksOf k (need.Subtree p) asked = AsksBelow k p asked
AsksOf k need.All asked = AsksBelow k [] asked

-- the answer to what is asked is known
abbrev pub knows : Knowledge → Need → Bool
knows k (need.Node p) = is_some (known_at k p)
knows k (need.Children p) = is_some (list_at k p)
knows k (need.Subtree p) = true
knows k need.All = true

-- the path that a need is about; of the whole tree the root
abbrev pub need_path : Need → Path
need_path (need.Node p) = p
need_path (need.Children p) = p
need_path (need.Subtree p) = p
need_path need.All = []

-- a need's rank among those at one path: node, children, subtree, all
abbrev pub need_rank : Need → ℕ
need_rank (need.Node p) = 0
need_rank (need.Children p) = 1
need_rank (need.Subtree p) = 2
need_rank need.All = 3

-- in path order, and at one path the node before its children
abbrev pub need_cmp : Need → Need → Ordering
need_cmp = then_cmp (on need_path path_cmp) (on need_rank nat_cmp)

-- nothing lacks: each answer that a need asks for is known
abbrev pub LacksNothing : Knowledge → Need → Type 0
LacksNothing k wanted = (asked : Need) → AsksOf k wanted asked → IsTrue (knows k asked)

-- the first answer that a need asks for and that isn't known
pub record IsFirstLacking (k : Knowledge) (wanted lacking : Need) : Type 0 where
  pub asked : AsksOf k wanted lacking
  pub unknown : IsFalse (knows k lacking)
  pub first : (other : Need) → AsksOf k wanted other → IsFalse (knows k other)
      → IsTrue (is_le (need_cmp lacking other))

-- what lacks first of all that a need asks for, or None where nothing lacks
abbrev pub Lacks : Knowledge → Need → Option Need → Type 0
Lacks k wanted None = LacksNothing k wanted
Lacks k wanted (Some lacking) = IsFirstLacking k wanted lacking

-- what is known agrees with a tree: each answer is what the tree has there
pub record AgreesWith (t : Nodes) (k : Knowledge) : Type 0 where
  pub nodes : (p : Path) (answer : Option Node) → known_at k p ≡ Some answer → answer ≡ node_at t p
  pub lists : (p : Path) (names : ChildNames) → list_at k p ≡ Some names
      → names ≡ dated_children_of t p

-- the names of each list rise
abbrev pub HaveRisingNames : List (Path × ChildNames) → Type 0
HaveRisingNames lists =
    (p : Path) (names : ChildNames) → lookup (is_at (path_cmp p)) lists ≡ Some names
    → IsTrue (is_sorted name_cmp names)

-- with the answer for the node at p in the place of an earlier one
abbrev pub with_node : Knowledge → Path → Option Node → Knowledge
with_node k p (Some node) =
    record k {
      nodes = insert_entry path_cmp k.nodes p node;
      absent = remove_entry (is_at (path_cmp p)) k.absent;
    }
with_node k p None =
    record k {
      nodes = remove_entry (is_at (path_cmp p)) k.nodes;
      absent = insert_entry path_cmp k.absent p tt;
    }

-- with the children of p in the place of earlier ones
abbrev pub with_children : Knowledge → Path → ChildNames → Knowledge
with_children k p names = record k { lists = insert_entry path_cmp k.lists p names }
