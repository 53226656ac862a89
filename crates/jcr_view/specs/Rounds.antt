-- Rounds of loading: what lacks first of what is asked is loaded, and then it is asked again.
use Rattle.std.specs.Prelude.{◌≡◌, ◌+◌, ℕ, Bool, true, false, cond, List, [], ◌∷◌, Option, None, Some, Contains, ⊤}
use Rattle.std.specs.Option.{option_map_or}
use Rattle.jr_path.specs.Names.{parent_of}
use Rattle.jr_path.specs.declared.path.Path.{Path}
use Rattle.jr_tree.specs.Trees.{Nodes, dated_children_of, node_at}
use Rattle.jr_tree.specs.declared.shared.Who.{Who}
use Rattle.jr_tree.specs.declared.tree.Node.{Node}
use Rattle.jr_items.specs.Names.{version_storage}
use Rattle.jr_part.specs.Parts.{Knowledge, Lacks, knows, with_children, with_node}
use Rattle.jr_part.specs.declared.need.Need.{Need}
use Rattle.jr_part.specs.declared.need.Need.TheVariants as need
use Rattle.jcr_trans.specs.declared.command.Command.{Command}
use Rattle.jcr_trans.specs.declared.command.Command.TheVariants as command
use Rattle.jcr_write.specs.Places.{above}
use Rattle.jcr_mixin.specs.Histories.{due_history}

-- the need is of one node, or of the children of one
abbrev pub is_of_one_node : Need → Bool
is_of_one_node (need.Node p) = true
is_of_one_node (need.Children p) = true
is_of_one_node (need.Subtree p) = false
is_of_one_node need.All = false

-- what is known once a tree's answer to a need of one node is put
abbrev pub need_answered : Nodes → Knowledge → Need → Knowledge
need_answered t k (need.Node p) = with_node k p (node_at t p)
need_answered t k (need.Children p) = with_children k p (dated_children_of t p)
need_answered t k (need.Subtree p) = k
need_answered t k need.All = k

-- loads one after another: each is what lacks first of some need by then, and a tree answers it
abbrev pub AreLoads : Nodes → Knowledge → List Need → Type 0
AreLoads t k [] = ⊤
AreLoads t k (load ∷ loads) =
    (wanted : Need) × Lacks k wanted (Some load) × AreLoads t (need_answered t k load) loads

-- loads one after another, where what is asked goes by what is known: each is what lacks first of
-- one of the needs asked by then, and a tree answers it
abbrev pub AreLoadsOf : (asks : Knowledge → List Need) → Nodes → Knowledge → List Need → Type 0
AreLoadsOf asks t k [] = ⊤
AreLoadsOf asks t k (load ∷ loads) =
    (wanted : Need) × Contains (asks k) wanted × Lacks k wanted (Some load)
    × AreLoadsOf asks t (need_answered t k load) loads

-- the need is of a node that isn't there
abbrev pub IsOfNone : Nodes → Need → Type 0
IsOfNone t (need.Node p) = node_at t p ≡ None
IsOfNone t (need.Children p) = ⊥
IsOfNone t (need.Subtree p) = ⊥
IsOfNone t need.All = ⊥

-- how many of some needs are unknown
abbrev pub unknown_of : Knowledge → List Need → ℕ
unknown_of k [] = 0
unknown_of k (n ∷ ns) = cond (knows k n) 0 1 + unknown_of k ns

-- the nodes at these paths
abbrev pub nodes_at : List Path → List Need
nodes_at [] = []
nodes_at (p ∷ ps) = need.Node p ∷ nodes_at ps

-- all that may be loaded of a tree: each node of it and its children, and the nodes at these paths,
-- there or not
abbrev pub loadable : List Path → Nodes → List Need
loadable ps [] = nodes_at ps
loadable ps (e ∷ t) = need.Node e.0 ∷ need.Children e.0 ∷ loadable ps t

-- the path, where there is one
abbrev pub one_path : Option Path → List Path
one_path path = option_map_or (λ p. p ∷ []) path []

-- the paths that a command names, where the view has these nodes; the root, where it asks for the
-- whole tree
abbrev pub paths_named : Who → (node : Path → Option Node) → Command → List Path
paths_named who node (command.Add p type) = p ∷ above p ∷ []
paths_named who node (command.Tree p parts) = p ∷ above p ∷ version_storage ∷ []
paths_named who node (command.Set p n x) = p ∷ []
paths_named who node (command.Unset p n) = p ∷ []
paths_named who node (command.Remove p) = p ∷ above p ∷ []
paths_named who node (command.Move p q) = p ∷ q ∷ above q ∷ []
paths_named who node (command.Mixin p n) = p ∷ one_path (due_history who who.ids (node p))
paths_named who node (command.Unmixin p n) = p ∷ []
paths_named who node (command.SetType p n) = p ∷ []
paths_named who node (command.OrderBefore p n) = p ∷ above p ∷ []
paths_named who node (command.Get p) = one_path (parent_of p)
paths_named who node (command.List p) = p ∷ []
paths_named who node (command.Props p) = p ∷ []
paths_named who node (command.Id p) = p ∷ []
paths_named who node (command.ById id) = [] ∷ []
paths_named who node (command.Refs p) = [] ∷ []
paths_named who node (command.Versions p) = [] ∷ []
paths_named who node _ = []
