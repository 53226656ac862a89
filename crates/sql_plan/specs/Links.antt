-- By what the tuples of some selectors and the nodes of one more find each other.
use Rattle.std.specs.Prelude.{ℕ, ◌+◌, ◌==◌, Bool, true, false, List, [], ◌∷◌, ◌++◌, Option, Some, map, slice_get}
use Rattle.std.specs.List.{filter_map}
use Rattle.std.specs.Option.{option_map_or}
use Rattle.jr_path.specs.Names.{parent_of}
use Rattle.jr_path.specs.declared.name.Name.{Name}
use Rattle.jr_path.specs.declared.path.Path.{Path as PathOf}
use Rattle.jr_value.specs.declared.value.Value.{Value as ValueOf}
use Rattle.sql_query.specs.declared.query.On.{On}
use Rattle.sql_query.specs.declared.query.On.TheVariants as join_on
use Rattle.sql_query.specs.declared.query.PropertyOf.{PropertyOf}
use Rattle.sql_eval.specs.Conditions.{Spot, Tuple, property_in, tuple_property, spot_of}
use Rattle.sql_values.specs.Values.{values_in}
use Rattle.sql_plan.specs.Index.{Sought, Any, Value, Path}
use Rattle.sql_plan.specs.declared.link.Link.{Link}
use Rattle.sql_plan.specs.declared.link.Link.TheVariants as link
use Rattle.sql_plan.specs.declared.link.Reach.{Reach}
use Rattle.sql_plan.specs.declared.link.Reach.TheVariants.{Itself, Parent, Above}

-- nothing, a value of two properties, or a path that both reach
pub data Linked : Type 0 where
  All : Linked
  Equal : PropertyOf → Name → Linked
  Paths : (selector : ℕ) → Reach → Reach → Linked

-- a link, without where it lies in memory
abbrev pub linked : Link → Linked
linked link.All = All
linked (link.Equal p n) = Equal p.now n.now
linked (link.Paths selector a b) = Paths selector a b

-- what is asked of one of the new selector's two sides: only where one side is its own, they find each other
abbrev pub chosen : Bool → Bool → Linked → Linked → Linked
chosen true false a b = a
chosen false true a b = b
chosen _ _ a b = All

-- the link of a join on two equal properties, where n is the new selector
abbrev pub equal_link : PropertyOf → PropertyOf → ℕ → Linked
equal_link p q n = chosen (p.selector == n) (q.selector == n) (Equal q p.name) (Equal p q.name)

-- the link of a join where a's node reaches the path of b's, and n is the new selector
abbrev pub paths_link : ℕ → ℕ → Reach → ℕ → Linked
paths_link a b reach n = chosen (a == n) (b == n) (Paths b Itself reach) (Paths a reach Itself)

-- the link of tuples of n selectors and the nodes of the next
abbrev pub link_of : On → ℕ → Linked
link_of (join_on.Equal p q) n = equal_link p q n
link_of (join_on.Same a b) n = paths_link a b Itself n
link_of (join_on.Child a b) n = paths_link a b Parent n
link_of (join_on.Descendant a b) n = paths_link a b Above n

-- values, each as what is sought
abbrev pub values_sought : List ValueOf → List Sought
values_sought xs = map Value xs

-- the paths above one, from the root on
abbrev pub paths_above : PathOf → List PathOf
paths_above [] = []
paths_above (n ∷ ns) = [] ∷ map (λ p. n ∷ p) (paths_above ns)

-- the paths that a node reaches
abbrev pub reached : Reach → PathOf → List Sought
reached Itself p = Path p ∷ []
reached Parent p = option_map_or (λ q. Path q ∷ []) (parent_of p) []
reached Above p = map Path (paths_above p)

-- the paths that a node of a tuple reaches; none where the node is missing
abbrev pub reached_by : Reach → Option Spot → List Sought
reached_by reach s = option_map_or (λ e. reached reach e.0) s []

-- the keys of a tuple, and of a node
abbrev pub keys_of_tuple : Linked → Tuple → List Sought
keys_of_tuple All t = Any ∷ []
keys_of_tuple (Equal p n) t = values_sought (values_in (tuple_property t p))
keys_of_tuple (Paths selector a b) t = reached_by a (spot_of t selector)

-- the keys of a node of the new selector
abbrev pub keys_of_node : Linked → Spot → List Sought
keys_of_node All r = Any ∷ []
keys_of_node (Equal p n) r = values_sought (values_in (property_in (Some r) n))
keys_of_node (Paths selector a b) r = reached_by b (Some r)

-- each key of each element with its place, from k on
abbrev pub placed : {X : Type 0} → (X → List Sought) → ℕ → List X → List (Sought × ℕ)
placed keys k [] = []
placed keys k (x ∷ xs) = map (λ s. (s, k)) (keys x) ++ placed keys (k + 1) xs

-- the elements at these places
abbrev pub at_places : {X : Type 0} → List X → List ℕ → List X
at_places xs ps = filter_map (slice_get xs) ps
