-- The nodes of a selector, and joins of selectors.
use Rattle.std.specs.Prelude.{ℕ, ◌+◌, Bool, false, not, List, [], ◌∷◌, ◌++◌, Option, Some, None, codes, map}
use Rattle.std.specs.List.{filter, flat_map, list_any, repeat, zip}
use Rattle.std.specs.Ordering.{eq_by_cmp}
use Rattle.std.specs.Map.{lookup}
use Rattle.std.specs.BTreeMap.{is_at}
use Rattle.jr_path.specs.Names.{name_cmp}
use Rattle.jr_path.specs.declared.name.Name.{Name}
use Rattle.jr_path.specs.declared.path.Path.{Path}
use Rattle.jr_value.specs.declared.value.Value.{Value}
use Rattle.jr_value.specs.declared.value.Value.TheVariants as value
use Rattle.jr_tree.specs.declared.tree.Node.{Node}
use Rattle.jr_tree.specs.Trees.{Nodes}
use Rattle.sql_query.specs.declared.query.Join.{Join}
use Rattle.sql_query.specs.declared.query.JoinKind.{JoinKind}
use Rattle.sql_query.specs.declared.query.JoinKind.TheVariants.{Inner, LeftOuter, RightOuter}
use Rattle.sql_query.specs.declared.query.On.{On}
use Rattle.sql_query.specs.declared.query.On.TheVariants as join_on
use Rattle.sql_values.specs.Values.{some_equal, values_in}
use Rattle.sql_eval.specs.Conditions.{Spot, Tuple, spot_of, tuple_property, path_passes, is_same_node, is_child, is_descendant}

-- whether the value is a NAME among these
abbrev pub is_name_among : List Name → Value → Bool
is_name_among set (value.Name n) = list_any (eq_by_cmp name_cmp n) set
is_name_among set _ = false

-- the properties that have the types of a node
abbrev pub type_properties : List Name
type_properties = codes "jcr:primaryType" ∷ codes "jcr:mixinTypes" ∷ []

-- whether the property of that name has one of these types
abbrev pub is_typed : List Name → Node → Name → Bool
is_typed set node n = list_any (is_name_among set) (values_in (lookup (is_at (name_cmp n)) node.props))

-- whether the primary type or a mixin of a node is among these
abbrev pub is_among_types : List Name → Node → Bool
is_among_types set node = list_any (is_typed set node) type_properties

-- the nodes of a selector, in path order
abbrev pub nodes_of_type : Nodes → List Name → List Spot
nodes_of_type tree set = filter (λ e. is_among_types set e.1) tree

-- there are two nodes, and their paths pass
abbrev pub paths_pass : (Path → Path → Bool) → Option Spot → Option Spot → Bool
paths_pass f s r = path_passes (λ q. path_passes (λ p. f p q) s) r

-- the nodes of a tuple are as the join condition asks
abbrev pub joins : On → Tuple → Bool
joins (join_on.Equal p q) t = some_equal (tuple_property t p) (tuple_property t q)
joins (join_on.Same a b) t = paths_pass is_same_node (spot_of t a) (spot_of t b)
joins (join_on.Child a b) t = paths_pass is_child (spot_of t a) (spot_of t b)
joins (join_on.Descendant a b) t = paths_pass is_descendant (spot_of t a) (spot_of t b)

-- a tuple with one more node
abbrev pub with_spot : Tuple → Spot → Tuple
with_spot l r = l ++ Some r ∷ []

-- all pairs of a tuple and a node that are as the join condition asks
abbrev pub pairs : On → List Tuple → List Spot → List Tuple
pairs on ls rs = filter (joins on) (flat_map (λ l. map (with_spot l) rs) ls)

-- a tuple, or a node, has no partner
abbrev pub is_lonely_tuple : On → List Spot → Tuple → Bool
is_lonely_tuple on rs l = not (list_any (λ r. joins on (with_spot l r)) rs)

-- a node has no partner among the tuples
abbrev pub is_lonely_spot : On → List Tuple → Spot → Bool
is_lonely_spot on ls r = not (list_any (λ l. joins on (with_spot l r)) ls)

-- the tuples that have no partner, each with a missing node
abbrev pub lonely_tuples : On → List Tuple → List Spot → List Tuple
lonely_tuples on ls rs = map (λ l. l ++ None ∷ []) (filter (is_lonely_tuple on rs) ls)

-- the nodes that have no partner, each behind so many missing nodes
abbrev pub lonely_spots : On → ℕ → List Tuple → List Spot → List Tuple
lonely_spots on n ls rs = map (λ r. repeat n (None ∷ []) ++ Some r ∷ []) (filter (is_lonely_spot on ls) rs)

-- what an outer join has besides the pairs
abbrev pub lonely : JoinKind → On → ℕ → List Tuple → List Spot → List Tuple
lonely Inner on n ls rs = []
lonely LeftOuter on n ls rs = lonely_tuples on ls rs
lonely RightOuter on n ls rs = lonely_spots on n ls rs

-- tuples of n selectors joined with the nodes of one more
abbrev pub joined_tuples : Join → ℕ → List Tuple → List Spot → List Tuple
joined_tuples j n ls rs = pairs j.on ls rs ++ lonely j.kind j.on n ls rs

-- tuples of n selectors joined with those of all others, from left to right
abbrev pub joined_all : Nodes → ℕ → List Tuple → List (Join × List Name) → List Tuple
joined_all tree n ls [] = ls
joined_all tree n ls (j ∷ js) = joined_all tree (n + 1) (joined_tuples j.0 n ls (nodes_of_type tree j.1)) js

-- the tuples of all selectors, each with the set of its types
abbrev pub tuples_of : Nodes → List Join → List (List Name) → List Tuple
tuples_of tree js [] = []
tuples_of tree js (set ∷ sets) = joined_all tree 1 (map (λ e. Some e ∷ []) (nodes_of_type tree set)) (zip js sets)
