-- Tuples of nodes, and what is asked of them.
use Rattle.std.specs.Prelude.{ℕ, Bool, false, ◌&&◌, ◌||◌, not, List, [], Option, is_some, slice_get}
use Rattle.std.specs.Option.{option_and_then, option_flatten, option_map, option_map_or, unwrap_or}
use Rattle.std.specs.Ordering.{eq_by_cmp}
use Rattle.std.specs.Map.{lookup}
use Rattle.std.specs.BTreeMap.{is_at}
use Rattle.jr_path.specs.Names.{name_cmp, path_cmp, is_under, last_name}
use Rattle.jr_path.specs.declared.name.Name.{Name}
use Rattle.jr_path.specs.declared.path.Path.{Path}
use Rattle.jr_value.specs.declared.value.Value.TheVariants as value
use Rattle.jr_value.specs.declared.value.Property.{Property}
use Rattle.jr_value.specs.declared.value.Property.TheVariants.{Single}
use Rattle.jr_tree.specs.declared.tree.Node.{Node}
use Rattle.jr_tree.specs.Trees.{is_child_of}
use Rattle.sql_query.specs.declared.query.PropertyOf.{PropertyOf}
use Rattle.sql_query.specs.declared.query.Operand.{Operand}
use Rattle.sql_query.specs.declared.query.Operand.TheVariants as operand
use Rattle.sql_query.specs.declared.query.Condition.{Condition}
use Rattle.sql_query.specs.declared.query.Condition.TheVariants as condition
use Rattle.sql_values.specs.declared.characters.Case.TheVariants.{Lower, Upper}
use Rattle.sql_values.specs.Texts.{lengths_of, in_case, cased, local_part}
use Rattle.sql_values.specs.Values.{some_compares}

-- a node with its path
abbrev pub Spot : Type 0
Spot = Path × Node

-- for each selector its node, or none where an outer join has none
abbrev pub Tuple : Type 0
Tuple = List (Option Spot)

-- the node of a selector
abbrev pub spot_of : Tuple → ℕ → Option Spot
spot_of t selector = option_flatten (slice_get t selector)

-- the property of that name, where there is a node that has it
abbrev pub property_in : Option Spot → Name → Option Property
property_in s n = option_and_then (λ e. lookup (is_at (name_cmp n)) e.1.props) s

-- a property of one selector's node in a tuple, where there is a node that has it
abbrev pub tuple_property : Tuple → PropertyOf → Option Property
tuple_property t p = property_in (spot_of t p.selector) p.name

-- the name of a node, which is empty for the root
abbrev pub node_name : Path → List ℕ
node_name p = unwrap_or (last_name p) []

-- what an operand is: a property, or nothing where a node or its property is missing
abbrev pub operand_of : Tuple → Operand → Option Property
operand_of t (operand.Property p) = tuple_property t p
operand_of t (operand.Length p) = option_map lengths_of (tuple_property t p)
operand_of t (operand.Name selector) = option_map (λ e. Single (value.Str (node_name e.0))) (spot_of t selector)
operand_of t (operand.LocalName selector) = option_map (λ e. Single (value.Str (local_part (node_name e.0)))) (spot_of t selector)
operand_of t (operand.Lower' b o) = option_map (in_case (cased Lower)) (operand_of t o)
operand_of t (operand.Upper' b o) = option_map (in_case (cased Upper)) (operand_of t o)

-- the first path is that of the same node as the second, of a child of it, or of a descendant of it
abbrev pub is_same_node : Path → Path → Bool
is_same_node p q = eq_by_cmp path_cmp p q

-- the first path is that of a child of the node at the second
abbrev pub is_child : Path → Path → Bool
is_child p q = is_child_of q p

-- the first path is that of a descendant of the node at the second
abbrev pub is_descendant : Path → Path → Bool
is_descendant p q = is_under p q && not (is_same_node p q)

-- there is a node, and its path passes
abbrev pub path_passes : (Path → Bool) → Option Spot → Bool
path_passes f s = option_map_or (λ e. f e.0) s false

-- the tuple is as the condition asks
abbrev pub holds : Tuple → Condition → Bool
holds t (condition.Not' b c) = not (holds t c)
holds t (condition.And' b c d e) = holds t c && holds t e
holds t (condition.Or' b c d e) = holds t c || holds t e
holds t (condition.Has p) = is_some (tuple_property t p)
holds t (condition.Compare o operator x) = some_compares operator (operand_of t o) x
holds t (condition.Same selector q) = path_passes (λ p. is_same_node p q) (spot_of t selector)
holds t (condition.Child selector q) = path_passes (λ p. is_child p q) (spot_of t selector)
holds t (condition.Descendant selector q) = path_passes (λ p. is_descendant p q) (spot_of t selector)
