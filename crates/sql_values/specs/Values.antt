-- How values compare, and how the values of a property are ordered.
use Rattle.std.specs.Prelude.{Bool, false, List, [], ◌∷◌, Option}
use Rattle.std.specs.List.{list_any}
use Rattle.std.specs.Option.{option_cmp, option_map, option_map_or, unwrap_or}
use Rattle.std.specs.Ordering.{is_eq, is_ne, is_lt, is_le, is_gt, is_ge, nat_cmp, on, ordering_then}
use Rattle.std.specs.Cmp.Lexicographic.{slice_cmp}
use Rattle.std.specs.declared.cmp.Ordering.{Ordering}
use Rattle.std.specs.declared.cmp.Ordering.TheVariants.{Equal}
use Rattle.jr_path.specs.Ids.{path_text}
use Rattle.jr_value.specs.Order.{value_cmp}
use Rattle.jr_value.specs.Values.{kind_of, kind_number}
use Rattle.jr_value.specs.declared.value.Value.{Value}
use Rattle.jr_value.specs.declared.value.Value.TheVariants as value
use Rattle.jr_value.specs.declared.value.Property.{Property}
use Rattle.jr_value.specs.declared.value.Property.TheVariants.{Single, Many}
use Rattle.sql_query.specs.declared.query.Operator.{Operator}
use Rattle.sql_query.specs.declared.query.Operator.TheVariants as op
use Rattle.sql_query.specs.declared.query.Direction.{Direction}
use Rattle.sql_query.specs.declared.query.Direction.TheVariants.{Ascending, Descending}
use Rattle.sql_values.specs.Patterns.{is_like}

-- LIKE compares two values of one kind that have a text of their own: STRING, NAME, PATH and URI
abbrev pub value_like : Value → Value → Bool
value_like (value.Str a) (value.Str pattern) = is_like a pattern
value_like (value.Name a) (value.Name pattern) = is_like a pattern
value_like (value.Path a) (value.Path pattern) = is_like (path_text a) (path_text pattern)
value_like (value.Uri a) (value.Uri pattern) = is_like a pattern
value_like _ _ = false

-- an order is as the operator asks
abbrev pub order_is : Operator → Ordering → Bool
order_is op.Equal o = is_eq o
order_is op.Unequal o = is_ne o
order_is op.Less o = is_lt o
order_is op.AtMost o = is_le o
order_is op.Greater o = is_gt o
order_is op.AtLeast o = is_ge o
order_is op.Like o = false

-- there is an order, and it is as the operator asks
abbrev pub is_ordered : Operator → Option Ordering → Bool
is_ordered operator o = option_map_or (order_is operator) o false

-- the first value compares so with the second; values of two kinds have no order, so they never do
abbrev pub compares : Operator → Value → Value → Bool
compares op.Like x y = value_like x y
compares operator x y = is_ordered operator (value_cmp x y)

-- the values of a property; one that is missing has none
abbrev pub values_of : Property → List Value
values_of (Single x) = x ∷ []
values_of (Many k xs) = xs

-- the values of a property of a node, none where the node has no such property
abbrev pub values_in : Option Property → List Value
values_in o = option_map_or values_of o []

-- some value of a property compares so with a value
abbrev pub some_compares : Operator → Option Property → Value → Bool
some_compares operator o y = list_any (λ x. compares operator x y) (values_in o)

-- some value of the first property equals some value of the second
abbrev pub some_equal : Option Property → Option Property → Bool
some_equal o p = list_any (λ y. some_compares op.Equal o y) (values_in p)

-- values by the number of their kind, and within one kind by their order
abbrev pub kinds_first : Value → Value → Ordering
kinds_first x y = ordering_then (nat_cmp (kind_number (kind_of x)) (kind_number (kind_of y))) (unwrap_or (value_cmp x y) Equal)

-- a missing property first, the others by their values as lists
abbrev pub missing_first : Option Property → Option Property → Ordering
missing_first = on (option_map values_of) (option_cmp (slice_cmp kinds_first))

-- an order, or the same the other way round
abbrev pub directed : {X : Type 0} → Direction → (X → X → Ordering) → X → X → Ordering
directed Ascending cmp x y = cmp x y
directed Descending cmp x y = cmp y x
