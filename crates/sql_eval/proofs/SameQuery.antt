-- Queries that are the same but for where their parts lie in memory have the same rows.
use Rattle.std.proofs.Common.{◌≡◌, Bool, not, ◌&&◌, ◌||◌, List, [], ◌∷◌, Option, None, Some, map, filter, refl, sym, ap, subst, ◌∙◌}
use Rattle.std.specs.Prelude.{is_some}
use Rattle.std.specs.Option.{option_map}
use Rattle.std.specs.Ordering.{on, ordering_then}
use Rattle.std.specs.declared.cmp.Ordering.{Ordering}
use Rattle.std.specs.declared.cmp.Ordering.TheVariants.{Equal}
use Rattle.jr_path.specs.declared.name.Name.{Name}
use Rattle.jr_tree.specs.Trees.{Nodes}
use Rattle.jr_value.specs.declared.value.Property.{Property}
use Rattle.jr_value.specs.declared.value.Property.TheVariants.{Single}
use Rattle.jr_value.specs.declared.value.Value.TheVariants as value
use Rattle.sql_query.specs.Trees.{AskedQuery, By, Look, Test, asked_of, by_of, look_of, test_of}
use Rattle.sql_query.specs.Trees as tree
use Rattle.sql_query.specs.declared.query.Condition.{Condition}
use Rattle.sql_query.specs.declared.query.Condition.TheVariants as condition
use Rattle.sql_query.specs.declared.query.Operand.{Operand}
use Rattle.sql_query.specs.declared.query.Operand.TheVariants as operand
use Rattle.sql_query.specs.declared.query.Order.{Order}
use Rattle.sql_query.specs.declared.query.Query.{Query}
use Rattle.sql_values.specs.declared.characters.Case.TheVariants.{Lower, Upper}
use Rattle.sql_eval.specs.declared.row.Row.{Row}
use Rattle.sql_eval.specs.Conditions.{Tuple, holds, is_child, is_descendant, is_same_node, node_name, operand_of, path_passes, tuple_property, spot_of}
use Rattle.sql_eval.specs.Joins.{tuples_of}
use Rattle.sql_eval.specs.Rows.{AreRows, IsStablySorted, by_orders, by_paths, filtered, row_of, that_pass}
use Rattle.sql_values.specs.Texts.{cased, in_case, lengths_of, local_part}
use Rattle.sql_values.specs.Values.{directed, missing_first, some_compares}

-- what an operand is, of the operand without its places in memory
abbrev look_at : Tuple → Look → Option Property
look_at t (tree.Property p) = tuple_property t p
look_at t (tree.Length p) = option_map lengths_of (tuple_property t p)
look_at t (tree.Name selector) = option_map (λ e. Single (value.Str (node_name e.0))) (spot_of t selector)
look_at t (tree.LocalName selector) = option_map (λ e. Single (value.Str (local_part (node_name e.0)))) (spot_of t selector)
look_at t (tree.Lower o) = option_map (in_case (cased Lower)) (look_at t o)
look_at t (tree.Upper o) = option_map (in_case (cased Upper)) (look_at t o)

operand_is : (t : Tuple) (o : Operand) → operand_of t o ≡ look_at t (look_of o)
operand_is t (operand.Property p) = refl
operand_is t (operand.Length p) = refl
operand_is t (operand.Name selector) = refl
operand_is t (operand.LocalName selector) = refl
operand_is t (operand.Lower' b o) = ap (option_map (in_case (cased Lower))) (operand_is t o)
operand_is t (operand.Upper' b o) = ap (option_map (in_case (cased Upper))) (operand_is t o)

-- whether a tuple is as a condition asks, of the condition without its places in memory
abbrev passes : Tuple → Test → Bool
passes t (tree.Not c) = not (passes t c)
passes t (tree.And c d) = passes t c && passes t d
passes t (tree.Or c d) = passes t c || passes t d
passes t (tree.Has p) = is_some (tuple_property t p)
passes t (tree.Compare o operator x) = some_compares operator (look_at t o) x
passes t (tree.Same selector q) = path_passes (λ p. is_same_node p q) (spot_of t selector)
passes t (tree.Child selector q) = path_passes (λ p. is_child p q) (spot_of t selector)
passes t (tree.Descendant selector q) = path_passes (λ p. is_descendant p q) (spot_of t selector)

holds_is : (t : Tuple) (c : Condition) → holds t c ≡ passes t (test_of c)
holds_is t (condition.Not' b c) = ap not (holds_is t c)
holds_is t (condition.And' b c d e) = λ i. holds_is t c i && holds_is t e i
holds_is t (condition.Or' b c d e) = λ i. holds_is t c i || holds_is t e i
holds_is t (condition.Has p) = refl
holds_is t (condition.Compare o operator x) = ap (λ (y : Option Property). some_compares operator y x) (operand_is t o)
holds_is t (condition.Same selector q) = refl
holds_is t (condition.Child selector q) = refl
holds_is t (condition.Descendant selector q) = refl

abbrev pass_all : Option Test → List Tuple → List Tuple
pass_all None ts = ts
pass_all (Some c) ts = filter (λ t. passes t c) ts

pass_is : (f : Option Condition) (ts : List Tuple) → that_pass f ts ≡ pass_all (option_map test_of f) ts
pass_is None ts = refl
pass_is (Some c) ts = λ i. filter (λ t. holds_is t c i) ts

abbrev orders_by : List By → Tuple → Tuple → Ordering
orders_by [] t u = Equal
orders_by (o ∷ os) t u = ordering_then (on (λ x. look_at x o.look) (directed o.direction missing_first) t u) (orders_by os t u)

orders_are : (os : List Order) → by_orders os ≡ orders_by (map by_of os)
orders_are [] = refl
orders_are (o ∷ os) = λ i t u. ordering_then (directed o.direction missing_first (operand_is t o.operand i) (operand_is u o.operand i)) (orders_are os i t u)

module _ (q r : Query) (same : asked_of q ≡ asked_of r) where
  orders_same : by_orders q.orders ≡ by_orders r.orders
  orders_same = orders_are q.orders ∙ (ap (λ (a : AskedQuery). orders_by a.orders) same ∙ sym (orders_are r.orders))

  filtered_same : (sets : List (List Name)) (t : Nodes) → filtered q sets t ≡ filtered r sets t
  filtered_same sets t =
      pass_is q.filter (tuples_of t q.joins sets)
      ∙ (ap (λ (a : AskedQuery). pass_all a.filter (tuples_of t a.joins sets)) same ∙ sym (pass_is r.filter (tuples_of t r.joins sets)))

  pub rows_same : (sets : List (List Name)) (t : Nodes) (rows : List Row) → AreRows q sets t rows → AreRows r sets t rows
  rows_same sets t rows h = record {
    by_path = h.by_path;
    tuples = h.tuples;
    paths = subst (λ (ts : List Tuple). IsStablySorted by_paths ts h.by_path) (filtered_same sets t) h.paths;
    orders = subst (λ (cmp : Tuple → Tuple → Ordering). IsStablySorted cmp h.by_path h.tuples) orders_same h.orders;
    rows_are = h.rows_are ∙ ap (λ (a : AskedQuery). map (row_of a.columns) h.tuples) same;
  }
