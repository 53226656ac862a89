-- A query has one list of rows over a tree.
use Rattle.std.proofs.Common.{◌≡◌, List, [], ◌∷◌, map, refl, sym, subst, ap, ◌∙◌}
use Rattle.std.specs.Cmp.{IsTotalOrder, back_total, on_total, then_total}
use Rattle.std.specs.declared.cmp.Ordering.{Ordering}
use Rattle.std.specs.declared.cmp.Ordering.TheVariants.{Equal}
use Rattle.jr_path.specs.declared.name.Name.{Name}
use Rattle.jr_tree.specs.Trees.{Nodes}
use Rattle.sql_query.specs.declared.query.Direction.{Direction}
use Rattle.sql_query.specs.declared.query.Direction.TheVariants.{Ascending, Descending}
use Rattle.sql_query.specs.declared.query.Order.{Order}
use Rattle.sql_query.specs.declared.query.Query.{Query}
use Rattle.sql_eval.specs.declared.row.Row.{Row}
use Rattle.sql_eval.specs.Conditions.{Tuple, operand_of}
use Rattle.sql_eval.specs.Keys.{by_paths_total, missing_first_total}
use Rattle.sql_eval.specs.Rows.{AreRows, IsStablySorted, by_orders, by_paths, filtered, row_of}
use Rattle.sql_values.specs.Values.{directed, missing_first}
use Rattle.sql_eval.proofs.OneOrder.{stably_sorted_is_one}

no_order : {X : Type 0} → IsTotalOrder {K = X} (λ x y. Equal)
no_order = record { antisymm = λ x y. refl; trans = λ x y z p q. p; congr = λ x y z p. refl }

directed_total : {X : Type 0} (way : Direction) (R : X → X → Ordering) → IsTotalOrder R → IsTotalOrder (directed way R)
directed_total Ascending R total = total
directed_total Descending R total = back_total total

orders_total : (orders : List Order) → IsTotalOrder (by_orders orders)
orders_total [] = no_order
orders_total (o ∷ os) = then_total (on_total (λ (t : Tuple). operand_of t o.operand) (directed_total o.direction missing_first missing_first_total)) (orders_total os)

pub one_list : (q : Query) (sets : List (List Name)) (tree : Nodes) (a b : List Row) → AreRows q sets tree a → AreRows q sets tree b → a ≡ b
one_list q sets tree a b x y =
    let paths : y.by_path ≡ x.by_path = stably_sorted_is_one by_paths by_paths_total (filtered q sets tree) y.by_path x.by_path y.paths x.paths in
    let other : IsStablySorted (by_orders q.orders) x.by_path y.tuples = subst (λ ts. IsStablySorted (by_orders q.orders) ts y.tuples) paths y.orders in
    let tuples : x.tuples ≡ y.tuples = stably_sorted_is_one (by_orders q.orders) (orders_total q.orders) x.by_path x.tuples y.tuples x.orders other in
    x.rows_are ∙ ap (map (row_of q.columns)) tuples ∙ sym y.rows_are
