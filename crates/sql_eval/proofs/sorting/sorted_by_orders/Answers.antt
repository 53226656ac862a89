use Rattle.std.proofs.Common.{rules}
use Rattle.std.specs.Ordering.{is_lt}
use Rattle.std.proofs.lemmas.Fn.{always_returns_same}
use Rattle.std.proofs.lemmas.List.Sorted.{ranks_by}
use Rattle.std.proofs.lemmas.Result.{IfOk-weaker}
use Rattle.sql_eval.specs.Keys.{ranked_cmp, ranked_cmp_total}
use Rattle.sql_eval.specs.declared.key.Ranked.{Ranked}
use Rattle.sql_eval.proofs.Orders.{in_order}
use Rattle.sql_eval.proofs.sorting.sorted_by_orders.Goals as goal

pub returns : goal.returns
returns c =
    let order = ranks_by ranked_cmp_total (λ (r : Ranked). r) in
    let compares = always_returns_same _ _ _ (λ a r f k. search rules) in
    IfOk-weaker c.tuples_in.result _ _
    (λ ts is.
    in_order _ _ _ _ ts.items c.in_ok-ranked.ensures c.in_ok-sort_by.ensures.permutation
    (c.in_ok-sort_by.ensures.sorted (λ x y. is_lt (ranked_cmp x y)) order compares)
    (c.in_ok-sort_by.ensures.stable (λ x y. is_lt (ranked_cmp x y)) order compares) is)
    c.tuples_in.ensures
