use Rattle.std.proofs.Common.{rules}
use Rattle.std.specs.Ordering.{is_lt}
use Rattle.std.proofs.lemmas.Fn.{always_returns_same}
use Rattle.std.proofs.lemmas.List.Sorted.{ranks_by}
use Rattle.sql_eval.specs.Conditions.{Tuple}
use Rattle.sql_eval.specs.Keys.{by_paths_total}
use Rattle.sql_eval.specs.Rows.{by_paths}
use Rattle.sql_eval.proofs.sorting.sort_by_paths.Goals as goal

pub returns : goal.returns
returns c =
    let order = ranks_by by_paths_total (λ (t : Tuple). t) in
    let compares = always_returns_same _ _ _ (λ a r f k. search rules) in
    record {
      elements = c.in_ok-sort_by.ensures.permutation;
      sorted = c.in_ok-sort_by.ensures.sorted (λ x y. is_lt (by_paths x y)) order compares;
      stable = c.in_ok-sort_by.ensures.stable (λ x y. is_lt (by_paths x y)) order compares;
    }
