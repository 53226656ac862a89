use Rattle.std.proofs.Common.{rules, is_lt}
use Rattle.std.proofs.lemmas.Fn.{always_returns_same}
use Rattle.std.proofs.lemmas.List.Sorted.{Contains-permutation, IsPermutation-map, IsPermutation-sym, ranks_by}
use Rattle.sql_plan.specs.Index.{by_key, placed_key, sought}
use Rattle.sql_plan.proofs.Meets.{key_total}
use Rattle.sql_plan.proofs.index.Index.of.Goals as goal

pub invariant_of-result : goal.invariant_of-result
invariant_of-result c =
    c.sort_unstable_by.ensures.sorted (λ x y. is_lt (by_key x y)) (ranks_by key_total (λ e. sought e.key)) (always_returns_same _ _ _ (λ a r f k. search rules))

pub returns : goal.returns
returns c =
    let same = IsPermutation-map placed_key _ _ c.sort_unstable_by.ensures.permutation in
    record {
      all = λ s n h. Contains-permutation _ _ (s, n) same h;
      only = λ s n h. Contains-permutation _ _ (s, n) (IsPermutation-sym _ _ same) h;
    }
