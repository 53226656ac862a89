use Rattle.std.proofs.lemmas.List.Filters.{dedup_is}
use Rattle.std.proofs.lemmas.List.Kept.{Contains-dedup_nat, Contains-from_dedup}
use Rattle.std.proofs.lemmas.List.Sorted.{Contains-permutation, IsPermutation-sym}
use Rattle.std.proofs.lemmas.Map.Keys.{IsStrictlyIncreasing-dedup}
use Rattle.std.proofs.Common.{subst}
use Rattle.std.specs.List.{Contains}
use Rattle.sql_plan.proofs.index.sort_places.Goals as goal

pub returns : goal.returns
returns c =
    let is = dedup_is _ _ _ c.dedup.ensures.filtered in
    let same = c.sort_unstable.ensures.permutation in
    record {
      rises = rw is (IsStrictlyIncreasing-dedup _ c.sort_unstable.ensures.sorted);
      keeps = λ x h. rw is (Contains-dedup_nat _ x (Contains-permutation _ _ x same h));
      only = λ x h. Contains-permutation _ _ x (IsPermutation-sym _ _ same) (Contains-from_dedup _ _ x (subst (λ ps. Contains ps x) is h));
    }
