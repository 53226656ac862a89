-- What paths have in common, and the commit root one mark after another.
use Rattle.std.proofs.Common.{◌≡◌, ℕ, ◌+◌, ◌<◌, Bool, true, false, cond, List, [], ◌∷◌, ◌++◌, length, take, drop, get_or, length-take, take-take, refl, sym, ap, ◌∙◌, arith, ◌≤◌, min, inl, inr, append-nil}
use Rattle.std.proofs.Math.ListN.{drop_of_length-le}
use Rattle.std.proofs.lemmas.Bool.{cases_lt}
use Rattle.std.proofs.lemmas.List.{take_more}
use Rattle.std.specs.Ordering.{eq_by_cmp}
use Rattle.std.proofs.lemmas.Cmp.{eq_by_cmp_equiv, nat_list_cmp_total}
use Rattle.jr_path.specs.Names.{name_cmp}
use Rattle.jr_path.specs.declared.path.Path.{Path}
use Rattle.oak_clash.specs.declared.mark.MarkAt.{MarkAt}
use Rattle.oak_clash.specs.Clashes.{common, commit_root}

assoc_step : (m n k : List ℕ) (a b c : Path) → common (common a b) c ≡ common a (common b c) → (s t : Bool) → eq_by_cmp name_cmp m n ≡ s → eq_by_cmp name_cmp n k ≡ t → common (common (m ∷ a) (n ∷ b)) (k ∷ c) ≡ common (m ∷ a) (common (n ∷ b) (k ∷ c))
assoc_step m n k a b c rest true true mn nk =
    let mk : eq_by_cmp name_cmp m k ≡ true = (eq_by_cmp_equiv nat_list_cmp_total).congr m n k mn ∙ nk in
    rw (mn, nk, mk, mn) (ap (λ p. m ∷ p) rest)
assoc_step m n k a b c rest true false mn nk =
    let mk : eq_by_cmp name_cmp m k ≡ false = (eq_by_cmp_equiv nat_list_cmp_total).congr m n k mn ∙ nk in
    rw (mn, nk, mk) refl
assoc_step m n k a b c rest false true mn nk = rw (mn, nk, mn) refl
assoc_step m n k a b c rest false false mn nk = rw (mn, nk) refl

pub common-assoc : (a b c : Path) → common (common a b) c ≡ common a (common b c)
common-assoc [] b c = refl
common-assoc (m ∷ a) [] c = refl
common-assoc (m ∷ a) (n ∷ b) [] = elim (eq_by_cmp name_cmp m n) as (λ s. common (cond s (m ∷ common a b) []) [] ≡ []) [ true ↦ refl | false ↦ refl ]
common-assoc (m ∷ a) (n ∷ b) (k ∷ c) = assoc_step m n k a b c (common-assoc a b c) (eq_by_cmp name_cmp m n) (eq_by_cmp name_cmp n k) refl refl

-- one more mark
pub commit_root-push : (m : MarkAt) (ms : List MarkAt) (n : MarkAt) → commit_root (m ∷ (ms ++ n ∷ [])) ≡ common (commit_root (m ∷ ms)) n.path
commit_root-push m [] n = refl
commit_root-push m (k ∷ ms) n = ap (common m.path) (commit_root-push k ms n) ∙ sym (common-assoc m.path (commit_root (k ∷ ms)) n.path)

-- one more mark, where the commit root of those before it is an ancestor of the first, or self
pub commit_root-more : (m : MarkAt) (rest : List MarkAt) (i : ℕ) (n : MarkAt) (names path : Path) (depth deeper : ℕ) → i < length rest → n ≡ get_or rest i n → path ≡ n.path → take depth names ≡ commit_root (m ∷ take i rest) → deeper ≤ length (take depth names) → take deeper (take depth names) ≡ common (take depth names) path → take deeper names ≡ commit_root (m ∷ take (i + 1) rest)
commit_root-more m rest i n names path depth deeper in_rest is_n is_path root within deeper_is =
    let more : take (i + 1) rest ≡ take i rest ++ n ∷ [] = take_more rest i n in_rest ∙ ap (λ x. take i rest ++ x ∷ []) (sym is_n) in
    let shorter : take deeper names ≡ take deeper (take depth names) = sym (take-take deeper depth names (omega (arith, length-take depth names))) in
    rw (more, commit_root-push m (take i rest) n, ← root, ← is_path) (shorter ∙ deeper_is)

common-nil : (p : Path) → common p [] ≡ []
common-nil [] = refl
common-nil (m ∷ p) = refl

-- nothing is left behind the end of one of two paths
pub common-end : (a b : Path) (k : ℕ) → min (length a) (length b) ≤ k → common (drop k a) (drop k b) ≡ []
common-end a b k past =
    elim (cases_lt k (length a)) [
      | inl in_a ↦ let past_b : length b ≤ k = omega arith in rw (drop_of_length-le b past_b) (common-nil (drop k a))
      | inr past_a ↦ rw (drop_of_length-le a past_a) refl
    ]

-- the end of a search for the first names that differ
pub common-all : (a b : Path) (end k : ℕ) → end ≡ min (length a) (length b) → end ≤ k → k ≤ end → common a b ≡ take k a ++ common (drop k a) (drop k b) → take end a ≡ common a b
common-all a b end k is past within so_far =
    let same : end ≡ k = omega arith in
    rw (so_far, common-end a b k (omega arith), append-nil, same) refl
