-- Paths in path order, each once.
use Rattle.std.proofs.Common.{◌≡◌, ℕ, true, List, refl, sym, subst, ◌↔◌}
use Rattle.std.specs.Prelude.{Contains, IsSorted, IsPermutation}
use Rattle.std.specs.List.{dedup}
use Rattle.std.specs.List.Sorted.{IsStrictlySortedBy}
use Rattle.std.specs.Ordering.{eq_by_cmp, is_eq}
use Rattle.std.specs.declared.cmp.Ordering.{Ordering}
use Rattle.std.specs.declared.cmp.Ordering.TheVariants.{Less, Equal, Greater}
use Rattle.std.proofs.lemmas.Bool.{false≢true}
use Rattle.std.proofs.lemmas.Cmp.{eq_by_cmp_equiv}
use Rattle.std.proofs.lemmas.List.Kept.{Contains-dedup, Contains-from_dedup, IsStrictlySortedBy-dedup}
use Rattle.std.proofs.lemmas.List.Sorted.{Contains-permutation, IsPermutation-sym}
use Rattle.jr_path.specs.Names.{path_cmp}
use Rattle.jr_path.proofs.Maps.{path_total, path_exact}

ties : (o : Ordering) → is_eq o ≡ true → o ≡ Equal
ties Less h = absurd (false≢true h)
ties Equal h = refl
ties Greater h = absurd (false≢true h)

same_path : (p q : List (List ℕ)) → eq_by_cmp path_cmp p q ≡ true → p ≡ q
same_path p q h = path_exact p q (ties (path_cmp p q) h)

-- after a sort and a `dedup`
pub paths_ordered : (sorted final : List (List (List ℕ))) → IsSorted path_cmp sorted → final ≡ dedup (eq_by_cmp path_cmp) sorted → IsStrictlySortedBy path_cmp final
paths_ordered sorted final h is = subst (λ (ps : List (List (List ℕ))). IsStrictlySortedBy path_cmp ps) (sym is) (IsStrictlySortedBy-dedup path_total (λ x y. refl) sorted h)

pub paths_same : (raw sorted final : List (List (List ℕ))) → IsPermutation raw sorted → final ≡ dedup (eq_by_cmp path_cmp) sorted → (p : List (List ℕ)) → Contains final p ↔ Contains raw p
paths_same raw sorted final moved is p = (
  λ h. Contains-permutation sorted raw p (IsPermutation-sym raw sorted moved) (Contains-from_dedup (eq_by_cmp path_cmp) sorted p (subst (λ (ps : List (List (List ℕ))). Contains ps p) is h)),
  λ h. subst (λ (ps : List (List (List ℕ))). Contains ps p) (sym is) (Contains-dedup (eq_by_cmp_equiv path_total) same_path sorted p (Contains-permutation raw sorted p moved h)),
)
