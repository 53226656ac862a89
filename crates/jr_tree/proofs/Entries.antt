-- Entries in the order of their keys: what stays in order, what is found, and when two lists are the same.
use Rattle.std.proofs.Common.{◌≡◌, Bool, true, false, cond, Some, None, Option, List, [], ◌∷◌, refl, sym, ap, ◌∙◌}
use Rattle.std.proofs.Math.Dec.{T}
use Rattle.std.specs.declared.cmp.Ordering.{Ordering}
use Rattle.std.specs.declared.cmp.Ordering.TheVariants.{Less, Equal, Greater}
use Rattle.std.specs.Ordering.{is_eq, is_lt, eq_by_cmp, match_ordering}
use Rattle.std.specs.Cmp.{IsTotalOrder, alike_right}
use Rattle.std.specs.List.{AllByRecursion, filter}
use Rattle.std.specs.List.Sorted.{IsStrictlySortedBy}
use Rattle.std.specs.Map.{lookup, remove_entry, set_value, keys_of}
use Rattle.std.specs.BTreeMap.{is_at, insert_entry}
use Rattle.std.specs.FinMap.{is_sorted}
use Rattle.std.specs.FinMap.Entries.{find, put, by_order, below_all, is_sorted-put, same_entries}
use mathlib.Core.Bool.{false≢true}
use Rattle.basics.proofs.Orders.{less_of}
pub use Rattle.basics.proofs.Orders.{equal_of as exactly}
pub use Rattle.basics.proofs.Bools.{first_of_both as first, second_of_both as second}
pub use Rattle.std.proofs.lemmas.Bool.{and_from as both}

to_T : (b : Bool) → b ≡ true → T b
to_T true h = tt
to_T false h = absurd (false≢true h)

from_T : (b : Bool) → T b → b ≡ true
from_T true h = refl
from_T false h = absurd h

module _ {K X : Type 0} (R : K → K → Ordering) where
  find_is_lookup : (q : K) (es : List (K × X)) → lookup (is_at (R q)) es ≡ find R q es
  find_is_lookup q [] = refl
  find_is_lookup q (e ∷ es) = ap (cond (eq_by_cmp R q e.0) (Some e.1)) (find_is_lookup q es)

  put_is_insert : (k : K) (v : X) (es : List (K × X)) → insert_entry R es k v ≡ put R k v es
  put_is_insert k v [] = refl
  put_is_insert k v (e ∷ es) = ap (λ (rest : List (K × X)). match_ordering (R k e.0) ((k, v) ∷ e ∷ es) ((e.0, v) ∷ es) (e ∷ rest)) (put_is_insert k v es) ∙ by (R k e.0)
    where
      by : (o : Ordering) → match_ordering o ((k, v) ∷ e ∷ es) ((e.0, v) ∷ es) (e ∷ put R k v es) ≡ by_order o ((k, v) ∷ e ∷ es) ((e.0, v) ∷ es) (e ∷ put R k v es)
      by Less = refl
      by Equal = refl
      by Greater = refl

  pub below_insert : (x k : K) (v : X) (es : List (K × X)) → is_lt (R x k) ≡ true → below_all R x es ≡ true → below_all R x (insert_entry R es k v) ≡ true
  below_insert x k v [] p h = both _ _ p refl
  below_insert x k v (e ∷ es) p h =
      elim (R k e.0) as (λ o. below_all R x (match_ordering o ((k, v) ∷ e ∷ es) ((e.0, v) ∷ es) (e ∷ insert_entry R es k v)) ≡ true) [
        | Less ↦ both _ _ p h
        | Equal ↦ h
        | Greater ↦ both _ _ (first _ _ h) (below_insert x k v es p (second _ _ h))
      ]

  below_remove : (x : K) (test : K → Bool) (es : List (K × X)) → below_all R x es ≡ true → below_all R x (remove_entry test es) ≡ true
  below_remove x test [] h = h
  below_remove x test (e ∷ es) h =
      elim (test e.0) as (λ b. below_all R x (cond b es (e ∷ remove_entry test es)) ≡ true) [ true ↦ second _ _ h | false ↦ both _ _ (first _ _ h) (below_remove x test es (second _ _ h)) ]

  pub sorted_remove : (test : K → Bool) (es : List (K × X)) → is_sorted R es ≡ true → is_sorted R (remove_entry test es) ≡ true
  sorted_remove test [] h = h
  sorted_remove test (e ∷ es) h =
      elim (test e.0) as (λ b. is_sorted R (cond b es (e ∷ remove_entry test es)) ≡ true) [ true ↦ second _ _ h | false ↦ both _ _ (below_remove e.0 test es (first _ _ h)) (sorted_remove test es (second _ _ h)) ]

  below_set : (x : K) (test : K → Bool) (w : X) (es : List (K × X)) → below_all R x es ≡ true → below_all R x (set_value test es w) ≡ true
  below_set x test w [] h = h
  below_set x test w (e ∷ es) h =
      elim (test e.0) as (λ b. below_all R x (cond b ((e.0, w) ∷ es) (e ∷ set_value test es w)) ≡ true) [ true ↦ h | false ↦ both _ _ (first _ _ h) (below_set x test w es (second _ _ h)) ]

  pub sorted_set : (test : K → Bool) (w : X) (es : List (K × X)) → is_sorted R es ≡ true → is_sorted R (set_value test es w) ≡ true
  sorted_set test w [] h = h
  sorted_set test w (e ∷ es) h =
      elim (test e.0) as (λ b. is_sorted R (cond b ((e.0, w) ∷ es) (e ∷ set_value test es w)) ≡ true) [ true ↦ h | false ↦ both _ _ (below_set e.0 test w es (first _ _ h)) (sorted_set test w es (second _ _ h)) ]

  less_all : (x : K) (es : List (K × X)) → below_all R x es ≡ true → AllByRecursion (λ k. R x k ≡ Less) (keys_of es)
  less_all x [] h = tt
  less_all x (e ∷ es) h = (less_of _ (first _ _ h), less_all x es (second _ _ h))

  -- the test that keys rise, as std has it
  pub rising : (es : List (K × X)) → is_sorted R es ≡ true → IsStrictlySortedBy R (keys_of es)
  unfolding IsStrictlySortedBy
  rising [] h = tt
  rising (e ∷ es) h = (less_all e.0 es (first _ _ h), rising es (second _ _ h))

  all_less : (x : K) (es : List (K × X)) → AllByRecursion (λ k. R x k ≡ Less) (keys_of es) → below_all R x es ≡ true
  all_less x [] h = refl
  all_less x (e ∷ es) h = both _ _ (ap is_lt h.0) (all_less x es h.1)

  pub tested : (es : List (K × X)) → IsStrictlySortedBy R (keys_of es) → is_sorted R es ≡ true
  unfolding IsStrictlySortedBy
  tested [] h = refl
  tested (e ∷ es) h = both _ _ (all_less e.0 es h.0) (tested es h.1)

  below_filter : (x : K) (test : K × X → Bool) (es : List (K × X)) → below_all R x es ≡ true → below_all R x (filter test es) ≡ true
  below_filter x test [] h = h
  below_filter x test (e ∷ es) h =
      elim (test e) as (λ b. below_all R x (cond b (e ∷ filter test es) (filter test es)) ≡ true) [ true ↦ both _ _ (first _ _ h) (below_filter x test es (second _ _ h)) | false ↦ below_filter x test es (second _ _ h) ]

  pub sorted_filter : (test : K × X → Bool) (es : List (K × X)) → is_sorted R es ≡ true → is_sorted R (filter test es) ≡ true
  sorted_filter test [] h = h
  sorted_filter test (e ∷ es) h =
      elim (test e) as (λ b. is_sorted R (cond b (e ∷ filter test es) (filter test es)) ≡ true) [ true ↦ both _ _ (below_filter e.0 test es (first _ _ h)) (sorted_filter test es (second _ _ h)) | false ↦ sorted_filter test es (second _ _ h) ]

  module _ (o : IsTotalOrder R) where
    pub sorted_insert : (k : K) (v : X) (es : List (K × X)) → is_sorted R es ≡ true → is_sorted R (insert_entry R es k v) ≡ true
    sorted_insert k v es h = ap (is_sorted R) (put_is_insert k v es) ∙ from_T _ (is_sorted-put R o k v es (to_T _ h))

    pub same_lists : ((x y : K) → R x y ≡ Equal → x ≡ y) → (es fs : List (K × X)) → is_sorted R es ≡ true → is_sorted R fs ≡ true → ((q : K) → lookup (is_at (R q)) es ≡ lookup (is_at (R q)) fs) → es ≡ fs
    same_lists exact es fs s t h = same_entries R o exact es fs (to_T _ s) (to_T _ t) (λ q. sym (find_is_lookup q es) ∙ (h q ∙ find_is_lookup q fs))

    pub none_below : (q x : K) → R q x ≡ Equal → (es : List (K × X)) → below_all R x es ≡ true → lookup (is_at (R q)) es ≡ None
    none_below q x t [] h = refl
    none_below q x t (e ∷ es) h = ap (λ r. cond (is_eq r) (Some e.1) (lookup (is_at (R q)) es)) (o.congr q x e.0 t ∙ less_of _ (first _ _ h)) ∙ none_below q x t es (second _ _ h)

    -- what is found at a key after a removal
    pub lookup-remove : (q k : K) (es : List (K × X)) → is_sorted R es ≡ true → lookup (is_at (R q)) (remove_entry (is_at (R k)) es) ≡ cond (eq_by_cmp R q k) None (lookup (is_at (R q)) es)
    lookup-remove q k [] h = empty (eq_by_cmp R q k)
      where
        empty : (b : Bool) → ◌≡◌ {A = Option X} None (cond b None None)
        empty true = refl
        empty false = refl
    lookup-remove q k (e ∷ es) h = by (lookup-remove q k es (second _ _ h)) (R k e.0) refl
      where
        at : K → List (K × X) → Option X
        at q l = lookup (is_at (R q)) l

        tied : R k e.0 ≡ Equal → (r : Ordering) → R q k ≡ r → at q es ≡ cond (is_eq r) None (cond (eq_by_cmp R q e.0) (Some e.1) (at q es))
        tied t Equal p = none_below q e.0 (o.congr q k e.0 p ∙ t) es (first _ _ h)
        tied t Less p = sym (ap (λ r. cond (is_eq r) (Some e.1) (at q es)) (sym (alike_right o k e.0 q t) ∙ p))
        tied t Greater p = sym (ap (λ r. cond (is_eq r) (Some e.1) (at q es)) (sym (alike_right o k e.0 q t) ∙ p))

        apart : is_eq (R k e.0) ≡ false → (b c : Bool) → eq_by_cmp R q e.0 ≡ b → eq_by_cmp R q k ≡ c → cond b (Some e.1) (cond c None (at q es)) ≡ cond c None (cond b (Some e.1) (at q es))
        apart n true true p r = absurd (false≢true (sym n ∙ (ap is_eq (sym (o.congr q k e.0 (exactly _ r))) ∙ p)))
        apart n true false p r = refl
        apart n false c p r = refl

        by : at q (remove_entry (is_at (R k)) es) ≡ cond (eq_by_cmp R q k) None (at q es) → (r : Ordering) → R k e.0 ≡ r → at q (cond (is_eq r) es (e ∷ remove_entry (is_at (R k)) es)) ≡ cond (eq_by_cmp R q k) None (cond (eq_by_cmp R q e.0) (Some e.1) (at q es))
        by rest Equal p = tied p (R q k) refl
        by rest Less p = ap (cond (eq_by_cmp R q e.0) (Some e.1)) rest ∙ apart (ap is_eq p) _ _ refl refl
        by rest Greater p = ap (cond (eq_by_cmp R q e.0) (Some e.1)) rest ∙ apart (ap is_eq p) _ _ refl refl
