-- List (K × X) in order: the order stays when one is put or removed, and what is found then.
use Rattle.std.proofs.Common.{◌≡◌, ◌≢◌, Bool, true, false, cond, List, [], ◌∷◌, Option, Some, None, refl, sym, ap, ◌∙◌}
use Rattle.std.specs.List.{AllByRecursion}
use Rattle.std.specs.List.Sorted.{IsStrictlySortedBy}
use Rattle.std.specs.Map.{keys_of, lookup, remove_entry}
use Rattle.std.specs.Ordering.{eq_by_cmp, is_eq, match_ordering, ordering_reverse}
use Rattle.std.specs.Cmp.{IsTotalOrder}
use Rattle.std.specs.FinMap.{IsAntisymmetric}
use Rattle.std.specs.BTreeMap.{insert_entry, is_at}
use Rattle.std.specs.declared.cmp.Ordering.{Ordering}
use Rattle.std.specs.declared.cmp.Ordering.TheVariants.{Less, Equal, Greater}
use Rattle.std.proofs.lemmas.Bool.{false≢true}
use Rattle.std.proofs.lemmas.Cmp.{tied_itself}
use Rattle.jr_path.proofs.Orders.{tested}

same_none : {X : Type 0} (b : Bool) (o : Option X) → o ≡ None → o ≡ cond b None o
same_none true o h = h
same_none false o h = refl

module _ {K : Type 0} (R : K → K → Ordering) (total : IsTotalOrder R) (exact : IsAntisymmetric R) where
  pub same_key : (a b : K) → is_eq (R a b) ≡ true → a ≡ b
  same_key a b = (tested total exact a b).0

  pub turned : (a b : K) → R a b ≡ Less → R b a ≡ Greater
  turned a b less = total.antisymm b a ∙ ap ordering_reverse less

  pub above_too : (x y : K) → R x y ≡ Less → (ks : List K) → AllByRecursion (λ k. R y k ≡ Less) ks → AllByRecursion (λ k. R x k ≡ Less) ks
  above_too x y less [] h = tt
  above_too x y less (k ∷ ks) h = (total.trans x y k less h.0, above_too x y less ks h.1)

  module _ {X : Type 0} where
    module _ (k : K) where
      pub keys_put : (P : K → Type 0) → P k → (v : X) (es : List (K × X)) → AllByRecursion P (keys_of es) → AllByRecursion P (keys_of (insert_entry R es k v))
      keys_put P here v [] h = (here, tt)
      keys_put P here v (e ∷ es) h = by (R k e.0) (keys_put P here v es h.1)
        where
          by : (c : Ordering) → AllByRecursion P (keys_of (insert_entry R es k v)) → AllByRecursion P (keys_of (match_ordering c ((k, v) ∷ e ∷ es) ((e.0, v) ∷ es) (e ∷ insert_entry R es k v)))
          by Less rest = (here, h)
          by Equal rest = h
          by Greater rest = (h.0, rest)

      pub keys_removed : (P : K → Type 0) (es : List (K × X)) → AllByRecursion P (keys_of es) → AllByRecursion P (keys_of (remove_entry (is_at (R k)) es))
      keys_removed P [] h = tt
      keys_removed P (e ∷ es) h = by (is_eq (R k e.0)) (keys_removed P es h.1)
        where
          by : (b : Bool) → AllByRecursion P (keys_of (remove_entry (is_at (R k)) es)) → AllByRecursion P (keys_of (cond b es (e ∷ remove_entry (is_at (R k)) es)))
          by true rest = h.1
          by false rest = (h.0, rest)

      pub sorted_put : (v : X) (es : List (K × X)) → IsStrictlySortedBy R (keys_of es) → IsStrictlySortedBy R (keys_of (insert_entry R es k v))
      unfolding IsStrictlySortedBy
      sorted_put v [] h = (tt, tt)
      sorted_put v (e ∷ es) h = by (R k e.0) refl (sorted_put v es h.1)
        where
          by : (c : Ordering) → R k e.0 ≡ c → IsStrictlySortedBy R (keys_of (insert_entry R es k v)) → IsStrictlySortedBy R (keys_of (match_ordering c ((k, v) ∷ e ∷ es) ((e.0, v) ∷ es) (e ∷ insert_entry R es k v)))
          by Less is rest = ((is, above_too k e.0 is (keys_of es) h.0), h)
          by Equal is rest = h
          by Greater is rest = (keys_put (λ y. R e.0 y ≡ Less) (total.antisymm e.0 k ∙ ap ordering_reverse is) v es h.0, rest)

      pub sorted_removed : (es : List (K × X)) → IsStrictlySortedBy R (keys_of es) → IsStrictlySortedBy R (keys_of (remove_entry (is_at (R k)) es))
      unfolding IsStrictlySortedBy
      sorted_removed [] h = h
      sorted_removed (e ∷ es) h = by (is_eq (R k e.0)) (sorted_removed es h.1)
        where
          by : (b : Bool) → IsStrictlySortedBy R (keys_of (remove_entry (is_at (R k)) es)) → IsStrictlySortedBy R (keys_of (cond b es (e ∷ remove_entry (is_at (R k)) es)))
          by true rest = h.1
          by false rest = (keys_removed (λ y. R e.0 y ≡ Less) es h.0, rest)

      none_at : (es : List (K × X)) → AllByRecursion (λ y. R k y ≡ Less) (keys_of es) → lookup (is_at (R k)) es ≡ None
      none_at [] h = refl
      none_at (e ∷ es) h = ap (λ b. cond b (Some e.1) (lookup (is_at (R k)) es)) (ap is_eq h.0) ∙ none_at es h.1

    -- what is found at a key once the entry of another is removed
    pub lookup_removed : (n k : K) (es : List (K × X)) → IsStrictlySortedBy R (keys_of es) → lookup (is_at (R k)) (remove_entry (is_at (R n)) es) ≡ cond (eq_by_cmp R k n) None (lookup (is_at (R k)) es)
    unfolding IsStrictlySortedBy
    lookup_removed n k [] sorted = same_none (eq_by_cmp R k n) None refl
    lookup_removed n k (e ∷ es) sorted = by (is_eq (R n e.0)) (eq_by_cmp R k n) refl refl (lookup_removed n k es sorted.1)
      where
        other : (c : Bool) → is_eq (R k e.0) ≡ c → (is_eq (R n e.0) ≡ false) → eq_by_cmp R k n ≡ true → cond c (Some e.1) None ≡ None
        other true at off is = absurd (false≢true (sym off ∙ ap (λ x. is_eq (R x e.0)) (sym (same_key k n is)) ∙ at))
        other false at off is = refl

        by : (b c : Bool) → is_eq (R n e.0) ≡ b → eq_by_cmp R k n ≡ c → lookup (is_at (R k)) (remove_entry (is_at (R n)) es) ≡ cond (eq_by_cmp R k n) None (lookup (is_at (R k)) es)
            → lookup (is_at (R k)) (cond b es (e ∷ remove_entry (is_at (R n)) es)) ≡ cond c None (cond (is_eq (R k e.0)) (Some e.1) (lookup (is_at (R k)) es))
        by true true at is rest = ap (λ x. lookup (is_at (R x)) es) (same_key k n is ∙ same_key n e.0 at) ∙ none_at e.0 es sorted.0
        by true false at is rest = sym (apart (is_eq (R k e.0)) refl)
          where
            apart : (d : Bool) → is_eq (R k e.0) ≡ d → cond d (Some e.1) (lookup (is_at (R k)) es) ≡ lookup (is_at (R k)) es
            apart true here = absurd (false≢true (sym is ∙ ap (λ x. is_eq (R k x)) (same_key n e.0 at) ∙ here))
            apart false here = refl
        by false true at is rest = ap (λ o. cond (is_eq (R k e.0)) (Some e.1) o) (rest ∙ ap (λ b. cond b None (lookup (is_at (R k)) es)) is) ∙ other (is_eq (R k e.0)) refl at is
        by false false at is rest = ap (λ o. cond (is_eq (R k e.0)) (Some e.1) o) (rest ∙ ap (λ b. cond b None (lookup (is_at (R k)) es)) is)

    -- each entry is found at its key
    pub each_found : (es : List (K × X)) → IsStrictlySortedBy R (keys_of es) → AllByRecursion (λ e. lookup (is_at (R e.0)) es ≡ Some e.1) es
    unfolding IsStrictlySortedBy
    each_found [] sorted = tt
    each_found (e ∷ es) sorted = (ap (λ c. cond (is_eq c) (Some e.1) (lookup (is_at (R e.0)) es)) (tied_itself total e.0), behind es sorted.0 (each_found es sorted.1))
      where
        behind : (fs : List (K × X)) → AllByRecursion (λ y. R e.0 y ≡ Less) (keys_of fs) → AllByRecursion (λ f. lookup (is_at (R f.0)) es ≡ Some f.1) fs → AllByRecursion (λ (f : K × X). cond (is_eq (R f.0 e.0)) (Some e.1) (lookup (is_at (R f.0)) es) ≡ Some f.1) fs
        behind [] above h = tt
        behind (f ∷ fs) above h = (ap (λ c. cond (is_eq c) (Some e.1) (lookup (is_at (R f.0)) es)) (turned e.0 f.0 above.0) ∙ h.0, behind fs above.1 h.1)
