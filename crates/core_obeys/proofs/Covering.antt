-- Who covers a path, of a tree and of what is seen.
use Rattle.std.proofs.Common.{◌≡◌, ◌⊎◌, inl, inr, Bool, true, false, cond, ◌&&◌, ◌||◌, not, Some, None, Option, List, [], ◌∷◌, refl, sym, ap, ◌∙◌, subst, is_some}
use Rattle.std.specs.Prelude.{option_and_then}
use Rattle.std.specs.Cmp.{tied_itself}
use Rattle.std.specs.Option.{option_map_or, unwrap_or}
use Rattle.std.specs.List.{find}
use Rattle.std.specs.Ordering.{is_eq}
use mathlib.Core.Bool.{false≢true}
use Rattle.jr_path.specs.declared.name.Name.{Name}
use Rattle.jr_path.specs.declared.path.Path.{Path}
use Rattle.jr_path.proofs.Maps.{path_total}
use Rattle.jr_value.specs.declared.value.Property.{Property}
use Rattle.jr_value.specs.Equality.{same_property_decides}
use Rattle.jr_tree.specs.Trees.{Nodes, property_at}
use Rattle.jr_tree.proofs.Pointwise.{same_path as path_same}
use Rattle.jr_items.specs.Names.{lock_owner, lock_is_deep}
use Rattle.jr_items.specs.Items.{same_path, is_flag, is_versionable, is_checked_in, upward}
use Rattle.jcr_lock.specs.Locks.{lock_covers, is_lock, frozen_by}
use Rattle.jcr_marks.specs.Marks.{are_same, locks_anew, is_frozen_anew, is_this_path}
use Rattle.jcr_marks.proofs.Membership.{IsIn}
use Rattle.core_obeys.proofs.Views.{view_of}
use Rattle.core_obeys.proofs.Steps.{IsLocked, below, is_frozen}
use Rattle.core_obeys.proofs.Locks.{true_or_false}
use Rattle.core_obeys.proofs.Paths.{upward_child, upward_first, below_under, under_below, not_itself}

both : (a b : Bool) → a ≡ true → b ≡ true → (a && b) ≡ true
both true b h k = k
both false b h k = absurd (false≢true h)

first : (a b : Bool) → (a && b) ≡ true → a ≡ true
first true b h = refl
first false b h = h

second : (a b : Bool) → (a && b) ≡ true → b ≡ true
second true b h = h
second false b h = absurd (false≢true h)

or_left : (a b : Bool) → a ≡ true → (a || b) ≡ true
or_left true b h = refl
or_left false b h = absurd (false≢true h)

or_right : (a b : Bool) → b ≡ true → (a || b) ≡ true
or_right true b h = refl
or_right false b h = h

one_of : (a b : Bool) → (a || b) ≡ true → (a ≡ true) ⊎ (b ≡ true)
one_of true b h = inl refl
one_of false b h = inr h

itself : (p : Path) → same_path p p ≡ true
itself p = ap is_eq (tied_itself path_total p)

-- ---- locks

lock_of : (t : Nodes) (a : Path) (x : Property) → property_at t a lock_owner ≡ Some x → is_lock t a ≡ true
lock_of t a x h = ap is_some h

pub covers : (t : Nodes) (a : Path) (x : Property) (rest : List Name) → IsLocked (view_of t) a x rest → lock_covers t a (below a rest) ≡ true
covers t a x [] h = both (is_lock t a) _ (lock_of t a x h) (or_left (same_path a a) _ (itself a))
covers t a x (n ∷ rest) h = both (is_lock t a) _ (lock_of t a x h.0) (or_right (same_path a (below a (n ∷ rest))) _ (both _ _ h.1 (below_under a (n ∷ rest))))

owned : (o : Option Property) → is_some o ≡ true → (x : Property) × (o ≡ Some x)
owned None h = absurd (false≢true h)
owned (Some x) h = (x, refl)

covered_by : (t : Nodes) (a : Path) (x : Property) (rest : List Name) → property_at t a lock_owner ≡ Some x → lock_covers t a (below a rest) ≡ true → IsLocked (view_of t) a x rest
covered_by t a x [] own h = own
covered_by t a x (n ∷ rest) own h = elim (one_of (same_path a (below a (n ∷ rest))) _ (second (is_lock t a) _ h)) [
  | inl k ↦ absurd (not_itself a n rest (sym (path_same a (below a (n ∷ rest)) k)))
  | inr k ↦ (own, first (is_flag true (property_at t a lock_is_deep)) _ k)
]

-- a lock over a path, by its owner
pub covered : (t : Nodes) (q p : Path) → lock_covers t q p ≡ true → (rest : List Name) × (x : Property) × (below q rest ≡ p) × IsLocked (view_of t) q x rest
covered t q p h = elim (one_of (same_path q p) _ (second (is_lock t q) _ h)) [
  | inl k ↦ ([], own.0, path_same q p k, own.1)
  | inr k ↦ let rest = under_below p q (second _ _ k) in (rest.0, own.0, rest.1, covered_by t q own.0 rest.0 own.1 (subst (λ (r : Path). lock_covers t q r ≡ true) (sym rest.1) h))
]
  where
    own : (x : Property) × (property_at t q lock_owner ≡ Some x)
    own = owned (property_at t q lock_owner) (first (is_lock t q) _ h)

same_owner : (o : Option Property) (x : Property) → are_same o (Some x) ≡ true → o ≡ Some x
same_owner None x h = absurd (false≢true h)
same_owner (Some y) x h = ap Some ((same_property_decides y x).0 h)

-- a lock that is there after, and wasn't before
pub anew : (t u : Nodes) (a : Path) (x : Property) (rest : List Name) → IsLocked (view_of u) a x rest → (IsLocked (view_of t) a x rest → ⊥) → locks_anew t u (below a rest) a ≡ true
anew t u a x rest later before = both (lock_covers u a (below a rest)) _ (covers u a x rest later) (by (true_or_false (lock_covers t a (below a rest) && are_same (property_at t a lock_owner) (property_at u a lock_owner))))
  where
    own : (rest : List Name) → IsLocked (view_of u) a x rest → property_at u a lock_owner ≡ Some x
    own [] h = h
    own (n ∷ rest) h = h.0

    by : ((lock_covers t a (below a rest) && are_same (property_at t a lock_owner) (property_at u a lock_owner)) ≡ true) ⊎ ((lock_covers t a (below a rest) && are_same (property_at t a lock_owner) (property_at u a lock_owner)) ≡ false)
        → not (lock_covers t a (below a rest) && are_same (property_at t a lock_owner) (property_at u a lock_owner)) ≡ true
    by (inr e) = ap not e
    by (inl e) = absurd (before (covered_by t a x rest
        (same_owner (property_at t a lock_owner) x (sym (ap (are_same (property_at t a lock_owner)) (own rest later)) ∙ second (lock_covers t a (below a rest)) _ e))
        (first (lock_covers t a (below a rest)) _ e)))

-- ---- checked-in nodes

nearest : (t : Nodes) (a : Path) (rest : List Name) → is_frozen (view_of t) a rest ≡ true → find (is_versionable t) (upward (below a rest)) ≡ Some a
nearest t a [] h = let it = upward_first a in ap (find (is_versionable t)) it.1 ∙ ap (λ b. cond b (Some a) (find (is_versionable t) it.0)) (first (is_versionable t a) _ h)
nearest t a (n ∷ rest) h =
    ap (find (is_versionable t)) (upward_child (below a rest) n)
    ∙ (ap (λ b. cond b (Some (below a (n ∷ rest))) (find (is_versionable t) (upward (below a rest)))) (not_false (is_versionable t (below a (n ∷ rest))) (second (is_frozen (view_of t) a rest) _ h))
    ∙ nearest t a rest (first (is_frozen (view_of t) a rest) _ h))
  where
    not_false : (b : Bool) → not b ≡ true → b ≡ false
    not_false false k = refl
    not_false true k = sym k

top : (t : Nodes) (a : Path) (rest : List Name) → is_frozen (view_of t) a rest ≡ true → is_checked_in t a ≡ true
top t a [] h = h
top t a (n ∷ rest) h = top t a rest (first (is_frozen (view_of t) a rest) _ h)

pub frozen_is : (t : Nodes) (a : Path) (rest : List Name) → is_frozen (view_of t) a rest ≡ true → frozen_by t (below a rest) ≡ Some a
frozen_is t a rest h = ap (option_and_then (λ q. cond (is_checked_in t q) (Some q) None)) (nearest t a rest h) ∙ ap (λ b. cond b (Some a) None) (top t a rest h)

-- and back
pub found : (test : Path → Bool) (ps : List Path) (a : Path) → find test ps ≡ Some a → test a ≡ true
found test [] a h = absurd (false≢true (ap is_some h))
found test (p ∷ ps) a h =
    (elim (test p) as (λ b. test p ≡ b → cond b (Some p) (find test ps) ≡ Some a → test a ≡ true) [
      | true ↦ λ e k. subst (λ (q : Path). test q ≡ true) (ap (λ (o : Option Path). unwrap_or o p) k) e
      | false ↦ λ e k. found test ps a k
    ]) refl h

pub frozen_of : (t : Nodes) (a : Path) (rest : List Name) → is_checked_in t a ≡ true → find (is_versionable t) (upward (below a rest)) ≡ Some a → is_frozen (view_of t) a rest ≡ true
frozen_of t a [] c h = c
frozen_of t a (n ∷ rest) c h = by (true_or_false (is_versionable t (below a (n ∷ rest)))) (sym (ap (find (is_versionable t)) (upward_child (below a rest) n)) ∙ h) (λ k. frozen_of t a rest c k)
  where
    by : (is_versionable t (below a (n ∷ rest)) ≡ true) ⊎ (is_versionable t (below a (n ∷ rest)) ≡ false) → cond (is_versionable t (below a (n ∷ rest))) (Some (below a (n ∷ rest))) (find (is_versionable t) (upward (below a rest))) ≡ Some a
        → (find (is_versionable t) (upward (below a rest)) ≡ Some a → is_frozen (view_of t) a rest ≡ true) → is_frozen (view_of t) a (n ∷ rest) ≡ true
    by (inl e) k above = absurd (not_itself a n rest (ap (λ (o : Option Path). unwrap_or o (below a (n ∷ rest))) (sym (ap (λ b. cond b (Some (below a (n ∷ rest))) (find (is_versionable t) (upward (below a rest)))) e) ∙ k)))
    by (inr e) k above = both (is_frozen (view_of t) a rest) _ (above (sym (ap (λ b. cond b (Some (below a (n ∷ rest))) (find (is_versionable t) (upward (below a rest)))) e) ∙ k)) (ap not e)

is_found : (t : Nodes) (p a : Path) → frozen_by t p ≡ Some a → (is_checked_in t a ≡ true) × (find (is_versionable t) (upward p) ≡ Some a)
is_found t p a h = by (find (is_versionable t) (upward p)) h
  where
    at : (q : Path) (b : Bool) → is_checked_in t q ≡ b → cond b (Some q) None ≡ Some a → (is_checked_in t a ≡ true) × (Some q ≡ Some a)
    at q true e k = let same : q ≡ a = ap (λ (o : Option Path). unwrap_or o q) k in (subst (λ (r : Path). is_checked_in t r ≡ true) same e, k)
    at q false e k = absurd (false≢true (ap is_some k))

    by : (o : Option Path) → option_and_then (λ q. cond (is_checked_in t q) (Some q) None) o ≡ Some a → (is_checked_in t a ≡ true) × (o ≡ Some a)
    by None k = absurd (false≢true (ap is_some k))
    by (Some q) k = at q (is_checked_in t q) refl k

pub frozen_back : (t : Nodes) (a : Path) (rest : List Name) → frozen_by t (below a rest) ≡ Some a → is_frozen (view_of t) a rest ≡ true
frozen_back t a rest h = let it = is_found t (below a rest) a h in frozen_of t a rest it.0 it.1

-- the checked-in node is at or above the path
pub found_in : (test : Path → Bool) (ps : List Path) (a : Path) → find test ps ≡ Some a → IsIn a ps
found_in test [] a h = absurd (false≢true (ap is_some h))
found_in test (p ∷ ps) a h =
    (elim (test p) as (λ b. cond b (Some p) (find test ps) ≡ Some a → IsIn a (p ∷ ps)) [
      | true ↦ λ k. inl (ap (λ (o : Option Path). unwrap_or o p) k)
      | false ↦ λ k. inr (found_in test ps a k)
    ]) h

pub frozen_above : (t : Nodes) (p a : Path) → frozen_by t p ≡ Some a → IsIn a (upward p)
frozen_above t p a h = found_in (is_versionable t) (upward p) a (is_found t p a h).1

pub frozen_anew : (t u : Nodes) (a : Path) (rest : List Name) → is_frozen (view_of u) a rest ≡ true → is_frozen (view_of t) a rest ≡ false → is_frozen_anew t u (below a rest) ≡ true
frozen_anew t u a rest later before = ap (λ o. option_map_or (λ q. not (is_this_path (frozen_by t (below a rest)) q)) o false) (frozen_is u a rest later) ∙ by (frozen_by t (below a rest)) refl
  where
    by : (o : Option Path) → frozen_by t (below a rest) ≡ o → not (is_this_path o a) ≡ true
    by None e = refl
    by (Some q) e = elim (true_or_false (same_path a q)) [
      | inr k ↦ ap not k
      | inl k ↦ absurd (false≢true (sym before ∙ frozen_back t a rest (e ∙ ap Some (sym (path_same a q k)))))
    ]
