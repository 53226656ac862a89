-- An entry of a vector, set and set again.
use Rattle.std.proofs.Common.{◌≡◌, ℕ, zero, suc, ◌-◌, ◌≤◌, ◌⊎◌, inl, inr, Bool, true, false, cond, Option, Some, None, [], ◌∷◌, length, get_or, set, refl, sym, ap, ◌∙◌, arith}
use Rattle.std.specs.Prelude.{slice_set}
use Rattle.std.proofs.lemmas.List.{get_or-set_same}
use Rattle.jr_rev.specs.declared.revision.Revision.{Revision}
use Rattle.std.specs.Option.{option_map_or}
use mathlib.Core.Bool.{false≢true}
use Rattle.jr_rev.specs.Revisions.{is_at_most}
use Rattle.jr_rev.specs.Vectors.{Entries, IsVector, entry, greater_entry, greatest, is_below, is_entry_below, sees, with_entry}
use Rattle.jr_rev.proofs.Bounds.{entry_at, greatest_left, greatest_right}
use Rattle.jr_rev.proofs.Entries.{get_or-greatest}
use Rattle.core_read.proofs.Latest.{at_most_both}
use Rattle.core_heads.proofs.Below.{below_seen, seen_below}
use Rattle.core_heads.proofs.Orders.{and_both}
use Rattle.core_nodes.specs.Nodes.{IsPair}

-- the entry that was set
pub entry_set : (v : Entries) (r : Revision) (k : ℕ) → r.cluster ≡ k → 1 ≤ k → k ≤ length v → entry (with_entry v r) k ≡ Some r
entry_set v r zero is low high = absurd (omega arith)
entry_set v r (suc k) is low high =
    let less : r.cluster - 1 ≡ k = omega arith in
    entry_at (with_entry v r) k ∙ (ap (λ i. get_or (set v i (Some r)) k None) less ∙ get_or-set_same v k (Some r) None (omega arith))

set_again : (v : Entries) (i : ℕ) (x y : Option Revision) → slice_set (slice_set v i x) i y ≡ slice_set v i y
set_again [] i x y = refl
set_again (e ∷ v) zero x y = refl
set_again (e ∷ v) (suc i) x y = ap (λ (w : Entries). e ∷ w) (set_again v i x y)

-- the later one of a cluster node stays
pub with_again : (v : Entries) (r q : Revision) → r.cluster ≡ q.cluster → with_entry (with_entry v r) q ≡ with_entry v q
with_again v r q same = ap (λ j. slice_set (slice_set v (j - 1) (Some r)) (q.cluster - 1) (Some q)) same ∙ set_again v (q.cluster - 1) (Some r) (Some q)

-- ---- pairs

-- a vector that sees more goes with the same sweep vector
pub pair_grows : (v w t : Entries) → ((x : Revision) → sees v x ≡ true → sees w x ≡ true) → IsPair v t → IsPair w t
pair_grows v w t more p = record { vector = p.vector; begun = p.begun; below = λ x h. more x (p.below x h) }

-- ---- the greatest of two vectors

entry-greatest : (v w : Entries) (k : ℕ) → entry (greatest v w) k ≡ greater_entry (entry v k) (entry w k)
entry-greatest v w zero = refl
entry-greatest v w (suc k) = rw (entry_at (greatest v w) k, entry_at v k, entry_at w k) (get_or-greatest v w k)

-- what either sees, it sees
pub left_seen : (v w : Entries) (x : Revision) → sees v x ≡ true → sees (greatest v w) x ≡ true
left_seen v w x h = below_seen v (greatest v w) x (greatest_left v w) h

pub right_seen : (v w : Entries) (x : Revision) → sees w x ≡ true → sees (greatest v w) x ≡ true
right_seen v w x h = below_seen w (greatest v w) x (greatest_right v w) h

-- and nothing else
pub either_seen : (v w : Entries) (x : Revision) → sees (greatest v w) x ≡ true → (sees v x ≡ true) ⊎ (sees w x ≡ true)
either_seen v w x h = by (entry v x.cluster) (entry w x.cluster) (ap (λ (o : Option Revision). option_map_or (is_at_most x) o false) (sym (entry-greatest v w x.cluster)) ∙ h)
  where
    by : (e f : Option Revision) → option_map_or (is_at_most x) (greater_entry e f) false ≡ true → (option_map_or (is_at_most x) e false ≡ true) ⊎ (option_map_or (is_at_most x) f false ≡ true)
    by None f h = inr h
    by (Some e) None h = inl h
    by (Some e) (Some f) h = one (is_at_most e f) h
      where
        one : (b : Bool) → is_at_most x (cond b f e) ≡ true → (is_at_most x e ≡ true) ⊎ (is_at_most x f ≡ true)
        one true h = inr h
        one false h = inl h

-- ---- vectors that see the same

same_entries : (v w : Entries) → length v ≡ length w → is_below v w ≡ true → is_below w v ≡ true → v ≡ w
same_entries [] [] l h k = refl
same_entries [] (f ∷ w) l h k = absurd (omega arith)
same_entries (e ∷ v) [] l h k = absurd (omega arith)
same_entries (e ∷ v) (f ∷ w) l h k =
    let a = and_both (is_entry_below e f) _ h in
    let b = and_both (is_entry_below f e) _ k in
    one e f a.0 b.0 ∙ ap (λ (u : Entries). f ∷ u) (same_entries v w (omega arith) a.1 b.1)
  where
    one : (e f : Option Revision) → is_entry_below e f ≡ true → is_entry_below f e ≡ true → e ∷ v ≡ f ∷ v
    one None None h k = refl
    one None (Some f) h k = absurd (false≢true k)
    one (Some e) None h k = absurd (false≢true h)
    one (Some e) (Some f) h k = ap (λ (r : Revision). Some r ∷ v) (at_most_both e f h k)

-- two vectors that see the same are the same
pub same_vector : (v w : Entries) → IsVector v → IsVector w → ((x : Revision) → sees v x ≡ true → sees w x ≡ true) → ((x : Revision) → sees w x ≡ true → sees v x ≡ true) → v ≡ w
same_vector v w a b there back = same_entries v w (a.eight ∙ sym b.eight) (seen_below v w a.stands there) (seen_below w v b.stands back)
