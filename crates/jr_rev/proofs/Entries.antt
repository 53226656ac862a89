-- The entries of vectors, one at a time.
use Rattle.std.proofs.Common.{◌≡◌, ℕ, ◌+◌, ◌-◌, ◌<◌, ◌≤◌, zero, suc, Bool, true, false, cond, Option, Some, None, [], ◌∷◌, length, get_or, refl, sym, ap, ◌∙◌, arith}
use Rattle.std.specs.Prelude.{◌==◌, slice_set}
use Rattle.std.proofs.lemmas.List.{length-set, ext_get_or}
use Rattle.jr_rev.specs.declared.revision.Revision.{Revision}
use Rattle.jr_rev.specs.Revisions.{is_at_most}
use Rattle.jr_rev.specs.Vectors.{Entries, with_entry, stands_from, lesser_entry, least, greater_entry, greatest, IsVector}
use Rattle.std.proofs.lemmas.Bool.{eq-eqb}
pub use Rattle.std.proofs.lemmas.Bool.{and_parts as both, and_from as and_true, eqb-true as number_same}

-- ---- an entry that is set

set_stands : (v : Entries) (j i : ℕ) (r : Revision) → r.cluster ≡ j + i → stands_from j v ≡ true → stands_from j (slice_set v i (Some r)) ≡ true
set_stands [] j i r e h = refl
set_stands (None ∷ v) j zero r e h = and_true (r.cluster == j) _ (eq-eqb r.cluster j (omega arith)) h
set_stands (Some q ∷ v) j zero r e h = and_true (r.cluster == j) _ (eq-eqb r.cluster j (omega arith)) (both (q.cluster == j) _ h).1
set_stands (None ∷ v) j (suc i) r e h = set_stands v (j + 1) i r (omega arith) h
set_stands (Some q ∷ v) j (suc i) r e h = and_true (q.cluster == j) _ (both (q.cluster == j) _ h).0 (set_stands v (j + 1) i r (omega arith) (both (q.cluster == j) _ h).1)

pub set_vector : (v : Entries) (r : Revision) → IsVector v → 1 ≤ r.cluster → IsVector (with_entry v r)
set_vector v r is low = record {
  eight = length-set v (r.cluster - 1) (Some r) ∙ is.eight;
  stands = set_stands v 1 (r.cluster - 1) r (omega arith) is.stands;
}

-- ---- the least and the greatest

no_lesser : (e : Option Revision) → None ≡ lesser_entry e None
no_lesser None = refl
no_lesser (Some e) = refl

same_greater : (e : Option Revision) → e ≡ greater_entry e None
same_greater None = refl
same_greater (Some e) = refl

pub get_or-least : (v w : Entries) (k : ℕ) → get_or (least v w) k None ≡ lesser_entry (get_or v k None) (get_or w k None)
get_or-least [] w k = refl
get_or-least (e ∷ v) [] zero = no_lesser e
get_or-least (e ∷ v) [] (suc k) = no_lesser (get_or v k None)
get_or-least (e ∷ v) (f ∷ w) zero = refl
get_or-least (e ∷ v) (f ∷ w) (suc k) = get_or-least v w k

pub get_or-greatest : (v w : Entries) (k : ℕ) → get_or (greatest v w) k None ≡ greater_entry (get_or v k None) (get_or w k None)
get_or-greatest [] w k = refl
get_or-greatest (e ∷ v) [] zero = same_greater e
get_or-greatest (e ∷ v) [] (suc k) = same_greater (get_or v k None)
get_or-greatest (e ∷ v) (f ∷ w) zero = refl
get_or-greatest (e ∷ v) (f ∷ w) (suc k) = get_or-greatest v w k

length-least : (v w : Entries) → length v ≡ length w → length (least v w) ≡ length v
length-least [] w h = refl
length-least (e ∷ v) [] h = absurd (omega (arith, h))
length-least (e ∷ v) (f ∷ w) h = ap suc (length-least v w (omega (arith, h)))

length-greatest : (v w : Entries) → length v ≡ length w → length (greatest v w) ≡ length v
length-greatest [] [] h = refl
length-greatest [] (f ∷ w) h = absurd (omega (arith, h))
length-greatest (e ∷ v) [] h = refl
length-greatest (e ∷ v) (f ∷ w) h = ap suc (length-greatest v w (omega (arith, h)))

pub each_least : (u v w : Entries) → length u ≡ 8 → length v ≡ 8 → length w ≡ 8 → ((k : ℕ) → k < 8 → get_or u k None ≡ lesser_entry (get_or v k None) (get_or w k None)) → u ≡ least v w
each_least u v w a b c h =
    ext_get_or None u (least v w) (a ∙ sym (length-least v w (b ∙ sym c) ∙ b)) (λ k lt. h k (omega arith) ∙ sym (get_or-least v w k))

pub each_greatest : (u v w : Entries) → length u ≡ 8 → length v ≡ 8 → length w ≡ 8 → ((k : ℕ) → k < 8 → get_or u k None ≡ greater_entry (get_or v k None) (get_or w k None)) → u ≡ greatest v w
each_greatest u v w a b c h =
    ext_get_or None u (greatest v w) (a ∙ sym (length-greatest v w (b ∙ sym c) ∙ b)) (λ k lt. h k (omega arith) ∙ sym (get_or-greatest v w k))

-- one of two numbers is k where both are
one_is : (b : Bool) (e f : Revision) (k : ℕ) → (e.cluster == k) ≡ true → (f.cluster == k) ≡ true → ((cond b e f).cluster == k) ≡ true
one_is true e f k h i = h
one_is false e f k h i = i

least_stands : (v w : Entries) (k : ℕ) → stands_from k v ≡ true → stands_from k w ≡ true → stands_from k (least v w) ≡ true
least_stands [] w k h i = refl
least_stands (e ∷ v) [] k h i = refl
least_stands (None ∷ v) (None ∷ w) k h i = least_stands v w (k + 1) h i
least_stands (None ∷ v) (Some f ∷ w) k h i = least_stands v w (k + 1) h (both (f.cluster == k) _ i).1
least_stands (Some e ∷ v) (None ∷ w) k h i = least_stands v w (k + 1) (both (e.cluster == k) _ h).1 i
least_stands (Some e ∷ v) (Some f ∷ w) k h i =
    let a = both (e.cluster == k) _ h in
    let b = both (f.cluster == k) _ i in
    and_true ((cond (is_at_most e f) e f).cluster == k) _ (one_is (is_at_most e f) e f k a.0 b.0) (least_stands v w (k + 1) a.1 b.1)

greatest_stands : (v w : Entries) (k : ℕ) → stands_from k v ≡ true → stands_from k w ≡ true → stands_from k (greatest v w) ≡ true
greatest_stands [] w k h i = i
greatest_stands (e ∷ v) [] k h i = h
greatest_stands (None ∷ v) (None ∷ w) k h i = greatest_stands v w (k + 1) h i
greatest_stands (None ∷ v) (Some f ∷ w) k h i = let b = both (f.cluster == k) _ i in and_true (f.cluster == k) _ b.0 (greatest_stands v w (k + 1) h b.1)
greatest_stands (Some e ∷ v) (None ∷ w) k h i = let a = both (e.cluster == k) _ h in and_true (e.cluster == k) _ a.0 (greatest_stands v w (k + 1) a.1 i)
greatest_stands (Some e ∷ v) (Some f ∷ w) k h i =
    let a = both (e.cluster == k) _ h in
    let b = both (f.cluster == k) _ i in
    and_true ((cond (is_at_most e f) f e).cluster == k) _ (one_is (is_at_most e f) f e k b.0 a.0) (greatest_stands v w (k + 1) a.1 b.1)

pub least_vector : (v w : Entries) → IsVector v → IsVector w → IsVector (least v w)
least_vector v w a b = record { eight = length-least v w (a.eight ∙ sym b.eight) ∙ a.eight; stands = least_stands v w 1 a.stands b.stands }

pub greatest_vector : (v w : Entries) → IsVector v → IsVector w → IsVector (greatest v w)
greatest_vector v w a b = record { eight = length-greatest v w (a.eight ∙ sym b.eight) ∙ a.eight; stands = greatest_stands v w 1 a.stands b.stands }
