-- Lists of places in order.
use Rattle.std.proofs.Common.{Bool, if◌then◌else◌, nat_lt, true, false, ◌+◌, ◌⊎◌, inl, inr, ◌≡◌, ℕ, zero, suc, ◌<◌, ◌≤◌, List, [], ◌∷◌, ◌++◌, refl, sym, subst, ⊎_elim, arith, Contains}
use Rattle.std.specs.List.{range_with_len}
use Rattle.std.proofs.lemmas.Bool.Decides.{nat_tests}
use Rattle.seat_lock.specs.Views.{InOrder, put_place, merged_places}
use Rattle.seat_lock.proofs.Lists.{contains_more, contains_none, contains_cons}

pub in_order_bounds : (low : ℕ) (ps : List ℕ) (high : ℕ) → InOrder low ps high → low ≤ high
in_order_bounds low [] high h = h
in_order_bounds low (p ∷ ps) high h = let less = h.0 in let more = in_order_bounds (p + 1) ps high h.1 in omega arith

pub in_order_raised : (low : ℕ) (ps : List ℕ) (high top : ℕ) → InOrder low ps high → high ≤ top → InOrder low ps top
in_order_raised low [] high top h less = omega arith
in_order_raised low (p ∷ ps) high top h less = (h.0, in_order_raised (p + 1) ps high top h.1 less)

pub in_order_lowered : (base low : ℕ) (ps : List ℕ) (high : ℕ) → base ≤ low → InOrder low ps high → InOrder base ps high
in_order_lowered base low [] high less h = omega arith
in_order_lowered base low (p ∷ ps) high less h = (let more = h.0 in omega arith, h.1)

pub in_order_within : (low : ℕ) (ps : List ℕ) (high p : ℕ) → InOrder low ps high → Contains ps p → (low ≤ p) × (p < high)
in_order_within low [] high p h has = absurd (contains_none p has)
in_order_within low (q ∷ ps) high p h has =
    ⊎_elim
    (λ (same : q ≡ p). let less = h.0 in let more = in_order_bounds (q + 1) ps high h.1 in (omega arith, omega arith))
    (λ (has' : Contains ps p). let less = h.0 in let t = in_order_within (q + 1) ps high p h.1 has' in (omega arith, t.1))
    (contains_cons q p ps has.0 has.1 has.2)

-- the next k places are added
pub in_order_extended : (low : ℕ) (ps : List ℕ) (n k : ℕ) → InOrder low ps n → InOrder low (ps ++ range_with_len n k) (n + k)
in_order_extended low [] n zero h = omega arith
in_order_extended low [] n (suc k) h = (h, subst (InOrder (n + 1) (range_with_len (n + 1) k)) (omega arith) (in_order_extended (n + 1) [] (n + 1) k (omega arith)))
in_order_extended low (p ∷ ps) n k h = (h.0, in_order_extended (p + 1) ps n k h.1)

pub contains_range : (n k p : ℕ) → Contains (range_with_len n k) p → n ≤ p
contains_range n zero p h = absurd (contains_none p h)
contains_range n (suc k) p h =
    ⊎_elim
    (λ (same : n ≡ p). omega arith)
    (λ (more : Contains (range_with_len (n + 1) k) p). let less = contains_range (n + 1) k p more in omega arith)
    (contains_cons n p (range_with_len (n + 1) k) h.0 h.1 h.2)

put_if : (b : Bool) (p q r : ℕ) (qs : List ℕ) → (Contains (put_place p qs) r → (r ≡ p) ⊎ Contains qs r) → Contains (if b then p ∷ q ∷ qs else q ∷ put_place p qs) r → (r ≡ p) ⊎ Contains (q ∷ qs) r
put_if true p q r qs rest h = ⊎_elim (λ (same : p ≡ r). inl (sym same)) (λ more. inr more) (contains_cons p r (q ∷ qs) h.0 h.1 h.2)
put_if false p q r qs rest h =
    ⊎_elim
    (λ (same : q ≡ r). inr (0, omega arith, same))
    (λ (more : Contains (put_place p qs) r). ⊎_elim (λ same. inl same) (λ (old : Contains qs r). inr (contains_more q r qs old)) (rest more))
    (contains_cons q r (put_place p qs) h.0 h.1 h.2)

pub contains_put : (p : ℕ) (qs : List ℕ) (r : ℕ) → Contains (put_place p qs) r → (r ≡ p) ⊎ Contains qs r
contains_put p [] r h = ⊎_elim (λ (same : p ≡ r). inl (sym same)) (λ more. inr more) (contains_cons p r [] h.0 h.1 h.2)
contains_put p (q ∷ qs) r h = put_if (nat_lt p q) p q r qs (contains_put p qs r) h

pub contains_merged : (ps qs : List ℕ) (r : ℕ) → Contains (merged_places ps qs) r → Contains ps r ⊎ Contains qs r
contains_merged [] qs r h = inr h
contains_merged (p ∷ ps) qs r h =
    ⊎_elim
    (λ (same : r ≡ p). inl (0, omega arith, sym same))
    (λ (more : Contains (merged_places ps qs) r). ⊎_elim (λ (old : Contains ps r). inl (contains_more p r ps old)) (λ (old : Contains qs r). inr old) (contains_merged ps qs r more))
    (contains_put p (merged_places ps qs) r h)

put_in_order : (b : Bool) (low p q : ℕ) (qs : List ℕ) (high : ℕ) → nat_lt p q ≡ b → InOrder low (q ∷ qs) high → low ≤ p → p < high → (q ≡ p → ⊥) → (q + 1 ≤ p → InOrder (q + 1) (put_place p qs) high) → InOrder low (if b then p ∷ q ∷ qs else q ∷ put_place p qs) high
put_in_order true low p q qs high is h from below apart rest = let less : p + 1 ≤ q = grind (arith, nat_tests) in (from, (less, h.1))
put_in_order false low p q qs high is h from below apart rest =
    let less : q ≤ p = grind (arith, nat_tests) in
    let differ : q + 1 ≤ p = omega (arith, apart) in
    (h.0, rest differ)

pub in_order_put : (low p : ℕ) (qs : List ℕ) (high : ℕ) → InOrder low qs high → low ≤ p → p < high → (Contains qs p → ⊥) → InOrder low (put_place p qs) high
in_order_put low p [] high h from below new = (from, omega arith)
in_order_put low p (q ∷ qs) high h from below new =
    put_in_order (nat_lt p q) low p q qs high refl h from below (λ same. new (0, omega arith, same))
    (λ past. in_order_put (q + 1) p qs high h.1 past below (λ has. new (contains_more q p qs has)))

pub in_order_merged : (low : ℕ) (ps qs : List ℕ) (high : ℕ) → InOrder low ps high → InOrder low qs high → ((r : ℕ) → Contains ps r → Contains qs r → ⊥) → InOrder low (merged_places ps qs) high
in_order_merged low [] qs high h k apart = k
in_order_merged low (p ∷ ps) qs high h k apart =
    let less = h.0 in
    let under = in_order_within low (p ∷ ps) high p h (0, omega arith, refl) in
    in_order_put low p (merged_places ps qs) high
    (in_order_merged low ps qs high (in_order_lowered low (p + 1) ps high (omega arith) h.1) k (λ r a b. apart r (contains_more p r ps a) b))
    less under.1
    (λ has. ⊎_elim
    (λ (again : Contains ps p). let past = in_order_within (p + 1) ps high p h.1 again in let up = past.0 in absurd (omega arith))
    (λ (other : Contains qs p). apart p (0, omega arith, refl) other)
    (contains_merged ps qs p has))

put_kept : (b : Bool) (p q r : ℕ) (qs : List ℕ) → (Contains qs r → Contains (put_place p qs) r) → Contains (q ∷ qs) r → Contains (if b then p ∷ q ∷ qs else q ∷ put_place p qs) r
put_kept true p q r qs rest h = contains_more p r (q ∷ qs) h
put_kept false p q r qs rest h = ⊎_elim (λ (same : q ≡ r). (0, omega arith, same)) (λ (more : Contains qs r). contains_more q r (put_place p qs) (rest more)) (contains_cons q r qs h.0 h.1 h.2)

contains_put_kept : (p : ℕ) (qs : List ℕ) (r : ℕ) → Contains qs r → Contains (put_place p qs) r
contains_put_kept p [] r h = absurd (contains_none r h)
contains_put_kept p (q ∷ qs) r h = put_kept (nat_lt p q) p q r qs (contains_put_kept p qs r) h

put_new : (b : Bool) (p q : ℕ) (qs : List ℕ) → Contains (put_place p qs) p → Contains (if b then p ∷ q ∷ qs else q ∷ put_place p qs) p
put_new true p q qs rest = (0, omega arith, refl)
put_new false p q qs rest = contains_more q p (put_place p qs) rest

contains_put_new : (p : ℕ) (qs : List ℕ) → Contains (put_place p qs) p
contains_put_new p [] = (0, omega arith, refl)
contains_put_new p (q ∷ qs) = put_new (nat_lt p q) p q qs (contains_put_new p qs)

pub contains_merged_left : (ps qs : List ℕ) (r : ℕ) → Contains ps r → Contains (merged_places ps qs) r
contains_merged_left [] qs r h = absurd (contains_none r h)
contains_merged_left (p ∷ ps) qs r h =
    ⊎_elim
    (λ (same : p ≡ r). subst (λ x. Contains (put_place p (merged_places ps qs)) x) same (contains_put_new p (merged_places ps qs)))
    (λ (more : Contains ps r). contains_put_kept p (merged_places ps qs) r (contains_merged_left ps qs r more))
    (contains_cons p r ps h.0 h.1 h.2)

pub contains_merged_right : (ps qs : List ℕ) (r : ℕ) → Contains qs r → Contains (merged_places ps qs) r
contains_merged_right [] qs r h = h
contains_merged_right (p ∷ ps) qs r h = contains_put_kept p (merged_places ps qs) r (contains_merged_right ps qs r h)
