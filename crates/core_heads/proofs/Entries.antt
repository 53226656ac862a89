-- What a vector sees after one entry is set.
use Rattle.oak_machine.specs.Runs.{IsNode}
use Rattle.std.proofs.Common.{◌≡◌, ℕ, ◌<◌, ◌≤◌, ◌-◌, zero, suc, Bool, true, false, cond, not, ◌||◌, ◌⊎◌, inl, inr, Some, None, Option, List, [], ◌∷◌, length, refl, sym, ap, subst, ◌∙◌, arith}
use Rattle.std.specs.Prelude.{◌==◌, nat_le, slice_get, slice_set, max, unwrap_or}
use Rattle.std.specs.List.{fold}
use Rattle.std.specs.Option.{option_map_or, option_flatten}
use Rattle.std.proofs.lemmas.Bool.Decides.{nat_tests}
use Rattle.std.proofs.lemmas.Option.{slice_get_within}
use mathlib.Core.Bool.{false≢true}
use Rattle.jr_rev.specs.declared.revision.Revision.{Revision}
use Rattle.jr_rev.specs.declared.vector.RevVec.{RevVec}
use Rattle.jr_rev.specs.Revisions.{is_at_most}
use Rattle.jr_rev.specs.Vectors.{Entries, entry, sees, with_entry, start, start_of, raised}
use Rattle.oak_machine.specs.Heads.{greatest_time}
use Rattle.core_read.proofs.Latest.{at_most_trans}
use Rattle.core_heads.proofs.Orders.{not_both, at_most_time, not_at_most}

not_zero : (k : ℕ) → (k == 0) ≡ false → 1 ≤ k
not_zero k h = grind (arith, nat_tests)

positive : (k : ℕ) → 1 ≤ k → (k == 0) ≡ false
positive k h = grind (arith, nat_tests)

pub upper : (k n : ℕ) → nat_le k n ≡ true → k ≤ n
upper k n h = grind (arith, nat_tests)

pub lower : (k n : ℕ) → k ≤ n → nat_le k n ≡ true
lower k n h = grind (arith, nat_tests)

-- what stands at j after i is set
set_cases : (v : Entries) (i j : ℕ) (x : Option Revision) → (slice_get (slice_set v i x) j ≡ slice_get v j) ⊎ ((i ≡ j) × (slice_get (slice_set v i x) j ≡ Some x))
set_cases [] i j x = inl refl
set_cases (e ∷ v) zero zero x = inr (refl, refl)
set_cases (e ∷ v) zero (suc j) x = inl refl
set_cases (e ∷ v) (suc i) zero x = inl refl
set_cases (e ∷ v) (suc i) (suc j) x = by (set_cases v i j x)
  where
    by : (slice_get (slice_set v i x) j ≡ slice_get v j) ⊎ ((i ≡ j) × (slice_get (slice_set v i x) j ≡ Some x)) → (slice_get (slice_set v i x) j ≡ slice_get v j) ⊎ ((suc i ≡ suc j) × (slice_get (slice_set v i x) j ≡ Some x))
    by (inl h) = inl h
    by (inr h) = inr (ap suc h.0, h.1)

set_there : (v : Entries) (i : ℕ) (x : Option Revision) → i < length v → slice_get (slice_set v i x) i ≡ Some x
set_there [] i x h = absurd (omega arith)
set_there (e ∷ v) zero x h = refl
set_there (e ∷ v) (suc i) x h = set_there v i x (omega arith)

pub set_length : (v : Entries) (i : ℕ) (x : Option Revision) → length (slice_set v i x) ≡ length v
set_length [] i x = refl
set_length (e ∷ v) zero x = refl
set_length (e ∷ v) (suc i) x = ap suc (set_length v i x)

pub entry_at : (v : Entries) (k : ℕ) → entry v (suc k) ≡ option_flatten (slice_get v k)
entry_at v k =
    let zeroth : (suc k == 0) ≡ false = grind (arith, nat_tests) in
    let less : suc k - 1 ≡ k = omega arith in
    ap (λ b. cond b None (option_flatten (slice_get v (suc k - 1)))) zeroth ∙ ap (λ j. option_flatten (slice_get v j)) less

entry_cases : (v : Entries) (r : Revision) (k : ℕ) → 1 ≤ r.cluster → (entry (with_entry v r) k ≡ entry v k) ⊎ ((k ≡ r.cluster) × (entry (with_entry v r) k ≡ Some r))
entry_cases v r zero low = inl refl
entry_cases v r (suc k) low = by (set_cases v (r.cluster - 1) k (Some r))
  where
    by : (slice_get (with_entry v r) k ≡ slice_get v k) ⊎ ((r.cluster - 1 ≡ k) × (slice_get (with_entry v r) k ≡ Some (Some r))) → (entry (with_entry v r) (suc k) ≡ entry v (suc k)) ⊎ ((suc k ≡ r.cluster) × (entry (with_entry v r) (suc k) ≡ Some r))
    by (inl h) = inl (entry_at (with_entry v r) k ∙ ap option_flatten h ∙ sym (entry_at v k))
    by (inr h) = let e = h.0 in inr (omega arith, entry_at (with_entry v r) k ∙ ap option_flatten h.1)

-- what is seen after an entry was set was seen before, or is at most the new entry
pub seen_before : (v : Entries) (r o : Revision) → 1 ≤ r.cluster → sees (with_entry v r) o ≡ true → (sees v o ≡ true) ⊎ ((o.cluster ≡ r.cluster) × (is_at_most o r ≡ true))
seen_before v r o low h = by (entry_cases v r o.cluster low)
  where
    by : (entry (with_entry v r) o.cluster ≡ entry v o.cluster) ⊎ ((o.cluster ≡ r.cluster) × (entry (with_entry v r) o.cluster ≡ Some r)) → (sees v o ≡ true) ⊎ ((o.cluster ≡ r.cluster) × (is_at_most o r ≡ true))
    by (inl e) = inl (sym (ap (λ (x : Option Revision). option_map_or (is_at_most o) x false) e) ∙ h)
    by (inr e) = inr (e.0, sym (ap (λ (x : Option Revision). option_map_or (is_at_most o) x false) e.1) ∙ h)

-- what was seen still is, where the new entry is no lower
pub still_seen : (v : Entries) (r o : Revision) → 1 ≤ r.cluster → sees v o ≡ true → (o.cluster ≡ r.cluster → is_at_most o r ≡ true) → sees (with_entry v r) o ≡ true
still_seen v r o low h f = by (entry_cases v r o.cluster low)
  where
    by : (entry (with_entry v r) o.cluster ≡ entry v o.cluster) ⊎ ((o.cluster ≡ r.cluster) × (entry (with_entry v r) o.cluster ≡ Some r)) → sees (with_entry v r) o ≡ true
    by (inl e) = ap (λ (x : Option Revision). option_map_or (is_at_most o) x false) e ∙ h
    by (inr e) = ap (λ (x : Option Revision). option_map_or (is_at_most o) x false) e.1 ∙ f e.0

-- what is at most the new entry is seen
pub seen_own : (v : Entries) (r o : Revision) → 1 ≤ r.cluster → r.cluster ≤ 8 → length v ≡ 8 → o.cluster ≡ r.cluster → is_at_most o r ≡ true → sees (with_entry v r) o ≡ true
seen_own v r o low high eight same h = subst (λ (k : ℕ). option_map_or (is_at_most o) (entry (with_entry v r) k) false ≡ true) (sym same) (ap (λ (x : Option Revision). option_map_or (is_at_most o) x false) (at r.cluster refl) ∙ h)
  where
    at : (k : ℕ) → r.cluster ≡ k → entry (with_entry v r) k ≡ Some r
    at zero e = absurd (omega arith)
    at (suc k) e = let i : r.cluster - 1 ≡ k = omega arith in entry_at (with_entry v r) k ∙ ap option_flatten (subst (λ (j : ℕ). slice_get (with_entry v r) j ≡ Some (Some r)) i (set_there v (r.cluster - 1) (Some r) (omega arith)))

max_first : (v : Entries) (t : ℕ) (ks : List ℕ) → t ≤ fold (λ t k. max t (option_map_or (λ (r : Revision). r.time) (entry v k) 0)) t ks
max_first v t [] = omega arith
max_first v t (k ∷ ks) = let rest = max_first v (max t (option_map_or (λ (r : Revision). r.time) (entry v k) 0)) ks in omega arith

max_each : (v : Entries) (t : ℕ) (ks : List ℕ) (i k : ℕ) (e : Revision) → slice_get ks i ≡ Some k → entry v k ≡ Some e → e.time ≤ fold (λ t k. max t (option_map_or (λ (r : Revision). r.time) (entry v k) 0)) t ks
max_each v t [] i k e at h = absurd (false≢true (ap Rattle.std.specs.Prelude.is_some at))
max_each v t (j ∷ ks) zero k e at h =
    let rest = max_first v (max t (option_map_or (λ (r : Revision). r.time) (entry v j) 0)) ks in
    let same : j ≡ k = ap (λ (x : Option ℕ). unwrap_or x j) at in
    let here : option_map_or (λ (r : Revision). r.time) (entry v j) 0 ≡ e.time = ap (λ (n : ℕ). option_map_or (λ (r : Revision). r.time) (entry v n) 0) same ∙ ap (λ (x : Option Revision). option_map_or (λ (r : Revision). r.time) x 0) h in
    omega arith
max_each v t (j ∷ ks) (suc i) k e at h = max_each v (max t (option_map_or (λ (r : Revision). r.time) (entry v j) 0)) ks i k e at h

-- the cluster nodes 1 to 8, by their places
pub numbered : (i : ℕ) → i < 8 → slice_get (1 ∷ 2 ∷ 3 ∷ 4 ∷ 5 ∷ 6 ∷ 7 ∷ 8 ∷ []) i ≡ Some (suc i)
numbered zero h = refl
numbered (suc zero) h = refl
numbered (suc (suc zero)) h = refl
numbered (suc (suc (suc zero))) h = refl
numbered (suc (suc (suc (suc zero)))) h = refl
numbered (suc (suc (suc (suc (suc zero))))) h = refl
numbered (suc (suc (suc (suc (suc (suc zero)))))) h = refl
numbered (suc (suc (suc (suc (suc (suc (suc zero))))))) h = refl
numbered (suc (suc (suc (suc (suc (suc (suc (suc i)))))))) h = absurd (omega (arith, h))

-- an entry that is found stands at its place
pub flat : (x : Option (Option Revision)) (e : Revision) → option_flatten x ≡ Some e → x ≡ Some (Some e)
flat None e h = absurd (false≢true (ap Rattle.std.specs.Prelude.is_some h))
flat (Some None) e h = absurd (false≢true (ap Rattle.std.specs.Prelude.is_some h))
flat (Some (Some f)) e h = ap Some h

-- what a vector of eight entries sees isn't later than its greatest time
pub seen_time : (v : Entries) (o : Revision) → length v ≡ 8 → sees v o ≡ true → o.time ≤ greatest_time v
seen_time v o eight h = by o.cluster (entry v o.cluster) refl refl h
  where
    by : (k : ℕ) (x : Option Revision) → o.cluster ≡ k → entry v k ≡ x → option_map_or (is_at_most o) x false ≡ true → o.time ≤ greatest_time v
    by k None same e s = absurd (false≢true s)
    by zero (Some f) same e s = absurd (false≢true (ap Rattle.std.specs.Prelude.is_some e))
    by (suc k) (Some f) same e s =
        let within = slice_get_within v k (Some f) (flat (slice_get v k) f (sym (entry_at v k) ∙ e)) in
        let a = at_most_time o f s in
        let b = max_each v 0 (1 ∷ 2 ∷ 3 ∷ 4 ∷ 5 ∷ 6 ∷ 7 ∷ 8 ∷ []) k (suc k) f (numbered k (omega arith)) e in
        omega arith

-- the start sees start revisions alone
pub start_sees : (clusters : ℕ) (o : Revision) → sees (start clusters) o ≡ true → (IsNode clusters o.cluster) × (is_at_most o (start_of o.cluster) ≡ true)
start_sees clusters o h = by o.cluster (entry (start clusters) o.cluster) refl refl h
  where
    one : (k : ℕ) (x : Option Revision) → 1 ≤ k → cond (nat_le k clusters) (Some (start_of k)) None ≡ x → option_map_or (is_at_most o) x false ≡ true → IsNode clusters k × (is_at_most o (start_of k) ≡ true)
    one k x low e s = at (nat_le k clusters) refl e
      where
        at : (b : Bool) → nat_le k clusters ≡ b → cond b (Some (start_of k)) None ≡ x → IsNode clusters k × (is_at_most o (start_of k) ≡ true)
        at true t f = ((low, upper k clusters t), ap (λ (y : Option Revision). option_map_or (is_at_most o) y false) f ∙ s)
        at false t f = absurd (false≢true (ap (λ (y : Option Revision). option_map_or (is_at_most o) y false) f ∙ s))

    by : (k : ℕ) (x : Option Revision) → o.cluster ≡ k → entry (start clusters) k ≡ x → option_map_or (is_at_most o) x false ≡ true → IsNode clusters k × (is_at_most o (start_of k) ≡ true)
    by zero x same e s = absurd (false≢true (ap (λ (y : Option Revision). option_map_or (is_at_most o) y false) e ∙ s))
    by (suc zero) x same e s = one 1 x (omega arith) e s
    by (suc (suc zero)) x same e s = one 2 x (omega arith) e s
    by (suc (suc (suc zero))) x same e s = one 3 x (omega arith) e s
    by (suc (suc (suc (suc zero)))) x same e s = one 4 x (omega arith) e s
    by (suc (suc (suc (suc (suc zero))))) x same e s = one 5 x (omega arith) e s
    by (suc (suc (suc (suc (suc (suc zero)))))) x same e s = one 6 x (omega arith) e s
    by (suc (suc (suc (suc (suc (suc (suc zero))))))) x same e s = one 7 x (omega arith) e s
    by (suc (suc (suc (suc (suc (suc (suc (suc zero)))))))) x same e s = one 8 x (omega arith) e s
    by (suc (suc (suc (suc (suc (suc (suc (suc (suc k))))))))) x same e s = absurd (false≢true (ap (λ (y : Option Revision). option_map_or (is_at_most o) y false) (sym (entry_at (start clusters) (suc (suc (suc (suc (suc (suc (suc (suc k))))))))) ∙ e) ∙ s))

pub start_begun : (clusters : ℕ) → 1 ≤ clusters → sees (start clusters) (start_of 1) ≡ true
start_begun clusters h = by (nat_le 1 clusters) (lower 1 clusters h)
  where
    by : (b : Bool) → b ≡ true → option_map_or (is_at_most (start_of 1)) (option_flatten (Some (cond b (Some (start_of 1)) None))) false ≡ true
    by true t = refl
    by false t = absurd (false≢true t)

-- ---- raised

-- what is seen after a raise was seen before, or is at most the revision
pub seen_raised : (v : RevVec) (r o : Revision) → sees (raised v r) o ≡ true → (sees v o ≡ true) ⊎ ((o.cluster ≡ r.cluster) × (is_at_most o r ≡ true))
seen_raised v r o h = by (r.cluster == 0) refl (not (nat_le r.cluster 8)) (sees v r) h
  where
    by : (a : Bool) → (r.cluster == 0) ≡ a → (b c : Bool) → sees (cond (a || b || c) v (with_entry v r)) o ≡ true → (sees v o ≡ true) ⊎ ((o.cluster ≡ r.cluster) × (is_at_most o r ≡ true))
    by true e b c h = inl h
    by false e true c h = inl h
    by false e false true h = inl h
    by false e false false h = seen_before v r o (not_zero r.cluster e) h

-- what was seen is seen after a raise
pub raised_sees : (v : RevVec) (r o : Revision) → sees v o ≡ true → sees (raised v r) o ≡ true
raised_sees v r o h = by (r.cluster == 0) refl (not (nat_le r.cluster 8)) (sees v r) refl
  where
    lower_one : sees v r ≡ false → o.cluster ≡ r.cluster → is_at_most o r ≡ true
    lower_one e same = at (entry v r.cluster) (subst (λ (k : ℕ). option_map_or (is_at_most o) (entry v k) false ≡ true) same h) e
      where
        at : (x : Option Revision) → option_map_or (is_at_most o) x false ≡ true → option_map_or (is_at_most r) x false ≡ false → is_at_most o r ≡ true
        at None s e = absurd (false≢true s)
        at (Some f) s e = at_most_trans o f r s (not_at_most r f e)

    by : (a : Bool) → (r.cluster == 0) ≡ a → (b c : Bool) → sees v r ≡ c → sees (cond (a || b || c) v (with_entry v r)) o ≡ true
    by true e b c k = h
    by false e true c k = h
    by false e false true k = h
    by false e false false k = still_seen v r o (not_zero r.cluster e) h (lower_one k)

-- what is at most the revision is seen after a raise
pub raised_own : (v : RevVec) (r o : Revision) → 1 ≤ r.cluster → r.cluster ≤ 8 → length v ≡ 8 → o.cluster ≡ r.cluster → is_at_most o r ≡ true → sees (raised v r) o ≡ true
raised_own v r o low high eight same h = by (r.cluster == 0) refl (nat_le r.cluster 8) refl (sees v r) refl
  where
    there : sees v r ≡ true → sees v o ≡ true
    there e = at (entry v r.cluster) refl e
      where
        at : (x : Option Revision) → entry v r.cluster ≡ x → option_map_or (is_at_most r) x false ≡ true → sees v o ≡ true
        at None f s = absurd (false≢true s)
        at (Some f) g s = subst (λ (k : ℕ). option_map_or (is_at_most o) (entry v k) false ≡ true) (sym same) (ap (λ (x : Option Revision). option_map_or (is_at_most o) x false) g ∙ at_most_trans o r f h s)

    by : (a : Bool) → (r.cluster == 0) ≡ a → (b : Bool) → nat_le r.cluster 8 ≡ b → (c : Bool) → sees v r ≡ c → sees (cond (a || not b || c) v (with_entry v r)) o ≡ true
    by true e b f c k = absurd (not_both (r.cluster == 0) e (positive r.cluster low))
    by false e false f c k = absurd (not_both (nat_le r.cluster 8) (lower r.cluster 8 high) f)
    by false e true f true k = there k
    by false e true f false k = seen_own v r o low high eight same h

pub raised_length : (v : RevVec) (r : Revision) → length (raised v r) ≡ length v
raised_length v r = by (r.cluster == 0 || not (nat_le r.cluster 8) || sees v r)
  where
    by : (b : Bool) → length (cond b v (with_entry v r)) ≡ length v
    by true = refl
    by false = set_length v (r.cluster - 1) (Some r)
