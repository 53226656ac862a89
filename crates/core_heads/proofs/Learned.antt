-- What a node learns: its head, raised to what the others had published at one moment.
use Rattle.std.proofs.Common.{◌≡◌, ℕ, zero, suc, ◌+◌, ◌<◌, ◌≤◌, Bool, true, false, cond, ◌⊎◌, inl, inr, List, [], ◌∷◌, length, refl, sym, subst, ◌∙◌, arith}
use Rattle.std.specs.Prelude.{◌==◌}
use Rattle.std.specs.List.{fold, range_with_len}
use Rattle.std.proofs.lemmas.Bool.Decides.{nat_tests}
use Rattle.jr_rev.specs.declared.revision.Revision.{Revision}
use Rattle.jr_rev.specs.declared.vector.RevVec.{RevVec}
use Rattle.jr_rev.specs.Revisions.{is_at_most}
use Rattle.jr_rev.specs.Vectors.{sees, stands_from, raised}
use Rattle.core_heads.proofs.Orders.{not_both, same_number}
use Rattle.core_heads.proofs.Below.{raised_stands}
use Rattle.core_heads.proofs.Entries.{seen_raised, raised_sees, raised_own, raised_length}

abbrev pub IsAmong : ℕ → List ℕ → Type 0
IsAmong m [] = ⊥
IsAmong m (n ∷ ns) = (n ≡ m) ⊎ IsAmong m ns

pub among_range : (a n m : ℕ) → IsAmong m (range_with_len a n) → (a ≤ m) × (m < a + n)
among_range a zero m h = absurd h
among_range a (suc n) m (inl e) = (omega arith, omega arith)
among_range a (suc n) m (inr h) = let r = among_range (a + 1) n m h in let low = r.0 in let high = r.1 in (omega arith, omega arith)

pub range_among : (a n m : ℕ) → a ≤ m → m < a + n → IsAmong m (range_with_len a n)
range_among a zero m h k = absurd (omega arith)
range_among a (suc n) m h k = by (λ i j. range_among (a + 1) n m i j) (a == m) refl
  where
    less : (a m : ℕ) → a ≤ m → (a == m) ≡ false → a + 1 ≤ m
    less a m h e = grind (arith, nat_tests)

    by : (a + 1 ≤ m → m < a + 1 + n → IsAmong m (range_with_len (a + 1) n)) → (b : Bool) → (a == m) ≡ b → (a ≡ m) ⊎ IsAmong m (range_with_len (a + 1) n)
    by rest true e = inl (same_number a m e)
    by rest false e = inr (rest (less a m h e) (omega arith))

module _ (k : ℕ) (ps : ℕ → Revision) (of : (m : ℕ) → (ps m).cluster ≡ m) where
  abbrev pub learnt : RevVec → List ℕ → RevVec
  learnt v ms = fold (λ v m. cond (m == k) v (raised v (ps m))) v ms

  pub learnt_sees : (v : RevVec) (ms : List ℕ) (x : Revision) → sees v x ≡ true → sees (learnt v ms) x ≡ true
  learnt_sees v [] x h = h
  learnt_sees v (m ∷ ms) x h = learnt_sees (cond (m == k) v (raised v (ps m))) ms x (one (m == k))
    where
      one : (b : Bool) → sees (cond b v (raised v (ps m))) x ≡ true
      one true = h
      one false = raised_sees v (ps m) x h

  -- of another node, and at most what that had published
  abbrev pub IsPublished : Revision → Type 0
  IsPublished x = ((x.cluster == k) ≡ false) × (is_at_most x (ps x.cluster) ≡ true)

  pub learnt_seen : (v : RevVec) (ms : List ℕ) (x : Revision) → sees (learnt v ms) x ≡ true → (sees v x ≡ true) ⊎ (IsAmong x.cluster ms × IsPublished x)
  learnt_seen v [] x h = inl h
  learnt_seen v (m ∷ ms) x h = by (m == k) refl (learnt_seen (cond (m == k) v (raised v (ps m))) ms x h)
    where
      raise : (m == k) ≡ false → (sees v x ≡ true) ⊎ ((x.cluster ≡ (ps m).cluster) × (is_at_most x (ps m) ≡ true)) → (sees v x ≡ true) ⊎ (IsAmong x.cluster (m ∷ ms) × IsPublished x)
      raise e (inl s) = inl s
      raise e (inr p) = let same : m ≡ x.cluster = sym (p.0 ∙ of m) in inr (inl same, (subst (λ (j : ℕ). (j == k) ≡ false) same e, subst (λ (j : ℕ). is_at_most x (ps j) ≡ true) same p.1))

      by : (b : Bool) → (m == k) ≡ b → (sees (cond b v (raised v (ps m))) x ≡ true) ⊎ (IsAmong x.cluster ms × IsPublished x) → (sees v x ≡ true) ⊎ (IsAmong x.cluster (m ∷ ms) × IsPublished x)
      by b e (inr p) = inr (inr p.0, p.1)
      by true e (inl s) = inl s
      by false e (inl s) = raise e (seen_raised v (ps m) x s)

  pub learnt_own : (v : RevVec) (ms : List ℕ) (x : Revision) → length v ≡ 8 → 1 ≤ x.cluster → x.cluster ≤ 8 → IsAmong x.cluster ms → IsPublished x → sees (learnt v ms) x ≡ true
  learnt_own v [] x eight low high i p = absurd i
  learnt_own v (m ∷ ms) x eight low high (inr i) p = learnt_own (cond (m == k) v (raised v (ps m))) ms x (long (m == k)) low high i p
    where
      long : (b : Bool) → length (cond b v (raised v (ps m))) ≡ 8
      long true = eight
      long false = raised_length v (ps m) ∙ eight
  learnt_own v (m ∷ ms) x eight low high (inl e) p = learnt_sees (cond (m == k) v (raised v (ps m))) ms x (one (m == k) refl)
    where
      cluster : (ps m).cluster ≡ x.cluster
      cluster = of m ∙ e

      one : (b : Bool) → (m == k) ≡ b → sees (cond b v (raised v (ps m))) x ≡ true
      one true t = not_both (m == k) t (subst (λ (j : ℕ). (j == k) ≡ false) (sym e) p.0)
      one false t = raised_own v (ps m) x (subst (λ (j : ℕ). 1 ≤ j) (sym cluster) low) (subst (λ (j : ℕ). j ≤ 8) (sym cluster) high) eight (sym cluster) (subst (λ (j : ℕ). is_at_most x (ps j) ≡ true) (sym e) p.1)

  pub learnt_length : (v : RevVec) (ms : List ℕ) → length (learnt v ms) ≡ length v
  learnt_length v [] = refl
  learnt_length v (m ∷ ms) = learnt_length (cond (m == k) v (raised v (ps m))) ms ∙ one (m == k)
    where
      one : (b : Bool) → length (cond b v (raised v (ps m))) ≡ length v
      one true = refl
      one false = raised_length v (ps m)

  pub learnt_stands : (v : RevVec) (ms : List ℕ) → stands_from 1 v ≡ true → stands_from 1 (learnt v ms) ≡ true
  learnt_stands v [] h = h
  learnt_stands v (m ∷ ms) h = learnt_stands (cond (m == k) v (raised v (ps m))) ms (one (m == k))
    where
      one : (b : Bool) → stands_from 1 (cond b v (raised v (ps m))) ≡ true
      one true = h
      one false = raised_stands v (ps m) h
