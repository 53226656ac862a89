-- The head's entry of the node itself.
use Rattle.std.proofs.Common.{◌≡◌, ℕ, zero, suc, ◌-◌, ◌<◌, ◌≤◌, max, Some, None, List, [], ◌∷◌, length, get_or, set, fold, inl, inr, sym, ap, ◌∙◌, arith}
use Rattle.std.specs.List.{AllByRecursion}
use Rattle.std.specs.Option.{option_map_or}
use Rattle.std.proofs.lemmas.List.{get_or-set_same, get_or_past, set-get_or}
use Rattle.std.proofs.lemmas.Bool.{cases_lt}
use Rattle.jr_rev.specs.declared.revision.Revision.{Revision}
use Rattle.jr_rev.specs.Vectors.{Entries, entry, with_entry}
use Rattle.jr_rev.proofs.Bounds.{entry_at}
use Rattle.oak_node.specs.Heads.{latest_time}

-- an entry that is there stands within the vector
entry_within : (v : Entries) (k : ℕ) (e : Revision) → get_or v k None ≡ Some e → k < length v
entry_within v k e h = elim (cases_lt k (length v)) [ inl w ↦ w | inr w ↦ absurd (missing (sym (get_or_past v k None w) ∙ h)) ]
  where
    missing : None ≡ Some e → ⊥
    missing n = cc

-- an entry that is there, replaced by another of its cluster node
pub entry-with_entry : (v : Entries) (k : ℕ) (e r : Revision) → entry v k ≡ Some e → r.cluster ≡ k → entry (with_entry v r) k ≡ Some r
entry-with_entry v zero e r h is = absurd (none h)
  where
    none : None ≡ Some e → ⊥
    none n = cc
entry-with_entry v (suc k) e r h is =
    let less : r.cluster - 1 ≡ k = omega arith in
    let within : k < length v = entry_within v k e (sym (entry_at v k) ∙ h) in
    entry_at (with_entry v r) k ∙ (ap (λ i. get_or (set v i (Some r)) k None) less ∙ get_or-set_same v k (Some r) None within)

-- an entry that is there, put in again
pub with_entry_same : (v : Entries) (k : ℕ) (e : Revision) → entry v k ≡ Some e → e.cluster ≡ k → with_entry v e ≡ v
with_entry_same v zero e h is = absurd (none h)
  where
    none : None ≡ Some e → ⊥
    none n = cc
with_entry_same v (suc k) e h is =
    let less : e.cluster - 1 ≡ k = omega arith in
    ap (λ i. set v i (Some e)) less ∙ (ap (λ o. set v k o) (sym (sym (entry_at v k) ∙ h)) ∙ set-get_or v k None)

-- ---- times

fold_least : (f : ℕ → ℕ) (a : ℕ) (ks : List ℕ) → a ≤ fold (λ t k. max t (f k)) a ks
fold_least f a [] = omega arith
fold_least f a (k ∷ ks) = let h = fold_least f (max a (f k)) ks in omega arith

fold_each : (f : ℕ → ℕ) (a : ℕ) (ks : List ℕ) → AllByRecursion (λ k. f k ≤ fold (λ t k. max t (f k)) a ks) ks
fold_each f a [] = tt
fold_each f a (k ∷ ks) = (let h = fold_least f (max a (f k)) ks in omega arith, fold_each f (max a (f k)) ks)

-- no entry is later than the greatest time
pub entry_time : (v : Entries) (k : ℕ) → 1 ≤ k → k ≤ 8 → option_map_or (λ r. r.time) (entry v k) 0 ≤ latest_time v
entry_time v k low high = by k low high (fold_each (λ j. option_map_or (λ r. r.time) (entry v j) 0) 0 (1 ∷ 2 ∷ 3 ∷ 4 ∷ 5 ∷ 6 ∷ 7 ∷ 8 ∷ []))
  where
    at : ℕ → Type 0
    at j = option_map_or (λ r. r.time) (entry v j) 0 ≤ latest_time v

    by : (j : ℕ) → 1 ≤ j → j ≤ 8 → AllByRecursion at (1 ∷ 2 ∷ 3 ∷ 4 ∷ 5 ∷ 6 ∷ 7 ∷ 8 ∷ []) → at j
    by zero l h all = absurd (omega arith)
    by (suc zero) l h all = all.0
    by (suc (suc zero)) l h all = all.1.0
    by (suc (suc (suc zero))) l h all = all.1.1.0
    by (suc (suc (suc (suc zero)))) l h all = all.1.1.1.0
    by (suc (suc (suc (suc (suc zero))))) l h all = all.1.1.1.1.0
    by (suc (suc (suc (suc (suc (suc zero)))))) l h all = all.1.1.1.1.1.0
    by (suc (suc (suc (suc (suc (suc (suc zero))))))) l h all = all.1.1.1.1.1.1.0
    by (suc (suc (suc (suc (suc (suc (suc (suc zero)))))))) l h all = all.1.1.1.1.1.1.1.0
    by (suc (suc (suc (suc (suc (suc (suc (suc (suc j))))))))) l h all = absurd (omega arith)
