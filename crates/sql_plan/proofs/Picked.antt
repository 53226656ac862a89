-- Elements that are picked by their places.
use Rattle.std.proofs.Common.{◌≡◌, ℕ, suc, ◌+◌, ◌-◌, ◌<◌, ◌≤◌, Bool, true, false, cond, ◌||◌, length, get_or, List, [], ◌∷◌, refl, sym, ap, ◌∙◌, subst, ◌⊎◌, inl, inr, nat_eq, arith}
use Rattle.std.specs.Prelude.{Some, slice_get}
use Rattle.std.specs.List.{Contains, cons_option, filter, filter_map, list_any}
use Rattle.std.specs.List.Sorted.{IsStrictlyIncreasing}
use Rattle.std.proofs.lemmas.Bool.{eqb-true, eqb-false}
use Rattle.std.proofs.lemmas.List.Elements.{Contains-append_cases, Contains-push_cases}

abbrev pub has_some : {X : Type 0} → List X → Bool
has_some [] = false
has_some (x ∷ xs) = true

-- the places rise, none below n
abbrev pub Rises : ℕ → List ℕ → Type 0
Rises n [] = Unit {0}
Rises n (k ∷ ks) = (n ≤ k) × Rises (k + 1) ks

lower : (n m : ℕ) (ks : List ℕ) → n ≤ m → Rises m ks → Rises n ks
lower n m [] h up = tt
lower n m (k ∷ ks) h up = (omega (arith, up.0), up.1)

is_in : (k : ℕ) (ks : List ℕ) (n : ℕ) → Contains (k ∷ ks) n → (k ≡ n) ⊎ Contains ks n
is_in k ks n h = elim (Contains-append_cases (k ∷ []) ks n h) [ inl a ↦ (elim (Contains-push_cases [] k n a) [ inl b ↦ nothing b | inr b ↦ inl b ]) | inr a ↦ inr a ]
  where
    nothing : {A : Type 0} → Contains [] n → A
    nothing h = absurd (omega (arith, h.1))

-- a place below all of them isn't among them
not_in : (n k : ℕ) (ks : List ℕ) → Rises n ks → k < n → Contains ks k → ⊥
not_in n k [] up h c = absurd (omega (arith, c.1))
not_in n k (j ∷ ks) up h c = elim (is_in j ks k c) [ inl e ↦ absurd (omega (arith, up.0, e, h)) | inr d ↦ not_in (j + 1) k ks up.1 (omega (arith, up.0, h)) d ]

none_at : {X : Type 0} (n : ℕ) (ks : List ℕ) → filter_map (λ k. slice_get {X = X} [] (k - n)) ks ≡ []
none_at n [] = refl
none_at n (k ∷ ks) = none_at n ks

module _ {X : Type 0} where
  further : (x : X) (xs : List X) (n k : ℕ) → n + 1 ≤ k → slice_get (x ∷ xs) (k - n) ≡ slice_get xs (k - (n + 1))
  further x xs n k h = let e : k - n ≡ suc (k - (n + 1)) = omega arith in ap (slice_get (x ∷ xs)) e

  -- behind the first element
  shifted : (x : X) (xs : List X) (n : ℕ) (ks : List ℕ) → Rises (n + 1) ks → filter_map (λ k. slice_get (x ∷ xs) (k - n)) ks ≡ filter_map (λ k. slice_get xs (k - (n + 1))) ks
  shifted x xs n [] up = refl
  shifted x xs n (k ∷ ks) up = λ i. cons_option (further x xs n k up.0 i) (shifted x xs n ks (lower (n + 1) (k + 1) ks (omega (arith, up.0)) up.1) i)

  module _ (p : X → Bool) where
    less_none : (k : ℕ) → k ≡ k - 0
    less_none k = omega arith

    not_true : (b : Bool) → (b ≡ true → ⊥) → b ≡ false
    not_true true h = absurd (h refl)
    not_true false h = refl

    -- the first element isn't picked
    passed : (n : ℕ) (x : X) (xs : List X) (ks : List ℕ) → Rises (n + 1) ks → ((k : ℕ) (y : X) → slice_get (x ∷ xs) k ≡ Some y → p y ≡ true → Contains ks (n + k)) → filter p (filter_map (λ k. slice_get xs (k - (n + 1))) ks) ≡ filter p xs → filter p (filter_map (λ k. slice_get (x ∷ xs) (k - n)) ks) ≡ filter p (x ∷ xs)
    passed n x xs ks up all rest =
        let out : p x ≡ false = not_true (p x) (λ h. not_in (n + 1) (n + 0) ks up (omega arith) (all 0 x refl h)) in
        ap (filter p) (shifted x xs n ks up)
        ∙ rest
        ∙ ap (λ b. cond b (x ∷ filter p xs) (filter p xs)) (sym out)

    later : (n : ℕ) (x : X) (xs : List X) (ks : List ℕ) → ((k : ℕ) (y : X) → slice_get (x ∷ xs) k ≡ Some y → p y ≡ true → Contains ks (n + k)) → (k : ℕ) (y : X) → slice_get xs k ≡ Some y → p y ≡ true → Contains ks (n + 1 + k)
    later n x xs ks all k y at h = subst (Contains ks) (omega arith) (all (suc k) y at h)

    picked_from : (n : ℕ) (xs : List X) (ks : List ℕ) → Rises n ks → ((k : ℕ) (x : X) → slice_get xs k ≡ Some x → p x ≡ true → Contains ks (n + k)) → filter p (filter_map (λ k. slice_get xs (k - n)) ks) ≡ filter p xs
    picked_from n [] ks up all = ap (filter p) (none_at n ks)
    picked_from n (x ∷ xs) [] up all = passed n x xs [] tt all (picked_from (n + 1) xs [] tt (later n x xs [] all))
    picked_from n (x ∷ xs) (k ∷ ks) up all = by (nat_eq k n) refl (λ js r g. picked_from (n + 1) xs js r g)
      where
        by : (b : Bool) → nat_eq k n ≡ b
            → ((js : List ℕ) → Rises (n + 1) js → ((j : ℕ) (y : X) → slice_get xs j ≡ Some y → p y ≡ true → Contains js (n + 1 + j)) → filter p (filter_map (λ j. slice_get xs (j - (n + 1))) js) ≡ filter p xs)
            → filter p (filter_map (λ j. slice_get (x ∷ xs) (j - n)) (k ∷ ks)) ≡ filter p (x ∷ xs)
        by true e go =
            let same : k ≡ n = eqb-true k n e in
            let zero_at : k - n ≡ 0 = omega (arith, same) in
            let rest : Rises (n + 1) ks = subst (λ j. Rises (j + 1) ks) same up.1 in
            let others : filter p (filter_map (λ j. slice_get (x ∷ xs) (j - n)) ks) ≡ filter p xs =
            ap (filter p) (shifted x xs n ks rest)
            ∙ go ks rest (λ j y at h. elim (is_in k ks (n + suc j) (all (suc j) y at h)) [ inl f ↦ absurd (omega (arith, f, same)) | inr c ↦ subst (Contains ks) (omega arith) c ])
            in
            ap (λ o. filter p (cons_option o (filter_map (λ j. slice_get (x ∷ xs) (j - n)) ks))) (ap (slice_get (x ∷ xs)) zero_at)
            ∙ ap (λ r. cond (p x) (x ∷ r) r) others
        by false e go =
            let apart : k ≡ n → ⊥ = eqb-false k n e in
            let above : Rises (n + 1) (k ∷ ks) = (omega (arith, up.0, apart), up.1) in
            passed n x xs (k ∷ ks) above all (go (k ∷ ks) above (later n x xs (k ∷ ks) all))

    -- where the places of all elements that pass are among the places, the elements there that pass are those of all
    pub picked : (xs : List X) (ks : List ℕ) → Rises 0 ks → ((k : ℕ) (x : X) → slice_get xs k ≡ Some x → p x ≡ true → Contains ks k) → filter p (filter_map (slice_get xs) ks) ≡ filter p xs
    picked xs ks up all =
        (λ i. filter p (filter_map (λ k. slice_get xs (less_none k i)) ks))
        ∙ picked_from 0 xs ks up (λ k x at h. subst (Contains ks) (omega arith) (all k x at h))

    pub any_kept : (xs : List X) → list_any p xs ≡ has_some (filter p xs)
    any_kept [] = refl
    any_kept (x ∷ xs) = by (p x) (any_kept xs)
      where
        by : (b : Bool) → list_any p xs ≡ has_some (filter p xs) → (b || list_any p xs) ≡ has_some (cond b (x ∷ filter p xs) (filter p xs))
        by true h = refl
        by false h = h

    -- so where one of them passes, one of those at the places does
    pub any_picked : (xs : List X) (ks : List ℕ) → Rises 0 ks → ((k : ℕ) (x : X) → slice_get xs k ≡ Some x → p x ≡ true → Contains ks k) → list_any p (filter_map (slice_get xs) ks) ≡ list_any p xs
    any_picked xs ks up all = any_kept (filter_map (slice_get xs) ks) ∙ ap has_some (picked xs ks up all) ∙ sym (any_kept xs)

rises_from : (n : ℕ) (ks : List ℕ) → ((d : ℕ) → 0 < length ks → n ≤ get_or ks 0 d) → ((k : ℕ) → k + 1 < length ks → get_or ks k 0 < get_or ks (k + 1) 0) → Rises n ks
rises_from n [] low up = tt
rises_from n (k ∷ ks) low up = (low 0 (omega arith), rises_from (k + 1) ks (first ks up) (λ j h. next j (up (suc j) (omega (arith, h)))))
  where
    first : (ks : List ℕ) → ((j : ℕ) → j + 1 < length (k ∷ ks) → get_or (k ∷ ks) j 0 < get_or (k ∷ ks) (j + 1) 0) → (d : ℕ) → 0 < length ks → k + 1 ≤ get_or ks 0 d
    first [] up d h = absurd (omega (arith, h))
    first (j ∷ ks) up d h = omega (arith, up 0 (omega arith))

    next : (j : ℕ) → get_or (k ∷ ks) (suc j) 0 < get_or (k ∷ ks) (suc j + 1) 0 → get_or ks j 0 < get_or ks (j + 1) 0
    next j h = let e : suc j + 1 ≡ suc (j + 1) = omega arith in rw e at h

pub rises : (ks : List ℕ) → IsStrictlyIncreasing ks → Rises 0 ks
rises ks up = rises_from 0 ks (λ d h. omega arith) up
