-- Fewer asks of a reader are left after an answer, by where it stood, and where it stands then.
use Rattle.std.proofs.Common.{◌≡◌, ℕ, zero, suc, ◌+◌, ◌≤◌, ◌<◌, refl, sym, ap, subst, ◌∙◌, arith}
use Rattle.oak_world.specs.Left.{Done, Main, Next, Phase, Previous, Roots, after_answers, asks_left, main_left, next_left, nexts_left, previous_left, roots_left}

-- what comes behind a phase at one node
abbrev pub rank : Phase → ℕ
rank Main = 4
rank (Previous n) = 3
rank (Roots n) = 2
rank Next = 1
rank Done = 0

one_less : (a b c : ℕ) → a ≡ b → c ≡ suc b → a < c
one_less a b c h k = omega (arith, h, k)

less_by_one : (a b c : ℕ) → a ≡ b → c ≡ 1 + b → a < c
less_by_one a b c h k = omega (arith, h, k)

less_of_sum : (a l b c : ℕ) → a ≡ suc l + b → c ≡ suc (suc l) + b → a < c
less_of_sum a l b c h k = omega (arith, h, k)

less_at_most : (a b c d : ℕ) → a ≡ b → b ≤ c → d ≡ suc c → a < d
less_at_most a b c d h le k = omega (arith, h, le, k)

lower : (n : ℕ) → n ≤ 2 → n ≤ 3
lower n h = omega (arith, h)

lowest : (n : ℕ) → n ≤ 1 → n ≤ 2
lowest n h = omega (arith, h)

module _ {R : Type 0} (answered : R → R) (phase : R → Phase) where
  -- ---- phase by phase

  main_passes : (behind : R → ℕ) (r : R) (p : Phase) → rank p ≤ 3 → main_left answered phase behind r p ≡ previous_left answered phase behind r p
  main_passes behind r Main h = let none : ⊥ = omega (arith, h) in absurd none
  main_passes behind r (Previous n) h = refl
  main_passes behind r (Roots n) h = refl
  main_passes behind r Next h = refl
  main_passes behind r Done h = refl

  previous_passes : (behind : R → ℕ) (r : R) (p : Phase) → rank p ≤ 2 → previous_left answered phase behind r p ≡ roots_left answered phase behind r p
  previous_passes behind r Main h = let none : ⊥ = omega (arith, h) in absurd none
  previous_passes behind r (Previous n) h = let none : ⊥ = omega (arith, h) in absurd none
  previous_passes behind r (Roots n) h = refl
  previous_passes behind r Next h = refl
  previous_passes behind r Done h = refl

  roots_pass : (behind : R → ℕ) (r : R) (p : Phase) → rank p ≤ 1 → roots_left answered phase behind r p ≡ behind r
  roots_pass behind r Main h = let none : ⊥ = omega (arith, h) in absurd none
  roots_pass behind r (Previous n) h = let none : ⊥ = omega (arith, h) in absurd none
  roots_pass behind r (Roots n) h = let none : ⊥ = omega (arith, h) in absurd none
  roots_pass behind r Next h = refl
  roots_pass behind r Done h = refl

  -- ---- where less is left behind, less is left

  roots_rise : (f g : R → ℕ) → ((q : R) → f q ≤ g q) → (r : R) (p : Phase) → roots_left answered phase f r p ≤ roots_left answered phase g r p
  roots_rise f g le r Main = le r
  roots_rise f g le r (Previous n) = le r
  roots_rise f g le r (Roots n) = let k = le (after_answers answered phase (suc n) r) in omega (arith, k)
  roots_rise f g le r Next = le r
  roots_rise f g le r Done = le r

  previous_rise : (f g : R → ℕ) → ((q : R) → f q ≤ g q) → (r : R) (p : Phase) → previous_left answered phase f r p ≤ previous_left answered phase g r p
  previous_rise f g le r Main = le r
  previous_rise f g le r (Previous n) =
      let k = roots_rise f g le (after_answers answered phase (suc n) r) (phase (after_answers answered phase (suc n) r)) in
      omega (arith, k)
  previous_rise f g le r (Roots n) = roots_rise f g le r (Roots n)
  previous_rise f g le r Next = le r
  previous_rise f g le r Done = le r

  next_rise : (f g : R → ℕ) → ((q : R) → f q ≤ g q) → (r : R) (p : Phase) → next_left answered phase f r p ≤ next_left answered phase g r p
  next_rise f g le r Next = let k = previous_rise f g le (answered r) (phase (answered r)) in omega (arith, k)
  next_rise f g le r Main = omega arith
  next_rise f g le r (Previous n) = omega arith
  next_rise f g le r (Roots n) = omega arith
  next_rise f g le r Done = omega arith

  abbrev below : ℕ → R → ℕ
  below n q = nexts_left answered phase n q

  nexts_rise : (m n : ℕ) → m ≤ n → (r : R) → nexts_left answered phase m r ≤ nexts_left answered phase n r
  nexts_rise zero n le r = omega arith
  nexts_rise (suc m) zero le r = let none : ⊥ = omega (arith, le) in absurd none
  nexts_rise (suc m) (suc n) le r = next_rise (below m) (below n) (λ q. nexts_rise m n (omega (arith, le)) q) r (phase r)

  -- ---- an answer

  -- of a reader past the document of a node, past its previous documents, and past its commit roots
  past_main : (n : ℕ) (q : R) → rank (phase q) ≤ 3 → asks_left answered phase n q ≡ previous_left answered phase (below n) q (phase q)
  past_main n q h = main_passes (below n) q (phase q) h

  past_previous : (n : ℕ) (q : R) → rank (phase q) ≤ 2 → asks_left answered phase n q ≡ roots_left answered phase (below n) q (phase q)
  past_previous n q h = past_main n q (lower _ h) ∙ previous_passes (below n) q (phase q) h

  past_roots : (n : ℕ) (q : R) → rank (phase q) ≤ 1 → asks_left answered phase n q ≡ below n q
  past_roots n q h = past_previous n q (lowest _ h) ∙ roots_pass (below n) q (phase q) h

  -- fewer are left, where so many documents were behind, and so many are
  abbrev pub IsLess : R → ℕ → ℕ → Type 0
  IsLess r n m = asks_left answered phase m (answered r) < asks_left answered phase n r

  at_same : (r : R) (n m : ℕ) → m ≡ n → IsLess r n n → IsLess r n m
  at_same r n m same less = subst (λ (k : ℕ). IsLess r n k) (sym same) less

  pub main_less : (r : R) (n m : ℕ) → m ≡ n → phase r ≡ Main → rank (phase (answered r)) ≤ 3 → IsLess r n m
  main_less r n m same is low = at_same r n m same (one_less _ _ _ (past_main n (answered r) low) (ap (main_left answered phase (below n) r) is))

  pub previous_less : (r : R) (n m k : ℕ) → m ≡ n → phase r ≡ Previous (suc k) → phase (answered r) ≡ Previous k → IsLess r n m
  previous_less r n m k same is then = at_same r n m same (less_of_sum _ k _ _ (ap (main_left answered phase (below n) (answered r)) then) (ap (main_left answered phase (below n) r) is))

  pub previous_end : (r : R) (n m : ℕ) → m ≡ n → phase r ≡ Previous zero → rank (phase (answered r)) ≤ 2 → IsLess r n m
  previous_end r n m same is low = at_same r n m same (less_by_one _ _ _ (past_previous n (answered r) low) (ap (main_left answered phase (below n) r) is))

  pub roots_less : (r : R) (n m k : ℕ) → m ≡ n → phase r ≡ Roots (suc k) → phase (answered r) ≡ Roots k → IsLess r n m
  roots_less r n m k same is then = at_same r n m same (less_of_sum _ k _ _ (ap (main_left answered phase (below n) (answered r)) then) (ap (main_left answered phase (below n) r) is))

  pub roots_end : (r : R) (n m : ℕ) → m ≡ n → phase r ≡ Roots zero → rank (phase (answered r)) ≤ 1 → IsLess r n m
  roots_end r n m same is low = at_same r n m same (less_by_one _ _ _ (past_roots n (answered r) low) (ap (main_left answered phase (below n) r) is))

  pub next_less : (r : R) (n m : ℕ) → m < n → phase r ≡ Next → rank (phase (answered r)) ≤ 3 → IsLess r n m
  next_less r zero m few is low = let none : ⊥ = omega (arith, few) in absurd none
  next_less r (suc n) m few is low =
      less_at_most _ _ _ _ (past_main m (answered r) low)
      (previous_rise (below m) (below n) (λ q. nexts_rise m n (omega (arith, few)) q) (answered r) (phase (answered r)))
      (ap (main_left answered phase (below (suc n)) r) is ∙ ap (next_left answered phase (below n) r) is)
