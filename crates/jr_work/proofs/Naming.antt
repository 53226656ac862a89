-- The sessions of a worker, named in order.
use Rattle.std.proofs.Common.{◌≡◌, ◌≢◌, ◌%◌, ℕ, ◌+◌, Bool, true, false, ◌&&◌, ◌||◌, List, [], ◌∷◌, ◌++◌, nat_lt, refl, sym, ap, ◌∙◌, subst, arith}
use Rattle.std.specs.Prelude.{◌==◌}
use Rattle.std.specs.List.{list_any}
use Rattle.std.proofs.lemmas.Bool.Decides.{nat_tests}
use Rattle.std.proofs.lemmas.List.Folds.{list_any-append}
use Rattle.seat_lock.specs.Views.{is_one_of}

-- just the numbers below n that pass the test are named
abbrev pub AreNamed : (ℕ → Bool) → ℕ → List ℕ → Type 0
AreNamed p n names = (s : ℕ) → is_one_of names s ≡ (nat_lt s n && p s)

pub none_named : (p : ℕ → Bool) → AreNamed p 0 []
none_named p s = ap (λ b. b && p s) (below_none s)
  where
    below_none : (s : ℕ) → false ≡ nat_lt s 0
    below_none s = grind (arith, nat_tests)

equal : (a b : ℕ) → (a == b) ≡ true → a ≡ b
equal a b h = grind (arith, nat_tests)

below_now : (n : ℕ) → nat_lt n (n + 1) ≡ true
below_now n = grind (arith, nat_tests)

not_before : (n : ℕ) → nat_lt n n ≡ false
not_before n = grind (arith, nat_tests)

as_before : (n s : ℕ) → (n == s) ≡ false → nat_lt s n ≡ nat_lt s (n + 1)
as_before n s h = grind (arith, nat_tests)

nothing_or : (b : Bool) → (b || false) ≡ b
nothing_or true = refl
nothing_or false = refl

nothing_and : (b : Bool) → (b && false) ≡ false
nothing_and true = refl
nothing_and false = refl

module _ (p : ℕ → Bool) (names : List ℕ) (n : ℕ) (are : AreNamed p n names) where
  -- one more that passes
  pub named_more : p n ≡ true → AreNamed p (n + 1) (names ++ n ∷ [])
  named_more pass s = list_any-append (λ (m : ℕ). m == s) names (n ∷ []) ∙ elim (n == s) as (λ b. (n == s) ≡ b → (is_one_of names s || (b || false)) ≡ (nat_lt s (n + 1) && p s)) [
    | true ↦ λ same.
        let e : n ≡ s = equal n s same in
        subst (λ (m : ℕ). (is_one_of names m || true) ≡ (nat_lt m (n + 1) && p m)) e (anyway (is_one_of names n) ∙ sym (ap (λ b. b && p n) (below_now n) ∙ pass))
    | false ↦ λ apart. nothing_or (is_one_of names s) ∙ (are s ∙ ap (λ b. b && p s) (as_before n s apart))
  ] refl
    where
      anyway : (b : Bool) → (b || true) ≡ true
      anyway true = refl
      anyway false = refl

  -- one that doesn't pass
  pub named_still : p n ≡ false → AreNamed p (n + 1) names
  named_still miss s = elim (n == s) as (λ b. (n == s) ≡ b → is_one_of names s ≡ (nat_lt s (n + 1) && p s)) [
    | true ↦ λ same.
        let e : n ≡ s = equal n s same in
        subst (λ (m : ℕ). is_one_of names m ≡ (nat_lt m (n + 1) && p m)) e (are n ∙ (ap (λ b. b && p n) (not_before n) ∙ sym (ap (λ b. nat_lt n (n + 1) && b) miss ∙ nothing_and (nat_lt n (n + 1)))))
    | false ↦ λ apart. are s ∙ ap (λ b. b && p s) (as_before n s apart)
  ] refl

-- ---- the sessions of a worker

alike : (a b : ℕ) → a ≡ b → (a == b) ≡ true
alike a b h = grind (arith, nat_tests)

unlike : (a b : ℕ) → a ≢ b → (a == b) ≡ false
unlike a b h = grind (arith, nat_tests)

module _ (workers worker n : ℕ) (names now : List ℕ) (are : AreNamed (λ s. s % workers == worker) n names) where
  -- session n is the worker's
  pub session_named : n % workers ≡ worker → now ≡ names ++ n ∷ [] → AreNamed (λ s. s % workers == worker) (n + 1) now
  session_named own is = subst (λ (l : List ℕ). AreNamed (λ s. s % workers == worker) (n + 1) l) (sym is) (named_more (λ s. s % workers == worker) names n are (alike (n % workers) worker own))

  -- session n is another's
  pub session_passed : n % workers ≢ worker → now ≡ names → AreNamed (λ s. s % workers == worker) (n + 1) now
  session_passed other is = subst (λ (l : List ℕ). AreNamed (λ s. s % workers == worker) (n + 1) l) (sym is) (named_still (λ s. s % workers == worker) names n are (unlike (n % workers) worker other))
