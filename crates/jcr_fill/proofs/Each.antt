-- Steps over lists in which each test finds the same first element.
use Rattle.std.proofs.Common.{◌≡◌, Bool, true, false, cond, ◌&&◌, Option, None, Some, List, [], ◌∷◌, refl, sym, ap, ◌∙◌, subst}
use Rattle.std.specs.Prelude.{Result, Ok, Err}
use Rattle.std.specs.List.{find}
use Rattle.std.proofs.lemmas.Option.{none-some}
use Rattle.jr_tree.specs.declared.shared.Refusal.{Refusal}
use Rattle.jr_types.specs.Registered.{IsAlike}
use Rattle.jcr_fill.specs.Steps.{and_then, each}

-- a step does nothing unless its element is wanted, makes it unwanted, and makes no other wanted
pub record IsMaking {X S : Type 0} (wanted : S → X → Bool) (step : X → S → Result S Refusal) : Type 0 where
  pub idle : (s : S) (x : X) → wanted s x ≡ false → step x s ≡ Ok s
  pub done : (s t : S) (x : X) → step x s ≡ Ok t → wanted t x ≡ false
  pub kept : (s t : S) (x y : X) → step x s ≡ Ok t → wanted s y ≡ false → wanted t y ≡ false

-- the first of the wanted ones that passes a test
abbrev first_wanted : {X S : Type 0} → (S → X → Bool) → S → (X → Bool) → List X → Option X
first_wanted wanted s test xs = find (λ x. wanted s x && test x) xs

-- tests that say the same find the same
pub find-same : {X : Type 0} (p q : X → Bool) → ((x : X) → p x ≡ q x) → (xs : List X) → find p xs ≡ find q xs
find-same p q same [] = refl
find-same p q same (x ∷ xs) = ap (λ b. cond b (Some x) (find p xs)) (same x) ∙ ap (cond (q x) (Some x)) (find-same p q same xs)

-- what is found behind an element that doesn't pass
find_behind : {X : Type 0} (p : X → Bool) (x : X) (xs : List X) → p x ≡ false → find p (x ∷ xs) ≡ find p xs
find_behind p x xs h = ap (λ b. cond b (Some x) (find p xs)) h

-- what is found where the first element passes
find_here : {X : Type 0} (p : X → Bool) (x : X) (xs : List X) → p x ≡ true → find p (x ∷ xs) ≡ Some x
find_here p x xs h = ap (λ b. cond b (Some x) (find p xs)) h

and_false : (a b : Bool) → a ≡ false → (a && b) ≡ false
and_false a b h = ap (λ c. c && b) h

and_true : (a : Bool) → a ≡ true → (a && true) ≡ true
and_true a h = ap (λ c. c && true) h

-- where one fact gives another, both are that other
both_are : (a b c : Bool) → (a ≡ false → b ≡ false) → (a && (b && c)) ≡ (b && c)
both_are true b c h = refl
both_are false b c h = sym (ap (λ d. d && c) (h refl))

module _ {X S : Type 0} (wanted : S → X → Bool) (step : X → S → Result S Refusal) (making : IsMaking wanted step) where
  -- an unwanted element is passed over
  passed : (x : X) (xs : List X) (s : S) → wanted s x ≡ false → each step (x ∷ xs) s ≡ each step xs s
  passed x xs s h = ap (λ r. and_then r (each step xs)) (making.idle s x h)

  -- the first wanted element may be made before all others
  first_made : (x : X) (xs : List X) (s : S) → first_wanted wanted s (λ y. true) xs ≡ Some x
      → each step xs s ≡ and_then (step x s) (each step xs)
  first_made x [] s h = absurd (none-some x h)
  first_made x (y ∷ ys) s h = by (first_made x ys s) (wanted s y) refl
    where
      here : (r : Result S Refusal) → step y s ≡ r → and_then r (each step ys) ≡ and_then r (each step (y ∷ ys))
      here (Ok t) e = sym (passed y ys t (making.done s t y e))
      here (Err f) e = refl

      behind : wanted s y ≡ false → (r : Result S Refusal) → step x s ≡ r → and_then r (each step ys) ≡ and_then r (each step (y ∷ ys))
      behind w (Ok t) e = sym (passed y ys t (making.kept s t x y e w))
      behind w (Err f) e = refl

      by : (first_wanted wanted s (λ y. true) ys ≡ Some x → each step ys s ≡ and_then (step x s) (each step ys))
          → (b : Bool) → wanted s y ≡ b → each step (y ∷ ys) s ≡ and_then (step x s) (each step (y ∷ ys))
      by rest true w = subst (λ (z : X). each step (y ∷ ys) s ≡ and_then (step z s) (each step (y ∷ ys)))
          (some_same (sym (find_here (λ z. wanted s z && true) y ys (and_true (wanted s y) w)) ∙ h))
          (here (step y s) refl)
        where
          some_same : {a b : X} → Some a ≡ Some b → a ≡ b
          some_same {a = a} e = ap (λ (o : Option X). elim o [ Some z ↦ z | None ↦ a ]) e
      by rest false w = passed y ys s w
          ∙ (rest (sym (find_behind (λ z. wanted s z && true) y ys (and_false (wanted s y) true w)) ∙ h)
          ∙ behind w (step x s) refl)

  -- where none is wanted nothing is made
  none_made : (xs : List X) (s : S) → first_wanted wanted s (λ y. true) xs ≡ None → each step xs s ≡ Ok s
  none_made [] s h = refl
  none_made (y ∷ ys) s h = by (none_made ys s) (wanted s y) refl
    where
      by : (first_wanted wanted s (λ y. true) ys ≡ None → each step ys s ≡ Ok s) → (b : Bool) → wanted s y ≡ b → each step (y ∷ ys) s ≡ Ok s
      by rest true w = absurd (none-some y (sym h ∙ find_here (λ z. wanted s z && true) y ys (and_true (wanted s y) w)))
      by rest false w = passed y ys s w ∙ rest (sym (find_behind (λ z. wanted s z && true) y ys (and_false (wanted s y) true w)) ∙ h)

  -- lists in which each test finds the same first wanted element make the same
  same_made : (xs ys : List X) (s : S) → ((test : X → Bool) → first_wanted wanted s test xs ≡ first_wanted wanted s test ys)
      → each step xs s ≡ each step ys s
  same_made [] ys s h = sym (none_made ys s (sym (h (λ z. true))))
  same_made (x ∷ xs) ys s h = by (same_made xs ys) (wanted s x) refl
    where
      -- of what stays wanted each test finds the same
      after : (t : S) → step x s ≡ Ok t → (test : X → Bool) → first_wanted wanted t test xs ≡ first_wanted wanted t test ys
      after t e test =
          let same : (z : X) → (wanted s z && (wanted t z && test z)) ≡ (wanted t z && test z) = λ z. both_are (wanted s z) (wanted t z) (test z) (making.kept s t x z e) in
          sym (find_behind (λ z. wanted t z && test z) x xs (and_false (wanted t x) (test x) (making.done s t x e)))
          ∙ (sym (find-same (λ z. wanted s z && (wanted t z && test z)) (λ z. wanted t z && test z) same (x ∷ xs))
          ∙ (h (λ z. wanted t z && test z)
          ∙ find-same (λ z. wanted s z && (wanted t z && test z)) (λ z. wanted t z && test z) same ys))

      next : ((t : S) → ((test : X → Bool) → first_wanted wanted t test xs ≡ first_wanted wanted t test ys) → each step xs t ≡ each step ys t)
          → (r : Result S Refusal) → step x s ≡ r → and_then r (each step xs) ≡ and_then r (each step ys)
      next rest (Ok t) e = rest t (after t e)
      next rest (Err f) e = refl

      by : ((t : S) → ((test : X → Bool) → first_wanted wanted t test xs ≡ first_wanted wanted t test ys) → each step xs t ≡ each step ys t)
          → (b : Bool) → wanted s x ≡ b → each step (x ∷ xs) s ≡ each step ys s
      by rest true w = next rest (step x s) refl
          ∙ sym (first_made x ys s (sym (h (λ z. true)) ∙ find_here (λ z. wanted s z && true) x xs (and_true (wanted s x) w)))
      by rest false w = passed x xs s w ∙ rest s (λ test.
          sym (find_behind (λ z. wanted s z && test z) x xs (and_false (wanted s x) (test x) w)) ∙ h test)

  pub each-alike : (xs ys : List X) (s : S) → IsAlike xs ys → each step xs s ≡ each step ys s
  each-alike xs ys s h = same_made xs ys s (λ test. h (λ x. wanted s x && test x))
