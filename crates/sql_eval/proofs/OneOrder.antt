-- There is one list that is stably sorted.
use Rattle.std.proofs.Common.{◌≡◌, ◌+◌, Bool, true, false, cond, not, ◌&&◌, List, [], ◌∷◌, refl, sym, subst, ap, ◌∙◌, true≢false, arith}
use native.Mathlib.Numerals.{unary_clauses}
use Rattle.std.specs.Cmp.{IsStrictWeakOrder, IsTotalOrder}
use Rattle.std.specs.List.{All, filter}
use Rattle.std.specs.List.Sorted.{IsSortedBy, ties}
use Rattle.std.specs.Ordering.{is_lt}
use Rattle.std.specs.declared.cmp.Ordering.{Ordering}
use Rattle.std.proofs.lemmas.List.Elements.{All-filter, All-head}
use Rattle.std.proofs.lemmas.List.Sorted.{ranks_by, sorted_far}
use Rattle.sql_eval.specs.Rows.{IsStablySorted}

module _ {X : Type 0} (lt : X → X → Bool) (order : IsStrictWeakOrder lt) where
  -- neither of two is less, so they tie
  tied : (x y : X) → lt x y ≡ false → lt y x ≡ false → ties lt x y ≡ true
  tied x y p q = λ i. not (p i) && not (q i)

  not_below : (b : Bool) → (b ≡ true → b ≡ false) → b ≡ false
  not_below true h = h refl
  not_below false h = refl

  itself : (x : X) → lt x x ≡ false
  itself x = not_below (lt x x) (order.one_way x x)

  ties_itself : (x : X) → ties lt x x ≡ true
  ties_itself x = tied x x (itself x) (itself x)

  kept : (x y : X) (ys : List X) → ties lt x y ≡ true → filter (ties lt x) (y ∷ ys) ≡ y ∷ filter (ties lt x) ys
  kept x y ys h = λ i. cond (h i) (y ∷ filter (ties lt x) ys) (filter (ties lt x) ys)

  -- none is below the first
  first_least : (z : X) (zs : List X) → IsSortedBy lt (z ∷ zs) → All (λ w. lt w z ≡ false) (z ∷ zs)
  first_least z zs up k d h = sorted_far lt order (z ∷ zs) up 0 k d (omega arith) h

  -- the first of one list isn't below that of another with the same that tie with it
  first_not_below : (y z : X) (ys zs : List X) → IsSortedBy lt (z ∷ zs) → filter (ties lt y) (y ∷ ys) ≡ filter (ties lt y) (z ∷ zs) → lt y z ≡ false
  first_not_below y z ys zs up same =
      All-head (λ w. lt w z ≡ false) y (filter (ties lt y) ys)
      (subst (All (λ w. lt w z ≡ false)) (sym same ∙ kept y y ys (ties_itself y)) (All-filter (ties lt y) (λ w. lt w z ≡ false) (z ∷ zs) (first_least z zs up)))

  abbrev head_of : X → List X → X
  head_of d [] = d
  head_of d (x ∷ xs) = x

  abbrev rest_of : List X → List X
  rest_of [] = []
  rest_of (x ∷ xs) = xs

  abbrev has_one : List X → Bool
  has_one [] = false
  has_one (x ∷ xs) = true

  unkept : (b : Bool) (y : X) (us vs : List X) → cond b (y ∷ us) us ≡ cond b (y ∷ vs) vs → us ≡ vs
  unkept true y us vs h = ap rest_of h
  unkept false y us vs h = h

  rest_sorted : (y : X) (ys : List X) → IsSortedBy lt (y ∷ ys) → IsSortedBy lt ys
  rest_sorted y ys up k d low high = simp unary_clauses (simp unary_clauses at (up (k + 1) d (omega arith) (omega arith)))

  one : (ys zs : List X) → IsSortedBy lt ys → IsSortedBy lt zs → ((x : X) → filter (ties lt x) ys ≡ filter (ties lt x) zs) → ys ≡ zs
  one [] [] up down same = refl
  one [] (z ∷ zs) up down same = absurd (true≢false (sym (ap (has_one) (same z ∙ kept z z zs (ties_itself z)))))
  one (y ∷ ys) [] up down same = absurd (true≢false (sym (ap (has_one) (sym (same y) ∙ kept y y ys (ties_itself y)))))
  one (y ∷ ys) (z ∷ zs) up down same =
      let tie : ties lt y z ≡ true = tied y z (first_not_below y z ys zs down (same y)) (first_not_below z y zs ys up (sym (same z))) in
      let heads : y ≡ z = ap (head_of y) (sym (kept y y ys (ties_itself y)) ∙ same y ∙ kept y z zs tie) in
      let rests : ys ≡ zs = one ys zs (rest_sorted y ys up) (rest_sorted z zs down) (λ x. unkept (ties lt x y) y (filter (ties lt x) ys) (filter (ties lt x) zs) (same x ∙ (λ i. cond (ties lt x (sym heads i)) (sym heads i ∷ filter (ties lt x) zs) (filter (ties lt x) zs)))) in
      λ i. heads i ∷ rests i

-- what is stably sorted by a total order is one list
pub stably_sorted_is_one : {X : Type 0} (R : X → X → Ordering) → IsTotalOrder R → (xs ys zs : List X) → IsStablySorted R xs ys → IsStablySorted R xs zs → ys ≡ zs
stably_sorted_is_one R total xs ys zs a b =
    one (λ x y. is_lt (R x y)) (ranks_by total (λ x. x)) ys zs a.sorted b.sorted (λ x. a.stable x ∙ sym (b.stable x))
