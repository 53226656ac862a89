-- Members of lists.
use Rattle.std.proofs.Common.{◌≡◌, ◌⊎◌, inl, inr, Bool, true, false, cond, List, [], ◌∷◌, ◌++◌, map, refl, sym, ap, ◌∙◌, subst}
use Rattle.std.specs.List.{filter, flat_map}
use Rattle.core_read.specs.Told.{IsIn}

module _ {X Y : Type 0} (f : X → Y) where
  pub in_map : (xs : List X) (x : X) → IsIn x xs → IsIn (f x) (map f xs)
  in_map [] x i = absurd i
  in_map (y ∷ xs) x (inl one) = inl (ap f one)
  in_map (y ∷ xs) x (inr i) = inr (in_map xs x i)

  pub from_map : (xs : List X) (y : Y) → IsIn y (map f xs) → (x : X) × IsIn x xs × (f x ≡ y)
  from_map [] y i = absurd i
  from_map (x ∷ xs) y (inl one) = (x, inl refl, one)
  from_map (x ∷ xs) y (inr i) = let r = from_map xs y i in (r.0, inr r.1, r.2)

module _ {X : Type 0} where
  pub in_front : (xs ys : List X) (x : X) → IsIn x xs → IsIn x (xs ++ ys)
  in_front [] ys x i = absurd i
  in_front (y ∷ xs) ys x (inl one) = inl one
  in_front (y ∷ xs) ys x (inr i) = inr (in_front xs ys x i)

  pub in_back : (xs ys : List X) (x : X) → IsIn x ys → IsIn x (xs ++ ys)
  in_back [] ys x i = i
  in_back (y ∷ xs) ys x i = inr (in_back xs ys x i)

  pub from_both : (xs ys : List X) (x : X) → IsIn x (xs ++ ys) → IsIn x xs ⊎ IsIn x ys
  from_both [] ys x i = inr i
  from_both (y ∷ xs) ys x (inl one) = inl (inl one)
  from_both (y ∷ xs) ys x (inr i) = elim (from_both xs ys x i) [ inl j ↦ inl (inr j) | inr j ↦ inr j ]

  pub in_filter : (test : X → Bool) (xs : List X) (x : X) → IsIn x xs → test x ≡ true → IsIn x (filter test xs)
  in_filter test [] x i h = absurd i
  in_filter test (y ∷ xs) x (inl one) h = subst (λ b. IsIn x (cond b (y ∷ filter test xs) (filter test xs))) (sym (ap test one ∙ h)) (inl one)
  in_filter test (y ∷ xs) x (inr i) h = by (test y) (in_filter test xs x i h)
    where
      by : (b : Bool) → IsIn x (filter test xs) → IsIn x (cond b (y ∷ filter test xs) (filter test xs))
      by true j = inr j
      by false j = j

  pub from_filter : (test : X → Bool) (xs : List X) (x : X) → IsIn x (filter test xs) → IsIn x xs × (test x ≡ true)
  from_filter test [] x i = absurd i
  from_filter test (y ∷ xs) x i = by (test y) refl i (λ j. from_filter test xs x j)
    where
      by : (b : Bool) → test y ≡ b → IsIn x (cond b (y ∷ filter test xs) (filter test xs)) → (IsIn x (filter test xs) → IsIn x xs × (test x ≡ true)) → IsIn x (y ∷ xs) × (test x ≡ true)
      by true h (inl one) rest = (inl one, sym (ap test one) ∙ h)
      by true h (inr j) rest = let r = rest j in (inr r.0, r.1)
      by false h j rest = let r = rest j in (inr r.0, r.1)

module _ {X Y : Type 0} (f : X → List Y) where
  pub in_flat : (xs : List X) (x : X) (y : Y) → IsIn x xs → IsIn y (f x) → IsIn y (flat_map f xs)
  in_flat [] x y i j = absurd i
  in_flat (z ∷ xs) x y (inl one) j = in_front (f z) (flat_map f xs) y (subst (λ w. IsIn y (f w)) (sym one) j)
  in_flat (z ∷ xs) x y (inr i) j = in_back (f z) (flat_map f xs) y (in_flat xs x y i j)

  pub from_flat : (xs : List X) (y : Y) → IsIn y (flat_map f xs) → (x : X) × IsIn x xs × IsIn y (f x)
  from_flat [] y i = absurd i
  from_flat (x ∷ xs) y i = elim (from_both (f x) (flat_map f xs) y i) [
    | inl j ↦ (x, inl refl, j)
    | inr j ↦ let r = from_flat xs y j in (r.0, inr r.1, r.2)
  ]
