-- Members of filtered lists.
use Rattle.std.proofs.Common.{◌≡◌, ℕ, zero, suc, ◌<◌, Bool, true, false, cond, List, [], ◌∷◌, length, get_or, filter, refl, ap, ◌∙◌, arith}
use Rattle.std.specs.Prelude.{Contains}
use Rattle.std.proofs.lemmas.Bool.{both_ways}

pub Contains-filter : {X : Type 0} (p : X → Bool) (xs : List X) (x : X) → Contains xs x → p x ≡ true → Contains (filter p xs) x
Contains-filter p [] x there h = absurd (omega (arith, there.1))
Contains-filter {X} p (y ∷ ys) x there h = at there.0 there.1 there.2 (λ k l is. Contains-filter p ys x (k, l, is) h)
  where
    on : (b : Bool) → p y ≡ b → Contains (filter p ys) x → Contains (cond b (y ∷ filter p ys) (filter p ys)) x
    on true is t = (suc t.0, omega (arith, t.1), t.2)
    on false is t = t

    here : (b : Bool) → p y ≡ b → y ≡ x → Contains (cond b (y ∷ filter p ys) (filter p ys)) x
    here true is same = (0, omega arith, same)
    here false is same = absurd (both_ways (p y) is (ap p same ∙ h))

    at : (k : ℕ) → k < suc (length ys) → get_or (y ∷ ys) k x ≡ x → ((j : ℕ) → j < length ys → get_or ys j x ≡ x → Contains (filter p ys) x) → Contains (filter p (y ∷ ys)) x
    at zero l is rest = here (p y) refl is
    at (suc k) l is rest = on (p y) refl (rest k (omega arith) is)

pub Contains-from_filter : {X : Type 0} (p : X → Bool) (xs : List X) (x : X) → Contains (filter p xs) x → Contains xs x
Contains-from_filter p [] x there = absurd (omega (arith, there.1))
Contains-from_filter {X} p (y ∷ ys) x there = by (p y) there (λ t. Contains-from_filter p ys x t)
  where
    on : Contains ys x → Contains (y ∷ ys) x
    on t = (suc t.0, omega (arith, t.1), t.2)

    at : (k : ℕ) → k < suc (length (filter p ys)) → get_or (y ∷ filter p ys) k x ≡ x → (Contains (filter p ys) x → Contains ys x) → Contains (y ∷ ys) x
    at zero l is rest = (0, omega arith, is)
    at (suc k) l is rest = on (rest (k, omega arith, is))

    by : (b : Bool) → Contains (cond b (y ∷ filter p ys) (filter p ys)) x → (Contains (filter p ys) x → Contains ys x) → Contains (y ∷ ys) x
    by true t rest = at t.0 t.1 t.2 rest
    by false t rest = on (rest t)
