-- What is found where a test holds.
use Rattle.std.proofs.Common.{◌≡◌, Bool, true, false, cond, Option, None, Some, refl, sym, ap}
use Rattle.std.proofs.lemmas.Option.{none-some}

-- what is found where a test holds
pub some_of : {X : Type 0} (b : Bool) (x y : X) → Some y ≡ cond b (Some x) None → (b ≡ true) × (y ≡ x)
some_of true x y h = (refl, ap (λ (o : Option _). elim o [ Some z ↦ z | None ↦ y ]) h)
some_of false x y h = absurd (none-some y (sym h))

pub none_of : {X : Type 0} (b : Bool) (x : X) → None ≡ cond b (Some x) None → b ≡ false
none_of true x h = absurd (none-some x h)
none_of false x h = refl
