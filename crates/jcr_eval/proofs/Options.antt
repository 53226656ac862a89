-- What is there, by what it was made from.
use Rattle.std.proofs.Common.{◌≡◌, Bool, true, false, cond, Option, None, Some, refl}
use Rattle.std.specs.Prelude.{option_and_then, option_map}
use Rattle.std.specs.Option.{option_map_or}
use Rattle.std.proofs.lemmas.Bool.{false≢true}
use Rattle.std.proofs.lemmas.Option.{option_and_then_some, same_Some}

-- what is there under a function is there
pub some_mapped : {X Y : Type 0} (f : X → Y) (o : Option X) (y : Y) → option_map f o ≡ Some y
    → (x : X) × (o ≡ Some x) × (f x ≡ y)
some_mapped f None y h = cc
some_mapped f (Some x) y h = (x, refl, same_Some _ _ h)

pub some_behind : {X Y : Type 0} (f : X → Option Y) (o : Option X) (y : Y)
    → option_and_then f o ≡ Some y → (x : X) × (o ≡ Some x) × (f x ≡ Some y)
some_behind f o y h = option_and_then_some f o y h (λ x is at. (x, is, at))

-- what is there only where a test holds
pub some_tested : {X : Type 0} (b : Bool) (o : Option X) (x : X) → cond b o None ≡ Some x
    → (b ≡ true) × (o ≡ Some x)
some_tested true o x h = (refl, h)
some_tested false o x h = cc

-- what passes a test, if it is there
pub some_passed : {X : Type 0} (f : X → Bool) (o : Option X) → option_map_or f o false ≡ true
    → (x : X) × (o ≡ Some x) × (f x ≡ true)
some_passed f None h = absurd (false≢true h)
some_passed f (Some x) h = (x, refl, h)
