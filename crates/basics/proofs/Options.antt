-- Options: what is there, and what isn't.
use Rattle.std.proofs.Common.{◌≡◌, Bool, true, false, cond, Option, None, Some, refl}
use Rattle.std.specs.Prelude.{is_some, is_none}
use Rattle.std.specs.Option.{option_map}
use Rattle.std.proofs.lemmas.Bool.{false≢true, true≢false}

-- what is there is something
pub some_of : {X : Type 0} (o : Option X) → is_some o ≡ true → (x : X) × (o ≡ Some x)
some_of None h = absurd (false≢true h)
some_of (Some x) h = (x, refl)

-- what isn't there is nothing
pub none_of : {X : Type 0} (o : Option X) → is_some o ≡ false → o ≡ None
none_of None h = refl
none_of (Some x) h = absurd (true≢false h)

-- what tests as nothing is nothing
pub none_tested : {X : Type 0} (o : Option X) → is_none o ≡ true → o ≡ None
none_tested None h = refl
none_tested (Some x) h = absurd (false≢true h)

-- what can't be there is nothing
pub none_unless : {X : Type 0} (o : Option X) → (is_some o ≡ true → ⊥) → o ≡ None
none_unless None h = refl
none_unless (Some x) h = absurd (h refl)

-- a value under a test is there where the test holds
pub some_if : {X : Type 0} (b : Bool) (x : X) → is_some (cond b (Some x) None) ≡ b
some_if true x = refl
some_if false x = refl

pub some_where : {X : Type 0} (b : Bool) (x : X) → b ≡ true → is_some (cond b (Some x) None) ≡ true
some_where true x h = refl
some_where false x h = absurd (false≢true h)

-- a value under a test is there only where the test holds
pub where_some : {X : Type 0} (b : Bool) (x : X) → is_some (cond b (Some x) None) ≡ true → b ≡ true
where_some true x h = refl
where_some false x h = absurd (false≢true h)

-- what is there stays there under another value
pub some_behind : {X : Type 0} (b : Bool) (x : X) (o : Option X) → is_some o ≡ true → is_some (cond b (Some x) o) ≡ true
some_behind true x o h = refl
some_behind false x o h = h

-- a map keeps what is there
pub some_mapped : {X Y : Type 0} (f : X → Y) (o : Option X) → is_some (option_map f o) ≡ is_some o
some_mapped f None = refl
some_mapped f (Some x) = refl
