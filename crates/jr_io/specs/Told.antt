-- What the calls do to the bytes that a source has left and that a sink has taken, where the source or the
-- sink tells them: Some list of bytes, and None where it doesn't tell, before a call and after it.
use Rattle.std.specs.Prelude.{◌≡◌, ℕ, ◌<◌, ◌≤◌, List, [], ◌++◌, Option, Some, None, length, option_map, take, drop}

-- the first n bytes left were moved into the buffer, and none into a buffer with room only where none is left
abbrev pub Moves : Option (List ℕ) → Option (List ℕ) → List ℕ → ℕ → Type 0
Moves None after buf n = after ≡ None
Moves (Some left) after buf n = (n ≤ length left) × (after ≡ Some (drop n left)) × (take n buf ≡ take n left)
    × (n ≡ 0 → 0 < length buf → length left ≡ 0)

-- some first bytes are gone, and the others are left
abbrev pub LosesFront : Option (List ℕ) → Option (List ℕ) → Type 0
LosesFront None after = after ≡ None
LosesFront (Some left) after =
    (front : List ℕ) × (rest : List ℕ) × (left ≡ front ++ rest) × (after ≡ Some rest)

-- nothing is left
abbrev pub IsDrained : Option (List ℕ) → Option (List ℕ) → Type 0
IsDrained None after = after ≡ None
IsDrained (Some left) after = after ≡ Some []

-- the first n bytes of the piece were taken, behind those taken before, and nothing else
abbrev pub TakesFirst : Option (List ℕ) → Option (List ℕ) → List ℕ → ℕ → Type 0
TakesFirst None after piece n = after ≡ None
TakesFirst (Some written) after piece n = after ≡ Some (written ++ take n piece)

-- some first bytes of the piece were taken, but not all
abbrev pub GrowsByPart : Option (List ℕ) → Option (List ℕ) → List ℕ → Type 0
GrowsByPart before after piece = (n : ℕ) × (n < length piece) × TakesFirst before after piece n

-- some first bytes of the piece were taken, or all
abbrev pub GrowsWithin : Option (List ℕ) → Option (List ℕ) → List ℕ → Type 0
GrowsWithin before after piece = (n : ℕ) × (n ≤ length piece) × TakesFirst before after piece n

-- all of the bytes taken were passed on
abbrev pub IsPassedOn : Option (List ℕ) → Option ℕ → Type 0
IsPassedOn written passed = passed ≡ option_map length written
