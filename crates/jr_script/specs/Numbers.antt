-- Whole numbers as JSON.
use Rattle.std.specs.Prelude.{◌≡◌, ℕ, ◌<◌, ◌≤◌, Option, Some, None}
use Rattle.serde_json.specs.Data.{Data, number, unsigned}

-- the JSON of a number
abbrev pub whole : ℕ → Data
whole n = number (unsigned n)

-- the JSON is this number, which is from low to most
abbrev pub IsNumberJson : ℕ → ℕ → Data → ℕ → Type 0
IsNumberJson low most d n = (d ≡ whole n) × (low ≤ n) × (n ≤ most)

-- the JSON is the number of one of so many sessions, from 0 on
abbrev pub IsSession : ℕ → Data → ℕ → Type 0
IsSession sessions d s = (d ≡ whole s) × (s < sessions)

-- a thing of which the fact holds, or none where it holds of nothing
abbrev pub IsFoundOrNone : {X : Type 0} → (X → Type 0) → Option X → Type 0
IsFoundOrNone P (Some x) = P x
IsFoundOrNone {X} P None = (x : X) → P x → ⊥
