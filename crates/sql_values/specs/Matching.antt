-- How a text is matched with a pattern: from the pattern's end, which rests of the text are of it. A row says so of
-- each rest, the shortest first, so the text's characters are taken backwards.
use Rattle.std.specs.Prelude.{ℕ, ◌-◌, Bool, true, false, ◌&&◌, ◌||◌, ◌==◌, List, [], ◌∷◌, length, map, slice_get}
use Rattle.std.specs.List.{fold, zip}
use Rattle.std.specs.Option.{unwrap_or}
use Rattle.sql_values.specs.declared.like.Part.{Part}
use Rattle.sql_values.specs.declared.like.Part.TheVariants.{AnyText, AnyCharacter, Exactly}

-- the part stands for this one character
abbrev pub takes : Part → ℕ → Bool
takes AnyText c = false
takes AnyCharacter c = true
takes (Exactly d) c = c == d

-- of the pattern with no parts is only the empty rest
abbrev pub empty_row : List ℕ → List Bool
empty_row cs = true ∷ map (λ c. false) cs

-- with any text before the pattern: where this rest or a shorter one is of it
abbrev pub rest_row : Bool → List Bool → List Bool
rest_row b [] = []
rest_row b (m ∷ ms) = (m || b) ∷ rest_row (m || b) ms

-- with one character before the pattern: where it is taken and the rest behind it is of the pattern
abbrev pub taken_row : (ℕ → Bool) → List ℕ → List Bool → List Bool
taken_row q cs ms = false ∷ map (λ e. q e.0 && e.1) (zip cs ms)

-- with one more part before the pattern
abbrev pub next_row : Part → List ℕ → List Bool → List Bool
next_row AnyText cs ms = rest_row false ms
next_row AnyCharacter cs ms = taken_row (takes AnyCharacter) cs ms
next_row (Exactly d) cs ms = taken_row (takes (Exactly d)) cs ms

-- after all parts, which are given from the last to the first
abbrev pub parts_row : List Part → List ℕ → List Bool
parts_row ps cs = fold (λ row p. next_row p cs row) (empty_row cs) ps

-- whether the whole text, the longest of the rests, is of the pattern
abbrev pub whole_matches : List Bool → Bool
whole_matches row = unwrap_or (slice_get row (length row - 1)) false
