-- The patterns of LIKE (JSR 283, 6.7.16 Comparison).
use Rattle.std.specs.Prelude.{ℕ, Bool, true, false, cond, ◌&&◌, ◌||◌, ◌==◌, List, [], ◌∷◌}
use Rattle.std.specs.Str.{chars}
use Rattle.sql_values.specs.declared.like.Part.{Part}
use Rattle.sql_values.specs.declared.like.Part.TheVariants.{AnyText, AnyCharacter, Exactly}

-- `%` (37) is any text, `_` (95) any character, and every other character stands for itself
abbrev pub plain_part : ℕ → Part
plain_part c = cond (c == 37) AnyText (cond (c == 95) AnyCharacter (Exactly c))

-- The parts of a pattern's characters: `\` (92) takes the next character as it is, and a last `\` stands for itself.
-- The truth value says whether a `\` stands before.
abbrev pub parts_after : Bool → List ℕ → List Part
parts_after false [] = []
parts_after true [] = Exactly 92 ∷ []
parts_after true (c ∷ cs) = Exactly c ∷ parts_after false cs
parts_after false (c ∷ cs) = cond (c == 92) (parts_after true cs) (plain_part c ∷ parts_after false cs)

-- the parts of a LIKE pattern, from its characters
abbrev pub parts_of : List ℕ → List Part
parts_of cs = parts_after false cs

-- the part that a character begins, with those behind it, and what is left behind that part
abbrev pub first_part : ℕ → List ℕ → Part
first_part c [] = plain_part c
first_part c (d ∷ ds) = cond (c == 92) (Exactly d) (plain_part c)

-- the characters that are left behind the first part of a pattern, which the given character
-- begins; `\` (92) takes one more with it, where one follows
abbrev pub behind_part : ℕ → List ℕ → List ℕ
behind_part c [] = []
behind_part c (d ∷ ds) = cond (c == 92) ds (d ∷ ds)

-- some rest of the characters passes
abbrev pub some_rest : (List ℕ → Bool) → List ℕ → Bool
some_rest p [] = p []
some_rest p (c ∷ cs) = p (c ∷ cs) || some_rest p cs

-- the first character is this one and the rest passes
abbrev pub first_is : (ℕ → Bool) → (List ℕ → Bool) → List ℕ → Bool
first_is q p [] = false
first_is q p (c ∷ cs) = q c && p cs

-- no characters are left
abbrev pub is_at_end : List ℕ → Bool
is_at_end [] = true
is_at_end (c ∷ cs) = false

-- the characters are of the pattern
abbrev pub matches : List Part → List ℕ → Bool
matches [] cs = is_at_end cs
matches (AnyText ∷ ps) cs = some_rest (matches ps) cs
matches (AnyCharacter ∷ ps) cs = first_is (λ c. true) (matches ps) cs
matches (Exactly d ∷ ps) cs = first_is (λ c. c == d) (matches ps) cs

-- a text is like a pattern, by their characters
abbrev pub is_like : List ℕ → List ℕ → Bool
is_like text pattern = matches (parts_of (chars pattern)) (chars text)
