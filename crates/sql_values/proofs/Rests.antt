-- A text is matched with a pattern row by row, from the pattern's end.
use Rattle.std.proofs.Common.{◌≡◌, ℕ, suc, ◌-◌, Bool, true, false, ◌&&◌, ◌||◌, List, [], ◌∷◌, map, length, refl, sym, ap, ◌∙◌, arith}
use Rattle.std.specs.Prelude.{Some, reverse, slice_get}
use Rattle.std.specs.List.{fold, zip}
use Rattle.std.proofs.lemmas.List.{reverse-reverse}
use Rattle.std.proofs.lemmas.List.Sums.{fold-append}
use Rattle.std.proofs.lemmas.Grind.{reverse_onto}
use mathlib.Core.List.{reverse_aux}
use Rattle.sql_values.specs.declared.like.Part.{Part}
use Rattle.sql_values.specs.declared.like.Part.TheVariants.{AnyText, AnyCharacter, Exactly}
use Rattle.std.specs.Str.{chars}
use Rattle.std.specs.Option.{unwrap_or}
use Rattle.sql_values.specs.Patterns.{is_like, matches, parts_of}
use Rattle.sql_values.specs.Matching.{parts_row, empty_row, whole_matches, next_row, rest_row, takes}

-- which rests of a text are of the pattern, the shortest first: cs is the first, and the text's other characters are given backwards
abbrev pub rests : List Part → List ℕ → List ℕ → List Bool
rests ps cs [] = matches ps cs ∷ []
rests ps cs (c ∷ before) = matches ps cs ∷ rests ps (c ∷ cs) before

none_more : (d : ℕ) (cs before : List ℕ) → rests [] (d ∷ cs) before ≡ false ∷ map (λ c. false) before
none_more d cs [] = refl
none_more d cs (c ∷ before) = ap (λ r. false ∷ r) (none_more c (d ∷ cs) before)

pub empty_is : (before : List ℕ) → empty_row before ≡ rests [] [] before
empty_is [] = refl
empty_is (c ∷ before) = ap (λ r. true ∷ r) (sym (none_more c [] before))

pub any_taken : (ps : List Part) (cs before : List ℕ) → rests (AnyCharacter ∷ ps) cs before ≡ matches (AnyCharacter ∷ ps) cs ∷ map (λ e. takes AnyCharacter e.0 && e.1) (zip before (rests ps cs before))
any_taken ps cs [] = refl
any_taken ps cs (c ∷ before) = ap (λ r. matches (AnyCharacter ∷ ps) cs ∷ r) (any_taken ps (c ∷ cs) before)

pub one_taken : (d : ℕ) (ps : List Part) (cs before : List ℕ) → rests (Exactly d ∷ ps) cs before ≡ matches (Exactly d ∷ ps) cs ∷ map (λ e. takes (Exactly d) e.0 && e.1) (zip before (rests ps cs before))
one_taken d ps cs [] = refl
one_taken d ps cs (c ∷ before) = ap (λ r. matches (Exactly d ∷ ps) cs ∷ r) (one_taken d ps (c ∷ cs) before)

pub some_taken : (b : Bool) (ps : List Part) (cs before : List ℕ) → matches (AnyText ∷ ps) cs ≡ (matches ps cs || b) → rests (AnyText ∷ ps) cs before ≡ rest_row b (rests ps cs before)
some_taken b ps cs [] h = ap (λ m. m ∷ []) h
some_taken b ps cs (c ∷ before) h =
    ap (λ m. m ∷ rests (AnyText ∷ ps) (c ∷ cs) before) h
    ∙ ap (λ r. (matches ps cs || b) ∷ r) (some_taken (matches ps cs || b) ps (c ∷ cs) before (ap (λ m. matches ps (c ∷ cs) || m) h))

or_false : (b : Bool) → b ≡ (b || false)
or_false true = refl
or_false false = refl

pub next_is : (p : Part) (ps : List Part) (before : List ℕ) → next_row p before (rests ps [] before) ≡ rests (p ∷ ps) [] before
next_is AnyText ps before = sym (some_taken false ps [] before (or_false (matches ps [])))
next_is AnyCharacter ps before = sym (any_taken ps [] before)
next_is (Exactly d) ps before = sym (one_taken d ps [] before)

-- the row after all parts, from the last to the first
pub all_parts : (ps : List Part) (before : List ℕ) → fold (λ row p. next_row p before row) (empty_row before) (reverse ps) ≡ rests ps [] before
all_parts [] before = empty_is before
all_parts (p ∷ ps) before =
    ap (λ qs. fold (λ row q. next_row q before row) (empty_row before) qs) (reverse_onto ps p [])
    ∙ fold-append (λ row q. next_row q before row) (empty_row before) (reverse ps) (p ∷ [])
    ∙ ap (λ row. next_row p before row) (all_parts ps before)
    ∙ next_is p ps before

size_rests : (ps : List Part) (cs before : List ℕ) → length (rests ps cs before) ≡ suc (length before)
size_rests ps cs [] = refl
size_rests ps cs (c ∷ before) = ap suc (size_rests ps (c ∷ cs) before)

at_end : (ps : List Part) (cs before : List ℕ) → slice_get (rests ps cs before) (length before) ≡ Some (matches ps (reverse_aux before cs))
at_end ps cs [] = refl
at_end ps cs (c ∷ before) = at_end ps (c ∷ cs) before

-- the last rest is the whole text
pub last_is : (ps : List Part) (text : List ℕ) (row : List Bool) → row ≡ rests ps [] (reverse text) → slice_get row (length row - 1) ≡ Some (matches ps text)
last_is ps text row h =
    let size : length row - 1 ≡ length (reverse text) = omega (arith, ap length h, size_rests ps [] (reverse text)) in
    ap (slice_get row) size
    ∙ ap (λ r. slice_get r (length (reverse text))) h
    ∙ at_end ps [] (reverse text)
    ∙ ap (λ t. Some (matches ps t)) (reverse-reverse text)

-- the last entry of the row after all parts says whether the whole text is of the pattern
pub whole : (text pattern : List ℕ) → whole_matches (parts_row (reverse (parts_of (chars pattern))) (reverse (chars text))) ≡ is_like text pattern
whole text pattern =
    ap (λ o. unwrap_or o false) (last_is (parts_of (chars pattern)) (chars text) _ (all_parts (parts_of (chars pattern)) (reverse (chars text))))
