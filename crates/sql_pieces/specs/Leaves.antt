-- What words mean by themselves.
use Rattle.std.specs.Prelude.{ℕ, ◌+◌, nat_lt, Bool, false, ◌&&◌, ◌==◌, List, [], ◌∷◌, Option}
use Rattle.std.specs.Prelude.{None, Some, if◌then◌else◌, find, bytes_eq}
use Rattle.std.specs.Str.{str_eq_ignore_ascii_case}
use Rattle.jr_value.specs.Words.{all_kinds, kind_text}
use Rattle.jr_value.specs.declared.value.Kind.{Kind}
use Rattle.jr_value.specs.declared.value.Value.{Value}
use Rattle.sql_pieces.specs.declared.piece.Sign.{Sign}
use Rattle.sql_pieces.specs.declared.piece.Sign.TheVariants as sign

-- `*` 42, `,` 44, `.` 46, `(` 40, `)` 41, `=` 61, `<` 60, `>` 62
abbrev pub one_sign : ℕ → Option Sign
one_sign a =
    if a == 42 then Some sign.Star
    else (if a == 44 then Some sign.Comma
    else (if a == 46 then Some sign.Dot
    else (if a == 40 then Some sign.Open
    else (if a == 41 then Some sign.Close
    else (if a == 61 then Some sign.Equal
    else (if a == 60 then Some sign.Less
    else (if a == 62 then Some sign.Greater else None)))))))

-- `<>`, `<=`, `>=`
abbrev pub two_signs : ℕ → ℕ → Option Sign
two_signs a b =
    if a == 60 then (if b == 62 then Some sign.Unequal else (if b == 61 then Some sign.AtMost else None))
    else (if a == 62 then (if b == 61 then Some sign.AtLeast else None) else None)

-- the sign that is written with the given bytes, one or two; none where no sign is so written
abbrev pub sign_named : List ℕ → Option Sign
sign_named [] = None
sign_named (a ∷ []) = one_sign a
sign_named (a ∷ b ∷ []) = two_signs a b
sign_named (a ∷ b ∷ c ∷ bs) = None

-- the same word, in any case of its ASCII letters
abbrev pub is_same_word : List ℕ → List ℕ → Bool
is_same_word = str_eq_ignore_ascii_case

-- the kind that a word names, in any case
abbrev pub kind_of_word : List ℕ → Option Kind
kind_of_word word = find (λ k. is_same_word (kind_text k) word) all_kinds

-- the place of a name among others, counted from so many on; below 2^32
abbrev pub place_from : ℕ → List (List ℕ) → List ℕ → Option ℕ
place_from at [] name = None
place_from at (n ∷ ns) name =
    if bytes_eq n name then Some at
    else (if nat_lt (at + 1) 4294967296 then place_from (at + 1) ns name else None)

-- the place of a name in a list of names, counted from 0 and below 2^32; none where it isn't there
abbrev pub place_named : List (List ℕ) → List ℕ → Option ℕ
place_named = place_from 0

-- the value that goes with a name
abbrev pub value_named : List (List ℕ × Value) → List ℕ → Option Value
value_named [] name = None
value_named (v ∷ vs) name = if bytes_eq v.0 name then Some v.1 else value_named vs name

-- what is written in a text: without the second of each two quotes (39)
abbrev pub unquoted : Bool → List ℕ → List ℕ
unquoted after_quote [] = []
unquoted after_quote (b ∷ bs) = if after_quote && b == 39 then unquoted false bs else b ∷ unquoted (b == 39) bs
