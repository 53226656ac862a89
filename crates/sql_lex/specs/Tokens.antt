-- What a text of JCR-SQL2 is cut into.
use Rattle.std.specs.Prelude.{◌≡◌, ℕ, ◌+◌, ◌<◌, ◌≤◌, Bool, true, false, ◌||◌, ◌==◌, not, List, [], ◌∷◌, Option, None, Some, option_map, if◌then◌else◌, IsTrue, length, drop, get_or}
use Rattle.std.specs.Char.{is_ascii_alphabetic, is_ascii_alphanumeric, is_ascii_digit}
use Rattle.sql_lex.specs.declared.token.TokenKind.{TokenKind}
use Rattle.sql_lex.specs.declared.token.TokenKind.TheVariants.{Word, Bracketed, Text, Number, Variable, Sign}
use Rattle.sql_lex.specs.declared.token.Token.{Token}
use Rattle.sql_lex.specs.declared.token.LexFault.{LexFault}
use Rattle.sql_lex.specs.declared.token.LexFault.TheVariants.{InvalidQuery, Memory}

-- space, tab, carriage return, line feed
abbrev pub is_blank : ℕ → Bool
is_blank b = b == 32 || b == 9 || b == 13 || b == 10

-- an ASCII letter, a digit or `_`
abbrev pub is_word_byte : ℕ → Bool
is_word_byte b = is_ascii_alphanumeric b || b == 95

-- how many bytes at the front pass, behind so many others
abbrev pub front_size : (ℕ → Bool) → ℕ → List ℕ → ℕ
front_size passes before [] = before
front_size passes before (b ∷ bs) = if passes b then front_size passes (before + 1) bs else before

-- how many bytes at the front of a text are ASCII letters, digits or `_`
abbrev pub word_size : List ℕ → ℕ
word_size = front_size is_word_byte 0

-- how many bytes at the front of a text are ASCII digits
abbrev pub digits_size : List ℕ → ℕ
digits_size = front_size is_ascii_digit 0

-- up to the first `]` (93) and with it, behind so many others
abbrev pub bracket_end : ℕ → List ℕ → Option ℕ
bracket_end before [] = None
bracket_end before (b ∷ bs) = if b == 93 then Some (before + 1) else bracket_end (before + 1) bs

-- how many bytes behind a `[` lead up to the first `]` and with it; none where no `]` follows
abbrev pub bracket_size : List ℕ → Option ℕ
bracket_size = bracket_end 0

-- Up to the quote (39) that closes a text and with it, behind so many bytes: each quote leads out of the text or back
-- into it, and outside another byte, or the end, ends it.
abbrev pub closing : Bool → ℕ → List ℕ → Option ℕ
closing inside before [] = if inside then None else Some before
closing inside before (b ∷ bs) =
    if b == 39 then closing (not inside) (before + 1) bs
    else (if inside then closing inside (before + 1) bs else Some before)

-- how many bytes behind the quote that opens a text lead up to the quote that closes it and with
-- it; none where no quote closes it
abbrev pub text_size : List ℕ → Option ℕ
text_size = closing true 0

-- behind `-`: one or more digits
abbrev pub negative : List ℕ → Option ℕ
negative bs = if digits_size bs == 0 then None else Some (digits_size bs)

-- behind `$`: a word, or a bracketed text
abbrev pub variable : List ℕ → Option ℕ
variable [] = None
variable (b ∷ bs) =
    if is_ascii_alphabetic b then Some (word_size bs + 1)
    else (if b == 91 then option_map (λ n. n + 1) (bracket_size bs) else None)

-- the next byte is the given one
abbrev pub begins_with_byte : ℕ → List ℕ → Bool
begins_with_byte c [] = false
begins_with_byte c (b ∷ bs) = b == c

-- `*` 42, `,` 44, `.` 46, `(` 40, `)` 41 and `=` 61; `<` 60 alone or before `=` or `>`; `>` 62 alone or before `=`
abbrev pub sign_size : ℕ → List ℕ → Option ℕ
sign_size b bs =
    if b == 42 || b == 44 || b == 46 || b == 40 || b == 41 || b == 61 then Some 1
    else (if b == 60 then (if begins_with_byte 61 bs || begins_with_byte 62 bs then Some 2 else Some 1)
    else (if b == 62 then (if begins_with_byte 61 bs then Some 2 else Some 1) else None))

-- a token of the given kind, with its size: its first byte, and the given count of bytes behind it;
-- none where no count is given
abbrev pub of_kind : TokenKind → Option ℕ → Option (TokenKind × ℕ)
of_kind kind = option_map (λ n. (kind, n + 1))

-- the kind and the size of the longest token at the front
abbrev pub longest_token : List ℕ → Option (TokenKind × ℕ)
longest_token [] = None
longest_token (b ∷ bs) =
    if is_ascii_alphabetic b then Some (Word, word_size bs + 1)
    else (if is_ascii_digit b then Some (Number, digits_size bs + 1)
    else (if b == 45 then of_kind Number (negative bs)
    else (if b == 91 then of_kind Bracketed (bracket_size bs)
    else (if b == 39 then of_kind Text (text_size bs)
    else (if b == 36 then of_kind Variable (variable bs)
    else option_map (λ n. (Sign, n)) (sign_size b bs))))))

-- nothing but white space stands between the offsets
pub record IsGap (text : List ℕ) (from to : ℕ) : Type 0 where
  pub order : from ≤ to
  pub within : to ≤ length text
  pub space : (k : ℕ) → from ≤ k → k < to → IsTrue (is_blank (get_or text k 0))

-- the token is what stands at its start, as long as it can be
pub record IsToken (text : List ℕ) (token : Token) : Type 0 where
  pub size : ℕ
  pub is : longest_token (drop token.start text) ≡ Some (token.kind, size)
  pub end_is : token.end ≡ token.start + size

-- from an offset on up to another the text is these tokens, with nothing but white space before, between and behind
abbrev pub AreTokens : List ℕ → ℕ → List Token → ℕ → Type 0
AreTokens text at [] stop = IsGap text at stop
AreTokens text at (token ∷ tokens) stop = IsGap text at token.start × IsToken text token × AreTokens text token.end tokens stop

-- no token begins at the offset, and no white space stands there
pub record IsStuck (text : List ℕ) (offset : ℕ) : Type 0 where
  pub within : offset < length text
  pub no_space : is_blank (get_or text offset 0) ≡ false
  pub no_token : longest_token (drop offset text) ≡ None

-- a cut stops here: at the text's end, or where no token begins
abbrev pub Stops : List ℕ → ℕ → Type 0
Stops text stop = stop < length text → IsStuck text stop

-- what is before the offset is cut into tokens, and nothing more is; or memory was refused
abbrev pub IsLexFault : List ℕ → LexFault → Type 0
IsLexFault text (InvalidQuery offset) = (tokens : List Token) × AreTokens text 0 tokens offset × IsStuck text offset
IsLexFault text Memory = Unit {0}
