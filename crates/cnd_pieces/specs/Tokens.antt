-- What a text of type definitions is cut into.
use Rattle.std.specs.Prelude.{ℕ, ◌+◌, Bool, false, ◌&&◌, ◌||◌, ◌==◌, not, List, [], ◌∷◌, Option, None, Some, option_map, if◌then◌else◌, codes}
use Rattle.std.specs.Char.{is_ascii_alphanumeric}
use Rattle.std.specs.List.{list_any}
use Rattle.cnd_pieces.specs.declared.piece.Sign.{Sign}
use Rattle.cnd_pieces.specs.declared.piece.Sign.TheVariants as sign
use Rattle.cnd_pieces.specs.declared.piece.TokenKind.{TokenKind}
use Rattle.cnd_pieces.specs.declared.piece.TokenKind.TheVariants as token
use Rattle.cnd_pieces.specs.declared.scan.Gap.{Gap}
use Rattle.cnd_pieces.specs.declared.scan.Gap.TheVariants as gap

-- space, tab, carriage return, line feed
abbrev pub is_space : ℕ → Bool
is_space b = b == 32 || b == 9 || b == 13 || b == 10

-- an ASCII letter, a digit, or one of `_ - . :`
abbrev pub is_bare : ℕ → Bool
is_bare b = is_ascii_alphanumeric b || list_any (λ d. b == d) (codes "_-.:")

-- the first byte is this one
abbrev pub next_is : ℕ → List ℕ → Bool
next_is c [] = false
next_is c (b ∷ bs) = b == c

-- ---- what stands between tokens: white space, `//` (47 47) to the end of the line, `/*` (42) to `*/`

-- what follows a slash in white space: a comment, of either kind, that begins at the offset; or it ends the white space
abbrev pub gap_slash : ℕ → List ℕ → Option Gap
gap_slash at bs =
    if next_is 47 bs then Some gap.Line
    else (if next_is 42 bs then Some (gap.Opening at) else None)

-- How white space and comments go on behind a byte at an offset, with those behind it; `None` where they end before it.
abbrev pub gap_after : Gap → ℕ → ℕ → List ℕ → Option Gap
gap_after gap.Space at b bs = if b == 47 then gap_slash at bs else (if is_space b then Some gap.Space else None)
gap_after gap.Line at b bs = if b == 10 then Some gap.Space else Some gap.Line
gap_after (gap.Opening begun) at b bs = Some (gap.Block begun)
gap_after (gap.Block begun) at b bs = if b == 42 && next_is 47 bs then Some gap.Closing else Some (gap.Block begun)
gap_after gap.Closing at b bs = Some gap.Space

-- where they end at the text's end: a comment between `/*` and `*/` that isn't closed is none
abbrev pub gap_end : Gap → ℕ → ℕ
gap_end gap.Space at = at
gap_end gap.Line at = at
gap_end (gap.Opening begun) at = begun
gap_end (gap.Block begun) at = begun
gap_end gap.Closing at = at

-- how many bytes they have, of which so many are read
abbrev pub gap_from : Gap → ℕ → List ℕ → ℕ
gap_from g at [] = gap_end g at
gap_from g at (b ∷ bs) = elim (gap_after g at b bs) [ None ↦ at | Some next ↦ gap_from next (at + 1) bs ]

-- how many bytes of white space and comments stand at the front
abbrev pub gap_size : List ℕ → ℕ
gap_size = gap_from gap.Space 0

-- ---- tokens

-- how many bytes of a bare token stand at the front, behind so many others
abbrev pub bare_from : ℕ → List ℕ → ℕ
bare_from at [] = at
bare_from at (b ∷ bs) = if is_bare b then bare_from (at + 1) bs else at

-- a bare token goes on with the first byte
abbrev pub goes_on_bare : List ℕ → Bool
goes_on_bare [] = false
goes_on_bare (b ∷ bs) = is_bare b

-- Up to the quote (39) that closes a text and with it, behind so many bytes. Behind a backslash (92) stands a quote or a
-- backslash, and nothing else.
abbrev pub quote_from : Bool → ℕ → List ℕ → Option ℕ
quote_from escaped at [] = None
quote_from escaped at (b ∷ bs) =
    if escaped then (if b == 39 || b == 92 then quote_from false (at + 1) bs else None)
    else (if b == 39 then Some (at + 1) else quote_from (b == 92) (at + 1) bs)

-- `<` 60, `>` 62, `=` 61, `,` 44, `(` 40, `)` 41, `[` 91, `]` 93, `-` 45, `+` 43, `*` 42, `!` 33
abbrev pub sign_of : ℕ → Option Sign
sign_of b =
    if b == 60 then Some sign.Less
    else (if b == 62 then Some sign.Greater
    else (if b == 61 then Some sign.Equal
    else (if b == 44 then Some sign.Comma
    else (if b == 40 then Some sign.Open
    else (if b == 41 then Some sign.Close
    else (if b == 91 then Some sign.OpenSquare
    else (if b == 93 then Some sign.CloseSquare
    else (if b == 45 then Some sign.Minus
    else (if b == 43 then Some sign.Plus
    else (if b == 42 then Some sign.Star
    else (if b == 33 then Some sign.Bang else None)))))))))))

-- a bare token begins with the byte; with `-` only right behind `<`, where a prefix stands
abbrev pub begins_bare : Bool → ℕ → Bool
begins_bare behind_less b = is_bare b && (behind_less || not (b == 45))

-- what the token at the front is, and its size: it is as long as it can be
abbrev pub first_token : Bool → List ℕ → Option (TokenKind × ℕ)
first_token behind_less [] = None
first_token behind_less (b ∷ bs) =
    if begins_bare behind_less b then Some (token.Bare, bare_from 1 bs)
    else (if b == 39 then option_map (λ n. (token.Quoted, n)) (quote_from false 1 bs)
    else option_map (λ s. (token.Sign s, 1)) (sign_of b))
