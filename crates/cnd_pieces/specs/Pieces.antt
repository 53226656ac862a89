-- What each token of a text says.
use Rattle.std.specs.Prelude.{◌≡◌, ℕ, ◌+◌, ◌-◌, Bool, true, false, ◌&&◌, ◌==◌, not, List, [], ◌∷◌, Option, None, Some, if◌then◌else◌, MatchOption, IsUtf8, length, take, drop}
use Rattle.jr_path.specs.Grammar.{IsName}
use Rattle.jr_path.specs.declared.name.Name.{Name}
use Rattle.jr_value.specs.Texts.{IsFound, IsText}
use Rattle.jr_value.specs.declared.value.Kind.{Kind}
use Rattle.jr_value.specs.declared.value.Kind.TheVariants as kind
use Rattle.jr_value.specs.declared.value.Value.{Value}
use Rattle.cnd_pieces.specs.Tokens.{first_token, gap_size}
use Rattle.cnd_pieces.specs.Words.{cnd_kind_named}
use Rattle.cnd_pieces.specs.declared.piece.Sign.TheVariants as sign
use Rattle.cnd_pieces.specs.declared.piece.TokenKind.{TokenKind}
use Rattle.cnd_pieces.specs.declared.piece.TokenKind.TheVariants as token
use Rattle.cnd_pieces.specs.declared.piece.Says.{Says}
use Rattle.cnd_pieces.specs.declared.piece.Says.TheVariants as says
use Rattle.cnd_pieces.specs.declared.piece.Placed.{Placed}
use Rattle.cnd_pieces.specs.declared.context.Context.{Context}
use Rattle.cnd_pieces.specs.declared.context.Context.TheVariants as context

-- ---- the kind that a default has: that of the brackets before its `=`, or STRING

-- the kind of the values of a property's defaults; those of an undefined one are STRINGs
abbrev pub default_kind : Option Kind → Kind
default_kind None = kind.Str
default_kind (Some k) = k

-- behind a word in brackets that names a kind, or none
abbrev pub named_in : Option (Option Kind) → Context
named_in None = context.Elsewhere
named_in (Some k) = context.Named (default_kind k)

-- behind a word
abbrev pub after_word : Context → List ℕ → Context
after_word context.Opened word = named_in (cnd_kind_named word)
after_word _ word = context.Elsewhere

-- behind `*`
abbrev pub after_star : Context → Context
after_star context.Opened = context.Named kind.Str
after_star _ = context.Elsewhere

-- behind `)`
abbrev pub after_close : Context → Context
after_close (context.Named k) = context.Closed k
after_close _ = context.Elsewhere

-- behind `=`
abbrev pub after_equal : Context → Context
after_equal (context.Closed k) = context.Default k
after_equal _ = context.Default kind.Str

-- behind `,`
abbrev pub after_comma : Context → Context
after_comma (context.Listed k) = context.Default k
after_comma _ = context.Elsewhere

-- behind a text
abbrev pub after_text : Context → Context
after_text (context.Default k) = context.Listed k
after_text _ = context.Elsewhere

-- where the next token stands, behind one that says this
abbrev pub context_after : Context → Says → Context
context_after c (says.Name word) = after_word c word
context_after c (says.Quoted text name value) = after_text c
context_after c (says.Sign sign.Less) = context.BehindLess
context_after c (says.Sign sign.Open) = context.Opened
context_after c (says.Sign sign.Close) = after_close c
context_after c (says.Sign sign.Equal) = after_equal c
context_after c (says.Sign sign.Comma) = after_comma c
context_after c (says.Sign sign.Star) = after_star c
context_after c _ = context.Elsewhere

-- a prefix may stand here
abbrev pub is_behind_less : Context → Bool
is_behind_less context.BehindLess = true
is_behind_less _ = false

-- ---- what a token says

-- what is written in a text: without the backslash (92) before each quote and backslash
abbrev pub unescaped : Bool → List ℕ → List ℕ
unescaped escaped [] = []
unescaped escaped (b ∷ bs) = if not escaped && b == 92 then unescaped true bs else b ∷ unescaped false bs

-- without the first and the last byte
abbrev pub inner : List ℕ → List ℕ
inner bs = take (length bs - 2) (drop 1 bs)

-- what is written in a token
abbrev pub content : TokenKind → List ℕ → List ℕ
content token.Quoted bs = unescaped false (inner bs)
content token.Bare bs = bs
content (token.Sign s) bs = bs

-- the name that the text is, or none
abbrev pub IsNameOrNone : List ℕ → Option Name → Type 0
IsNameOrNone t found = MatchOption found (¬ IsName t) (λ name. IsName t × (name ≡ t))

-- the value that the text is as a default, or none; elsewhere none
abbrev pub IsDefault : Context → List ℕ → Option Value → Type 0
IsDefault (context.Default k) t value = IsFound (IsText k t) value
IsDefault _ t value = value ≡ None

-- What is written in a token of a kind says this: a bare token says the name that it is, or else itself; a text itself, the
-- name that it is and its value as a default; a sign itself.
abbrev pub IsSaid : Context → TokenKind → List ℕ → Says → Type 0
IsSaid c token.Bare t (says.Name name) = IsName t × (name ≡ t)
IsSaid c token.Bare t (says.Bare text) = (¬ IsName t) × (text ≡ t)
IsSaid c token.Quoted t (says.Quoted text name value) = (text ≡ t) × IsNameOrNone t name × IsDefault c t value
IsSaid c (token.Sign s) t (says.Sign u) = u ≡ s
IsSaid _ _ _ _ = ⊥

-- Bytes that are written in a token say what their text says, and bytes that are no text nothing. (What is written in a token
-- of a text in UTF-8 is in UTF-8.)
pub record Means (c : Context) (kind : TokenKind) (t : List ℕ) (s : Says) : Type 0 where
  pub said : IsUtf8 t → IsSaid c kind t s
  pub no_text : ¬ IsUtf8 t → s ≡ says.Nothing

-- what is left behind so many bytes, without the white space and comments that stand there
abbrev pub left_behind : ℕ → List ℕ → List ℕ
left_behind size bs = let more = drop size bs in drop (gap_size more) more

-- the offset where that begins
abbrev pub place_behind : ℕ → ℕ → List ℕ → ℕ
place_behind at size bs = at + size + gap_size (drop size bs)

-- What is left of a text from an offset on, where a token stands in this context, says these pieces. The first bytes that
-- are no token say nothing, and end the reading.
abbrev pub ArePieces : Context → ℕ → List ℕ → List Placed → Type 0
ArePieces c at bs [] = bs ≡ []
ArePieces c at bs (p ∷ ps) =
    (p.start ≡ at) × MatchOption (first_token (is_behind_less c) bs)
    ((p.says ≡ says.Nothing) × (ps ≡ []) × (bs ≡ [] → ⊥))
    (λ t. Means c t.0 (content t.0 (take t.1 bs)) p.says
    × ArePieces (context_after c p.says) (place_behind at t.1 bs) (left_behind t.1 bs) ps)

-- what a text says, token by token
abbrev pub IsReadAs : List ℕ → List Placed → Type 0
IsReadAs text pieces = ArePieces context.Elsewhere (gap_size text) (drop (gap_size text) text) pieces
