-- What each token of a text says.
use Rattle.std.specs.Prelude.{◌≡◌, ℕ, ℤ, ◌-◌, ◌<◌, nat_le, nat_lt, ◌==◌, false, List, [], ◌∷◌, ◌++◌, Option, None, Some, if◌then◌else◌, MatchOption, IsUtf8, length, slice_range, codes}
use Rattle.jr_path.specs.Grammar.{IsName}
use Rattle.jr_value.specs.Texts.{IsFound, IsPathWithin, IsText, IsWholeNumber}
use Rattle.jr_value.specs.declared.value.Kind.{Kind}
use Rattle.jr_value.specs.declared.value.Value.{Value}
use Rattle.sql_lex.specs.Tokens.{AreTokens, IsStuck}
use Rattle.sql_lex.specs.declared.token.Token.{Token}
use Rattle.sql_lex.specs.declared.token.TokenKind.{TokenKind}
use Rattle.sql_lex.specs.declared.token.TokenKind.TheVariants as token
use Rattle.sql_pieces.specs.Leaves.{is_same_word, kind_of_word, sign_named, unquoted, value_named}
use Rattle.sql_pieces.specs.declared.piece.Placed.{Placed}
use Rattle.sql_pieces.specs.declared.piece.Says.{Says}
use Rattle.sql_pieces.specs.declared.piece.Says.TheVariants as says

-- the bytes of a token
abbrev pub token_bytes : List ℕ → Token → List ℕ
token_bytes text t = if nat_le t.start t.end then (if nat_le t.end (length text) then slice_range text t.start t.end else []) else []

-- without the first and the last byte
abbrev pub within_quotes : List ℕ → List ℕ
within_quotes bs = if nat_lt (length bs) 2 then [] else slice_range bs 1 (length bs - 1)

-- without brackets, where it begins with `[` (91)
abbrev pub unbracketed : List ℕ → List ℕ
unbracketed [] = []
unbracketed (b ∷ bs) = if b == 91 then within_quotes (b ∷ bs) else b ∷ bs

-- behind `$`
abbrev pub variable_name : List ℕ → List ℕ
variable_name [] = []
variable_name (_ ∷ bs) = unbracketed bs

-- what is written in a token
abbrev pub token_content : TokenKind → List ℕ → List ℕ
token_content token.Word bs = bs
token_content token.Number bs = bs
token_content token.Sign bs = bs
token_content token.Bracketed bs = within_quotes bs
token_content token.Text bs = unquoted false (within_quotes bs)
token_content token.Variable bs = variable_name bs

-- the kind of a CAST, where `AS` and a kind's word stand behind a token
abbrev pub cast_kind : List ℕ → List Token → Option Kind
cast_kind text [] = None
cast_kind text (_ ∷ []) = None
cast_kind text (a ∷ k ∷ _) = if is_same_word (codes "as") (token_bytes text a) then kind_of_word (token_bytes text k) else None

-- the value of the kind that the text is, or none
abbrev pub IsCast : Option Kind → List ℕ → Option Value → Type 0
IsCast None text value = value ≡ None
IsCast (Some k) text value = IsFound (IsText k text) value

-- what is found is the path that a text is, or nothing where the text is no path of at most
-- 64 names and 1,024 bytes
abbrev pub IsPathOrNone : List ℕ → Option (List (List ℕ)) → Type 0
IsPathOrNone text found = MatchOption found ((path : List (List ℕ)) → ¬ IsPathWithin text path) (IsPathWithin text)

-- What is written in a token of a kind says this. A word says a name; what stands in brackets a name or a path; a text
-- itself, the path that it is and its value in a CAST; a number its value, of 64 bits; a variable the value that it
-- has; a sign itself. All else says nothing.
abbrev pub IsSaidInSql : List (List ℕ × Value) → Option Kind → TokenKind → List ℕ → Says → Type 0
IsSaidInSql vars cast token.Word t (says.Word name) = IsName t × (name ≡ t)
IsSaidInSql vars cast token.Word t says.Nothing = ¬ IsName t
IsSaidInSql vars cast token.Bracketed t (says.Bracketed name) = IsName t × (name ≡ t)
IsSaidInSql vars cast token.Bracketed t (says.Path path) = (¬ IsName t) × IsPathWithin t path
IsSaidInSql vars cast token.Bracketed t says.Nothing = (¬ IsName t) × ((path : List (List ℕ)) → ¬ IsPathWithin t path)
IsSaidInSql vars cast token.Text t (says.Text text path value) = (text ≡ t) × IsPathOrNone t path × IsCast cast t value
IsSaidInSql vars cast token.Number t (says.Number n) = IsWholeNumber t n
IsSaidInSql vars cast token.Number t says.Nothing = (n : ℤ) → ¬ IsWholeNumber t n
IsSaidInSql vars cast token.Variable t (says.Variable value) = value_named vars t ≡ Some value
IsSaidInSql vars cast token.Variable t says.Nothing = value_named vars t ≡ None
IsSaidInSql vars cast token.Sign t (says.Sign s) = sign_named t ≡ Some s
IsSaidInSql vars cast token.Sign t says.Nothing = sign_named t ≡ None
IsSaidInSql _ _ _ _ _ = ⊥

-- The same of bytes. (What is written in a token of a text in UTF-8 is in UTF-8.)
pub record MeansInSql (vars : List (List ℕ × Value)) (cast : Option Kind) (kind : TokenKind) (t : List ℕ) (s : Says) : Type 0 where
  pub said : IsUtf8 t → IsSaidInSql vars cast kind t s
  pub no_text : ¬ IsUtf8 t → s ≡ says.Nothing

-- a token says this, with those behind it
pub record IsPiece (text : List ℕ) (vars : List (List ℕ × Value)) (t : Token) (behind : List Token) (p : Placed) : Type 0 where
  pub start : p.start ≡ t.start
  pub means : MeansInSql vars (cast_kind text behind) t.kind (token_content t.kind (token_bytes text t)) p.says

-- each token says what stands in its place
abbrev pub AreSqlPieces : List ℕ → List (List ℕ × Value) → List Token → List Placed → Type 0
AreSqlPieces text vars [] [] = Unit {0}
AreSqlPieces text vars (t ∷ ts) (p ∷ ps) = IsPiece text vars t ts p × AreSqlPieces text vars ts ps
AreSqlPieces _ _ _ _ = ⊥

-- what stands where no token begins says nothing
abbrev pub rest_pieces : List ℕ → ℕ → List Placed
rest_pieces text stop = if nat_lt stop (length text) then record { start = stop; says = says.Nothing } ∷ [] else []

-- What a text says, token by token: its tokens, and where what follows them is no token, this as the last, that says
-- nothing.
pub record IsReadAsSql (text : List ℕ) (vars : List (List ℕ × Value)) (pieces : List Placed) : Type 0 where
  pub tokens : List Token
  pub stop : ℕ
  pub are_tokens : AreTokens text 0 tokens stop
  pub stuck : stop < length text → IsStuck text stop
  pub front : List Placed
  pub are_pieces : AreSqlPieces text vars tokens front
  pub whole : pieces ≡ front ++ rest_pieces text stop
