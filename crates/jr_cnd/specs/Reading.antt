-- What reading is: from what is left of a text to a thing and what is left then, or to the offset where it fails.
use Rattle.std.specs.Prelude.{◌≡◌, ℕ, Bool, true, false, ◌==◌, List, [], ◌∷◌, Option, None, Some, Result, Ok, Err, if◌then◌else◌}
use Rattle.jr_path.specs.declared.name.Name.{Name}
use Rattle.jr_cnd.specs.declared.fault.NoCnd.{NoCnd}
use Rattle.jr_cnd.specs.declared.fault.NoCnd.TheVariants as no
use Rattle.cnd_pieces.specs.declared.piece.Placed.{Placed}
use Rattle.cnd_pieces.specs.declared.piece.Says.{Says}
use Rattle.cnd_pieces.specs.declared.piece.Says.TheVariants as says
use Rattle.cnd_pieces.specs.declared.piece.Sign.{Sign}
use Rattle.cnd_pieces.specs.declared.piece.Sign.TheVariants as sign

-- the tokens that are left, and the offset behind the last
pub record State : Type 0 where
  pub pieces : List Placed
  pub stop : ℕ

-- what was read and what is left, or the offset where reading fails
abbrev pub Read : Type 0 → Type 0
Read X = Result (X × State) ℕ

infixl 10 ◌>>=◌
-- one reading after another: the first failure stays
abbrev pub ◌>>=◌ : {A B : Type 0} → Result A ℕ → (A → Result B ℕ) → Result B ℕ
(Ok x) >>= f = f x
(Err e) >>= f = Err e

-- what a reader returned and left is what reading gives, unless memory was refused
abbrev pub Reads : {X : Type 0} → Result X NoCnd → State → Read X → Type 0
Reads (Ok x) s read = read ≡ Ok (x, s)
Reads (Err no.Memory) s read = Unit {0}
Reads (Err (no.Syntax offset)) s read = read ≡ Err offset
Reads (Err (no.BadDef offset)) s read = ⊥

-- ---- what stands at the front

-- all tokens but the first
abbrev pub behind : List Placed → List Placed
behind [] = []
behind (p ∷ ps) = ps

-- where the first token begins; where there is none, the offset behind the last
abbrev pub next_offset : List Placed → ℕ → ℕ
next_offset [] stop = stop
next_offset (p ∷ ps) stop = p.start

-- the offset of what comes next: the first byte of the next token, or the text's end
abbrev pub place : State → ℕ
place s = next_offset s.pieces s.stop

-- behind the next token
abbrev pub after : State → State
after s = record { pieces = behind s.pieces; stop = s.stop }

-- each sign has a number of its own
abbrev pub sign_number : Sign → ℕ
sign_number sign.Less = 0
sign_number sign.Greater = 1
sign_number sign.Equal = 2
sign_number sign.Comma = 3
sign_number sign.Open = 4
sign_number sign.Close = 5
sign_number sign.OpenSquare = 6
sign_number sign.CloseSquare = 7
sign_number sign.Minus = 8
sign_number sign.Plus = 9
sign_number sign.Star = 10
sign_number sign.Bang = 11

-- both are one sign
abbrev pub same_sign : Sign → Sign → Bool
same_sign a b = sign_number a == sign_number b

-- the token is this sign
abbrev pub is_sign : Sign → Says → Bool
is_sign wanted (says.Sign s) = same_sign s wanted
is_sign wanted _ = false

-- the next token is this sign
abbrev pub sign_first : Sign → List Placed → Bool
sign_first wanted [] = false
sign_first wanted (p ∷ ps) = is_sign wanted p.says

-- the name that a token is, bare or as a text
abbrev pub cnd_name_in : Says → Option Name
cnd_name_in (says.Name name) = Some name
cnd_name_in (says.Quoted text name value) = name
cnd_name_in _ = None

-- the name that the next token is
abbrev pub name_first : List Placed → Option Name
name_first [] = None
name_first (p ∷ ps) = cnd_name_in p.says

-- the text that a token is
abbrev pub text_in : Says → Option (List ℕ)
text_in (says.Quoted text name value) = Some text
text_in _ = None

-- the text that the next token is
abbrev pub text_first : List Placed → Option (List ℕ)
text_first [] = None
text_first (p ∷ ps) = text_in p.says

-- the bare token
abbrev pub bare_in : Says → Option (List ℕ)
bare_in (says.Name name) = Some name
bare_in (says.Bare text) = Some text
bare_in _ = None

-- the bare token that comes next
abbrev pub bare_first : List Placed → Option (List ℕ)
bare_first [] = None
bare_first (p ∷ ps) = bare_in p.says

-- nothing is left
abbrev pub no_pieces : List Placed → Bool
no_pieces [] = true
no_pieces (_ ∷ _) = false

-- ---- reading one token

-- the thing, or a failure at the offset
abbrev pub required : {X : Type 0} → Option X → ℕ → Result X ℕ
required (Some x) at = Ok x
required None at = Err at

-- this sign
abbrev pub sign_at : Sign → State → Read (Unit {0})
sign_at wanted s = if sign_first wanted s.pieces then Ok (tt, after s) else Err (place s)

-- a name, bare or as a text
abbrev pub name_at : State → Read Name
name_at s = do
  name ← required (name_first s.pieces) (place s)
  Ok (name, after s)

-- a text
abbrev pub text_at : State → Read (List ℕ)
text_at s = do
  text ← required (text_first s.pieces) (place s)
  Ok (text, after s)

-- ---- repetition

-- x, and more as long as another begins: `{ .. }` of the grammar. Each takes a token, so there are no more turns than
-- tokens.
abbrev pub many : {X : Type 0} → (X → List Placed → Bool) → (X → State → Read X) → List Placed → X → State → Read X
many begins next [] x s = Ok (x, s)
many begins next (_ ∷ turns) x s =
    if begins x s.pieces then (next x s >>= λ r. many begins next turns r.0 r.1) else Ok (x, s)
