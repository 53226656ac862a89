-- What reading is: from what is left of a query to a thing and what is left then, or to the offset where it fails.
use Rattle.std.specs.Prelude.{◌≡◌, ℕ, Bool, false, ◌&&◌, ◌==◌, List, [], ◌∷◌, Option, None, Some, Result, Ok, Err, if◌then◌else◌}
use Rattle.jr_value.specs.declared.value.Kind.{Kind}
use Rattle.sql_pieces.specs.Leaves.{is_same_word}
use Rattle.sql_pieces.specs.declared.fault.SqlFault.{SqlFault}
use Rattle.sql_pieces.specs.declared.fault.SqlFault.TheVariants as fault
use Rattle.sql_pieces.specs.declared.piece.Placed.{Placed}
use Rattle.sql_pieces.specs.declared.piece.Says.{Says}
use Rattle.sql_pieces.specs.declared.piece.Says.TheVariants as says
use Rattle.sql_pieces.specs.declared.piece.Sign.{Sign}
use Rattle.sql_pieces.specs.declared.piece.Sign.TheVariants as sign

-- The tokens that are left, the offset behind the last, and the kind of the first CAST so far whose text has no value
-- of that kind.
pub record State : Type 0 where
  pub pieces : List Placed
  pub stop : ℕ
  pub refused : Option Kind

-- what reading gives: a thing and what is left of the query then, or the offset where it fails
abbrev pub Read : Type 0 → Type 0
Read X = Result (X × State) ℕ

infixl 10 ◌>>=◌
-- one reading after another: the first failure stays
abbrev pub ◌>>=◌ : {A B : Type 0} → Result A ℕ → (A → Result B ℕ) → Result B ℕ
(Ok x) >>= f = f x
(Err e) >>= f = Err e

-- what a reader returned and left is what reading gives, unless memory was refused
abbrev pub Reads : {X : Type 0} → Result X SqlFault → State → Read X → Type 0
Reads (Ok x) s read = read ≡ Ok (x, s)
Reads (Err fault.Memory) s read = Unit {0}
Reads (Err (fault.InvalidQuery offset)) s read = read ≡ Err offset
Reads (Err (fault.Cast required found)) s read = ⊥

-- the same of what a reader returned, seen by view
abbrev pub ReadsAs : {X Y : Type 0} → (X → Y) → Result X SqlFault → State → Read Y → Type 0
ReadsAs view (Ok x) s read = read ≡ Ok (view x, s)
ReadsAs view (Err fault.Memory) s read = Unit {0}
ReadsAs view (Err (fault.InvalidQuery offset)) s read = read ≡ Err offset
ReadsAs view (Err (fault.Cast required found)) s read = ⊥

-- the same of a reader that leaves everything
abbrev pub Gives : {X : Type 0} → Result X SqlFault → Result X ℕ → Type 0
Gives (Ok x) given = given ≡ Ok x
Gives (Err fault.Memory) given = Unit {0}
Gives (Err (fault.InvalidQuery offset)) given = given ≡ Err offset
Gives (Err (fault.Cast required found)) given = ⊥

-- ---- what stands at the front

-- the tokens that are left behind the next one
abbrev pub behind : List Placed → List Placed
behind [] = []
behind (p ∷ ps) = ps

-- the offset where the first of the tokens begins; where there is none, the offset of the text's
-- end
abbrev pub first_start : List Placed → ℕ → ℕ
first_start [] stop = stop
first_start (p ∷ ps) stop = p.start

-- the offset of what comes next: the first byte of the next token, or the text's end
abbrev pub offset_at : State → ℕ
offset_at s = first_start s.pieces s.stop

-- behind the next token
abbrev pub after : State → State
after s = record { pieces = behind s.pieces; stop = s.stop; refused = s.refused }

-- a number for each sign, by which signs are told apart
abbrev pub number_of_sign : Sign → ℕ
number_of_sign sign.Star = 0
number_of_sign sign.Comma = 1
number_of_sign sign.Dot = 2
number_of_sign sign.Open = 3
number_of_sign sign.Close = 4
number_of_sign sign.Equal = 5
number_of_sign sign.Unequal = 6
number_of_sign sign.Less = 7
number_of_sign sign.AtMost = 8
number_of_sign sign.Greater = 9
number_of_sign sign.AtLeast = 10

-- two signs are one and the same
abbrev pub is_same_sign : Sign → Sign → Bool
is_same_sign a b = number_of_sign a == number_of_sign b

-- what a token says is the wanted sign
abbrev pub says_sign : Sign → Says → Bool
says_sign wanted (says.Sign s) = is_same_sign s wanted
says_sign wanted _ = false

-- the next token is this sign
abbrev pub next_sign : Sign → List Placed → Bool
next_sign wanted [] = false
next_sign wanted (p ∷ ps) = says_sign wanted p.says

-- what a token says is the wanted word, in any case
abbrev pub is_word : List ℕ → Says → Bool
is_word wanted (says.Word name) = is_same_word wanted name
is_word wanted _ = false

-- the next token is this word, in any case
abbrev pub word_first : List ℕ → List Placed → Bool
word_first wanted [] = false
word_first wanted (p ∷ ps) = is_word wanted p.says

-- the next two tokens are this word and `(`
abbrev pub call_first : List ℕ → List Placed → Bool
call_first wanted ps = word_first wanted ps && next_sign sign.Open (behind ps)

-- the name that a token says, as a word or in brackets
abbrev pub said_name : Says → Option (List ℕ)
said_name (says.Word name) = Some name
said_name (says.Bracketed name) = Some name
said_name _ = None

-- the name that the next token is
abbrev pub next_name : List Placed → Option (List ℕ)
next_name [] = None
next_name (p ∷ ps) = said_name p.says

-- ---- reading one token

-- what must be there: the thing, or where it is missing a failure at the given offset
abbrev pub required : {X : Type 0} → Option X → ℕ → Result X ℕ
required (Some x) at = Ok x
required None at = Err at

-- reads the wanted sign, and fails where anything else comes next
abbrev pub read_sign : Sign → State → Read (Unit {0})
read_sign wanted s = if next_sign wanted s.pieces then Ok (tt, after s) else Err (offset_at s)

-- reads the wanted word in any case, and fails where anything else comes next
abbrev pub word_at : List ℕ → State → Read (Unit {0})
word_at wanted s = if word_first wanted s.pieces then Ok (tt, after s) else Err (offset_at s)

-- reads a name, as a word or in brackets, and fails where anything else comes next
abbrev pub read_name : State → Read (List ℕ)
read_name s = do
  name ← required (next_name s.pieces) (offset_at s)
  Ok (name, after s)

-- a name, that means nothing here
abbrev pub any_name_at : State → Read (Unit {0})
any_name_at s = do
  name ← required (next_name s.pieces) (offset_at s)
  Ok (tt, after s)

-- ---- repetition

-- x, and more as long as another begins: `{ .. }` of the grammar. Each takes a token, so there are no more turns than
-- tokens.
abbrev pub many : {X : Type 0} → (List Placed → Bool) → (X → State → Read X) → List Placed → X → State → Read X
many begins next [] x s = Ok (x, s)
many begins next (_ ∷ turns) x s =
    if begins s.pieces then (next x s >>= λ r. many begins next turns r.0 r.1) else Ok (x, s)

-- a value, and what a result has beside it
abbrev pub paired : {A B E : Type 0} → A → Result B E → Result (A × B) E
paired a (Ok b) = Ok (a, b)
paired a (Err e) = Err e
