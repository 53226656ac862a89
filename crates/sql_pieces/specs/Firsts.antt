-- What the next token is: a value, a text, the word of a kind, a path, a selector's name.
use Rattle.std.specs.Prelude.{ℕ, Bool, true, false, List, [], ◌∷◌, Option, None, Some, if◌then◌else◌, codes}
use Rattle.jr_value.specs.declared.value.Kind.{Kind}
use Rattle.jr_value.specs.declared.value.Value.{Value}
use Rattle.jr_value.specs.declared.value.Value.TheVariants as value
use Rattle.sql_pieces.specs.Leaves.{is_same_word, kind_of_word}
use Rattle.sql_pieces.specs.declared.piece.Placed.{Placed}
use Rattle.sql_pieces.specs.declared.piece.Says.{Says}
use Rattle.sql_pieces.specs.declared.piece.Says.TheVariants as says

-- the BOOLEAN value of the word TRUE or FALSE, in any case; no other word has one
abbrev pub truth_in : List ℕ → Option Value
truth_in name = if is_same_word (codes "TRUE") name then Some (value.Boolean true) else (if is_same_word (codes "FALSE") name then Some (value.Boolean false) else None)

-- the value of a token that is a literal or a bind variable: a text, a number, `$name`, TRUE or
-- FALSE
abbrev pub literal_in : Says → Option Value
literal_in (says.Text text path cast) = Some (value.Str text)
literal_in (says.Number n) = Some (value.Long n)
literal_in (says.Variable v) = Some v
literal_in (says.Word name) = truth_in name
literal_in _ = None

-- the value of the next token, where that is a literal or a bind variable
abbrev pub literal_first : List Placed → Option Value
literal_first [] = None
literal_first (p ∷ ps) = literal_in p.says

-- a text, and its value in a CAST
abbrev pub cast_text_in : Says → Option (List ℕ × Option Value)
cast_text_in (says.Text text path cast) = Some (text, cast)
cast_text_in _ = None

-- the text that the next token is, where it is one, and its value in a CAST
abbrev pub cast_text_first : List Placed → Option (List ℕ × Option Value)
cast_text_first [] = None
cast_text_first (p ∷ ps) = cast_text_in p.says

-- the kind of values (STRING, LONG, ..) that a token's word names, in any case
abbrev pub cast_kind_in : Says → Option Kind
cast_kind_in (says.Word name) = kind_of_word name
cast_kind_in _ = None

-- the kind of values (STRING, LONG, ..) that the next token names, where it names one
abbrev pub cast_kind_first : List Placed → Option Kind
cast_kind_first [] = None
cast_kind_first (p ∷ ps) = cast_kind_in p.says

-- the path that a token is: one in brackets, or a text that is a path
abbrev pub said_path : Says → Option (List (List ℕ))
said_path (says.Path path) = Some path
said_path (says.Text text path cast) = path
said_path _ = None

-- the path that the next token is, in brackets or as a text, where it is one
abbrev pub path_first : List Placed → Option (List (List ℕ))
path_first [] = None
path_first (p ∷ ps) = said_path p.says

-- a token is a name that a selector can have: a word, or a name in brackets
abbrev pub is_selector : Says → Bool
is_selector (says.Word name) = true
is_selector (says.Bracketed name) = true
is_selector _ = false

-- a name comes next, which is no path
abbrev pub selector_first : List Placed → Bool
selector_first [] = false
selector_first (p ∷ ps) = is_selector p.says
