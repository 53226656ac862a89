-- The grammar of queries, read aloud: above each part stands its line. A keyword is read where the grammar has one and
-- a name can't stand; the words before `(` are such, and NOT unless what can follow a name, and is none itself, follows.
use Rattle.std.specs.Prelude.{◌≡◌, ℕ, ◌+◌, Bool, ◌&&◌, ◌||◌, not, List, [], ◌∷◌, ◌++◌, Option, None, Some, is_some, length, Result, Ok, Err, if◌then◌else◌, codes}
use Rattle.jr_value.specs.declared.value.Kind.{Kind}
use Rattle.jr_value.specs.declared.value.Kind.TheVariants as kind
use Rattle.jr_value.specs.declared.value.Value.{Value}
use Rattle.jr_value.specs.declared.value.Value.TheVariants as value
use Rattle.sql_pieces.specs.Firsts.{cast_kind_first, literal_first, path_first, selector_first, cast_text_first}
use Rattle.sql_pieces.specs.Leaves.{is_same_word}
use Rattle.sql_pieces.specs.Pieces.{IsReadAsSql}
use Rattle.sql_pieces.specs.Reading.{◌>>=◌, State, Read, after, behind, call_first, many, offset_at, required, read_sign, next_sign, word_at, word_first}
use Rattle.sql_pieces.specs.declared.fault.SqlFault.{SqlFault}
use Rattle.sql_pieces.specs.declared.fault.SqlFault.TheVariants as fault
use Rattle.sql_pieces.specs.declared.piece.Placed.{Placed}
use Rattle.sql_pieces.specs.declared.piece.Says.{Says}
use Rattle.sql_pieces.specs.declared.piece.Says.TheVariants as says
use Rattle.sql_pieces.specs.declared.piece.Sign.TheVariants as sign
use Rattle.sql_query.specs.declared.query.Query.{Query}
use Rattle.sql_query.specs.declared.query.PropertyOf.{PropertyOf}
use Rattle.sql_query.specs.declared.query.Operator.{Operator}
use Rattle.sql_query.specs.declared.query.Operator.TheVariants as operator
use Rattle.sql_query.specs.Trees.{AskedQuery, By, Look, Test, asked_of}
use Rattle.sql_query.specs.Trees as tree
use Rattle.sql_query.specs.declared.query.Direction.{Direction}
use Rattle.sql_query.specs.declared.query.Direction.TheVariants as direction
use Rattle.sql_select.specs.Selected.{Names, declared_at, only_at, read_property, is_all_read, selected_at}

-- ---- operands and values

-- ( property ), behind the function's word
abbrev pub property_call : Names → State → Read PropertyOf
property_call names s = do
  o ← read_sign sign.Open (after s)
  p ← read_property names o.1
  e ← read_sign sign.Close p.1
  Ok (p.0, e.1)

-- name ), behind the `(` of NAME or LOCALNAME, as the place of the selector with that name
abbrev pub selector_inside : Names → State → Read ℕ
selector_inside names s = do
  d ← declared_at names s
  e ← read_sign sign.Close d.1
  Ok (d.0, e.1)

-- `)` right behind the `(` of NAME or LOCALNAME, as the place of the query's only selector; a fault
-- where there is not exactly one
abbrev pub selector_only : Names → State → Read ℕ
selector_only names s = do
  p ← only_at names (offset_at s)
  Ok (p, after s)

-- ( [name] ), behind the function's word
abbrev pub selector_call : Names → State → Read ℕ
selector_call names s = do
  o ← read_sign sign.Open (after s)
  (if next_sign sign.Close o.1.pieces then selector_only names o.1 else selector_inside names o.1)

-- LENGTH(property), as an operand
abbrev pub length_operand : Names → State → Read Look
length_operand names s = do
  p ← property_call names s
  Ok (tree.Length p.0, p.1)

-- NAME([name]), as an operand: the name of a selector's node
abbrev pub name_operand : Names → State → Read Look
name_operand names s = do
  p ← selector_call names s
  Ok (tree.Name p.0, p.1)

-- LOCALNAME([name]), as an operand: the local name of a selector's node
abbrev pub local_name_operand : Names → State → Read Look
local_name_operand names s = do
  p ← selector_call names s
  Ok (tree.LocalName p.0, p.1)

-- a property, as an operand
abbrev pub property_operand : Names → State → Read Look
property_operand names s = do
  p ← read_property names s
  Ok (tree.Property p.0, p.1)

-- property | LENGTH(property) | NAME([name]) | LOCALNAME([name])
abbrev pub plain_operand : Names → State → Read Look
plain_operand names s =
    if call_first (codes "LENGTH") s.pieces then length_operand names s
    else (if call_first (codes "NAME") s.pieces then name_operand names s
    else (if call_first (codes "LOCALNAME") s.pieces then local_name_operand names s
    else property_operand names s))

-- ( operand ), behind the word LOWER or UPPER, where the given reader reads the operand
abbrev pub operand_call : (State → Read Look) → State → Read Look
operand_call inside s = do
  a ← read_sign sign.Open (after s)
  o ← inside a.1
  e ← read_sign sign.Close o.1
  Ok (o.0, e.1)

-- LOWER(operand), as an operand, where the given reader reads the operand inside
abbrev pub lower_operand : (State → Read Look) → State → Read Look
lower_operand inside s = do
  o ← operand_call inside s
  Ok (tree.Lower o.0, o.1)

-- UPPER(operand), as an operand, where the given reader reads the operand inside
abbrev pub upper_operand : (State → Read Look) → State → Read Look
upper_operand inside s = do
  o ← operand_call inside s
  Ok (tree.Upper o.0, o.1)

-- Each operand inside another takes a token, so there are no more of them than tokens.
-- operand = property | LENGTH(property) | NAME([name]) | LOCALNAME([name]) | LOWER(operand) | UPPER(operand)
abbrev pub operand_at : Names → List Placed → State → Read Look
operand_at names [] s = Err (offset_at s)
operand_at names (_ ∷ room) s =
    if call_first (codes "LOWER") s.pieces then lower_operand (operand_at names room) s
    else (if call_first (codes "UPPER") s.pieces then upper_operand (operand_at names room) s
    else plain_operand names s)

-- the operator of a comparison that a token is: =, <>, <, <=, >, >= or LIKE
abbrev pub operator_in : Says → Option Operator
operator_in (says.Sign sign.Equal) = Some operator.Equal
operator_in (says.Sign sign.Unequal) = Some operator.Unequal
operator_in (says.Sign sign.Less) = Some operator.Less
operator_in (says.Sign sign.AtMost) = Some operator.AtMost
operator_in (says.Sign sign.Greater) = Some operator.Greater
operator_in (says.Sign sign.AtLeast) = Some operator.AtLeast
operator_in (says.Word name) = if is_same_word (codes "LIKE") name then Some operator.Like else None
operator_in _ = None

-- the operator of a comparison that the next token is, where it is one
abbrev pub operator_first : List Placed → Option Operator
operator_first [] = None
operator_first (p ∷ ps) = operator_in p.says

-- op = = | <> | < | <= | > | >= | LIKE
abbrev pub operator_at : State → Read Operator
operator_at s = do
  o ← required (operator_first s.pieces) (offset_at s)
  Ok (o, after s)

-- text | number | TRUE | FALSE | $name, as the value of the literal or of the bind variable
abbrev pub literal_at : State → Read Value
literal_at s = do
  v ← required (literal_first s.pieces) (offset_at s)
  Ok (v, after s)

-- the text in a CAST, and the value that it has as the kind behind AS, where it has one
abbrev pub cast_text : State → Read (List ℕ × Option Value)
cast_text s = do
  t ← required (cast_text_first s.pieces) (offset_at s)
  Ok (t, after s)

-- the kind that a CAST names behind AS
abbrev pub kind_at : State → Read Kind
kind_at s = do
  k ← required (cast_kind_first s.pieces) (offset_at s)
  Ok (k, after s)

-- the kind noted by an earlier CAST that was refused, else the kind of the CAST read now
abbrev pub first_kind : Option Kind → Kind → Option Kind
first_kind (Some first) k = Some first
first_kind None k = Some k

-- the value of the kind; or where there is none, the kind is noted, and the text stands for the value
abbrev pub cast_value : Kind → List ℕ × Option Value → State → Value × State
cast_value k (text, Some v) s = (v, s)
cast_value k (text, None) s = (value.Str text, record { pieces = s.pieces; stop = s.stop; refused = first_kind s.refused k })

-- CAST(text AS kind)
abbrev pub cast_at : State → Read Value
cast_at s = do
  o ← read_sign sign.Open (after s)
  t ← cast_text o.1
  a ← word_at (codes "AS") t.1
  k ← kind_at a.1
  e ← read_sign sign.Close k.1
  Ok (cast_value k.0 t.0 e.1)

-- static = text | number | TRUE | FALSE | $name | CAST(text AS kind)
abbrev pub static_at : State → Read Value
static_at s = if word_first (codes "CAST") s.pieces then cast_at s else literal_at s

-- ---- conditions

-- a path, in brackets or as a text
abbrev pub read_path : State → Read (List (List ℕ))
read_path s = do
  p ← required (path_first s.pieces) (offset_at s)
  Ok (p, after s)

-- name , before a path, as the place of the selector with that name
abbrev pub selector_comma : Names → State → Read ℕ
selector_comma names s = do
  d ← declared_at names s
  c ← read_sign sign.Comma d.1
  Ok (d.0, c.1)

-- nothing before a path, as the place of the query's only selector; a fault where there is not
-- exactly one
abbrev pub no_selector : Names → State → Read ℕ
no_selector names s = do
  p ← only_at names (offset_at s)
  Ok (p, s)

-- [name ,]
abbrev pub selector_before : Names → State → Read ℕ
selector_before names s = if selector_first s.pieces then selector_comma names s else no_selector names s

-- ( [name ,] path ), behind the function's word
abbrev pub place_call : Names → State → Read (ℕ × List (List ℕ))
place_call names s = do
  o ← read_sign sign.Open (after s)
  d ← selector_before names o.1
  p ← read_path d.1
  e ← read_sign sign.Close p.1
  Ok ((d.0, p.0), e.1)

-- ISSAMENODE([name,] path), as the condition that a selector's node is the one at the path
abbrev pub same_test : Names → State → Read Test
same_test names s = do
  p ← place_call names s
  Ok (tree.Same p.0.0 p.0.1, p.1)

-- ISCHILDNODE([name,] path), as the condition that a selector's node is a child of the one at the
-- path
abbrev pub child_test : Names → State → Read Test
child_test names s = do
  p ← place_call names s
  Ok (tree.Child p.0.0 p.0.1, p.1)

-- ISDESCENDANTNODE([name,] path), as the condition that a selector's node is a descendant of the
-- one at the path
abbrev pub descendant_test : Names → State → Read Test
descendant_test names s = do
  p ← place_call names s
  Ok (tree.Descendant p.0.0 p.0.1, p.1)

-- op static
abbrev pub compared : Look → State → Read Test
compared o s = do
  op ← operator_at s
  v ← static_at op.1
  Ok (tree.Compare o op.0 v.0, v.1)

-- NOT NULL, behind IS
abbrev pub not_null : PropertyOf → State → Read Test
not_null p s = do
  n ← word_at (codes "NOT") s
  l ← word_at (codes "NULL") n.1
  Ok (tree.Has p, l.1)

-- only a property is followed by IS
abbrev pub tested : Look → State → Read Test
tested (tree.Property p) s = if word_first (codes "IS") s.pieces then not_null p (after s) else compared (tree.Property p) s
tested o s = compared o s

-- property IS NOT NULL | operand op static, as a condition
abbrev pub operand_test : Names → State → Read Test
operand_test names s = do
  o ← operand_at names s.pieces s
  tested o.0 o.1

-- property IS NOT NULL | operand op static
-- | ISSAMENODE([name,] path) | ISCHILDNODE([name,] path) | ISDESCENDANTNODE([name,] path)
unfoldable pub test_at : Names → State → Read Test
test_at names s =
    if call_first (codes "ISSAMENODE") s.pieces then same_test names s
    else (if call_first (codes "ISCHILDNODE") s.pieces then child_test names s
    else (if call_first (codes "ISDESCENDANTNODE") s.pieces then descendant_test names s
    else operand_test names s))

-- what can follow a property's first name in a condition comes next: `.`, an operator or IS
abbrev pub follows_name : List Placed → Bool
follows_name ps = next_sign sign.Dot ps || is_some (operator_first ps) || word_first (codes "IS") ps

-- a name comes next that what can follow a name follows; LIKE and IS too are names there
abbrev pub led_name_first : List Placed → Bool
led_name_first ps = selector_first ps && follows_name (behind ps)

-- NOT is the keyword unless what follows can follow a name and is none itself
abbrev pub not_first : List Placed → Bool
not_first ps = word_first (codes "NOT") ps && (not (follows_name (behind ps)) || led_name_first (behind ps))

-- AND and a condition that the given reader reads, together with the condition on the left of AND
abbrev pub and_more : (State → Read Test) → Test → State → Read Test
and_more term left s = do
  c ← term (after s)
  Ok (tree.And left c.0, c.1)

-- and = not {AND not}, where this reads `not`
abbrev pub and_with : (State → Read Test) → State → Read Test
and_with term s = do
  c ← term s
  many (word_first (codes "AND")) (and_more term) c.1.pieces c.0 c.1

-- OR and conditions joined by AND, together with the condition on the left of OR
abbrev pub or_more : (State → Read Test) → Test → State → Read Test
or_more term left s = do
  c ← and_with term (after s)
  Ok (tree.Or left c.0, c.1)

-- or = and {OR and}, where this reads `not`
abbrev pub or_with : (State → Read Test) → State → Read Test
or_with term s = do
  c ← and_with term s
  many (word_first (codes "OR")) (or_more term) c.1.pieces c.0 c.1

-- NOT and a condition that the given reader reads, as the negation of that condition
unfoldable pub negated : (State → Read Test) → State → Read Test
negated term s = do
  c ← term (after s)
  Ok (tree.Not c.0, c.1)

-- ( or ), where this reads `not`
unfoldable pub in_brackets : (State → Read Test) → State → Read Test
in_brackets term s = do
  c ← or_with term (after s)
  e ← read_sign sign.Close c.1
  Ok (c.0, e.1)

-- Each NOT and each `(` takes a token, so there are no more of them than tokens.
-- not = NOT not | primary; primary = ( or ) | ..
abbrev pub not_at : Names → List Placed → State → Read Test
not_at names [] s = Err (offset_at s)
not_at names (_ ∷ room) s =
    if not_first s.pieces then negated (not_at names room) s
    else (if next_sign sign.Open s.pieces then in_brackets (not_at names room) s
    else test_at names s)

-- the constraint behind WHERE
abbrev pub filter_named : Names → State → Read (Option Test)
filter_named names s = do
  c ← or_with (not_at names s.pieces) s
  Ok (Some c.0, c.1)

-- [WHERE or]
unfoldable pub filter_at : Names → State → Read (Option Test)
filter_at names s = if word_first (codes "WHERE") s.pieces then filter_named names (after s) else Ok (None, s)

-- ---- orders

-- [ASC | DESC]
abbrev pub direction_at : State → Read Direction
direction_at s =
    if word_first (codes "ASC") s.pieces then Ok (direction.Ascending, after s)
    else (if word_first (codes "DESC") s.pieces then Ok (direction.Descending, after s)
    else Ok (direction.Ascending, s))

-- order = operand [ASC | DESC]
abbrev pub order_at : Names → State → Read By
order_at names s = do
  o ← operand_at names s.pieces s
  d ← direction_at o.1
  Ok (record { look = o.0; direction = d.0 }, d.1)

-- one more ordering behind a comma, after the orderings read so far
abbrev pub order_more : Names → List By → State → Read (List By)
order_more names orders s = do
  o ← order_at names (after s)
  Ok (orders ++ o.0 ∷ [], o.1)

-- BY and the first ordering, behind ORDER
abbrev pub first_order : Names → State → Read (List By)
first_order names s = do
  b ← word_at (codes "BY") s
  o ← order_at names b.1
  Ok (o.0 ∷ [], o.1)

-- BY order {, order}, behind ORDER
abbrev pub order_list : Names → State → Read (List By)
order_list names s = do
  o ← first_order names s
  many (next_sign sign.Comma) (order_more names) o.1.pieces o.0 o.1

-- [ORDER BY order {, order}]
unfoldable pub orders_at : Names → State → Read (List By)
orders_at names s = if word_first (codes "ORDER") s.pieces then order_list names (after s) else Ok ([], s)

-- ---- queries

-- nothing is left
abbrev pub end_at : State → Result (Unit {0}) ℕ
end_at s = if is_all_read s.pieces then Ok tt else Err (offset_at s)

-- [WHERE or] [ORDER BY order {, order}], and the end
unfoldable pub rest_at : Names → State → Read (Option Test × List By)
rest_at names s = do
  f ← filter_at names s
  o ← orders_at names f.1
  e ← end_at o.1
  Ok ((f.0, o.0), o.1)

-- query = SELECT columns FROM selector {join} [WHERE or] [ORDER BY order {, order}]
abbrev pub query_at : State → Read AskedQuery
query_at s = do
  g ← selected_at s
  r ← rest_at g.0.0.names g.1
  Ok (record { types = g.0.0.types; joins = g.0.0.joins; columns = g.0.1; filter = r.0.0; orders = r.0.1 }, r.1)

-- before the first token
abbrev pub start : List Placed → ℕ → State
start pieces stop = record { pieces = pieces; stop = stop; refused = None }

-- What a text is answered that says these pieces and has this length: the query; or where it fails; or the kind of the
-- first CAST whose text has no value of that kind.
abbrev pub IsAnswer : List Placed → ℕ → Result Query SqlFault → Type 0
IsAnswer pieces stop (Ok query) = (s : State) × (query_at (start pieces stop) ≡ Ok (asked_of query, s)) × (s.refused ≡ None)
IsAnswer pieces stop (Err (fault.InvalidQuery offset)) = query_at (start pieces stop) ≡ Err offset
IsAnswer pieces stop (Err (fault.Cast k found)) =
    (found ≡ kind.Str) × (query : AskedQuery) × (s : State) × (query_at (start pieces stop) ≡ Ok (query, s)) × (s.refused ≡ Some k)
IsAnswer pieces stop (Err fault.Memory) = Unit {0}

-- What a text is answered, with the values of its bind variables.
abbrev pub IsParsed : List ℕ → List (List ℕ × Value) → Result Query SqlFault → Type 0
IsParsed text vars (Err fault.Memory) = Unit {0}
IsParsed text vars result = (pieces : List Placed) × IsReadAsSql text vars pieces × IsAnswer pieces (length text) result
