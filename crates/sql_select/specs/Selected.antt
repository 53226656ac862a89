-- The grammar of a query as far as its selectors: names, columns, selectors and their joins. Above each part stands
-- its line.
use Rattle.std.specs.Prelude.{ℕ, ◌+◌, nat_lt, Bool, true, false, ◌&&◌, ◌||◌, List, [], ◌∷◌, ◌++◌, Option, None, Some, Result, Ok, Err, if◌then◌else◌, codes}
use Rattle.sql_pieces.specs.Leaves.{place_named}
use Rattle.sql_pieces.specs.Reading.{◌>>=◌, State, Read, after, any_name_at, behind, call_first, many, read_name, offset_at, required, read_sign, next_sign, word_at, word_first}
use Rattle.sql_pieces.specs.declared.piece.Placed.{Placed}
use Rattle.sql_pieces.specs.declared.piece.Sign.TheVariants as sign
use Rattle.sql_select.specs.declared.sources.Sources.{Sources}
use Rattle.sql_query.specs.declared.query.Join.{Join}
use Rattle.sql_query.specs.declared.query.JoinKind.{JoinKind}
use Rattle.sql_query.specs.declared.query.JoinKind.TheVariants as join
use Rattle.sql_query.specs.declared.query.On.{On}
use Rattle.sql_query.specs.declared.query.On.TheVariants as on
use Rattle.sql_query.specs.declared.query.PropertyOf.{PropertyOf}
use Rattle.sql_query.specs.declared.query.Column.{Column}
use Rattle.sql_query.specs.declared.query.Column.TheVariants as column

-- the names of the selectors, in order
abbrev pub Names : Type 0
Names = List (List ℕ)

-- ---- names of selectors and properties

-- there is one selector alone
abbrev pub is_one : Names → Bool
is_one [] = false
is_one (_ ∷ []) = true
is_one (_ ∷ _ ∷ _) = false

-- the name of a selector that is declared, as its place
abbrev pub declared_at : Names → State → Read ℕ
declared_at names s = do
  n ← read_name s
  p ← required (place_named names n.0) (offset_at s)
  Ok (p, n.1)

-- without a selector's name, the one there is; else the fault is at the offset
abbrev pub only_at : Names → ℕ → Result ℕ ℕ
only_at names at = if is_one names then Ok 0 else Err at

-- . name, behind a selector's name, of which is asked once the property is read
abbrev pub selector_property : Names → ℕ → List ℕ → State → Read PropertyOf
selector_property names at name s = do
  n ← read_name (after s)
  p ← required (place_named names name) at
  Ok (record { selector = p; name = n.0 }, n.1)

-- a property without a selector's name, of the query's only selector; where there is not exactly
-- one selector, a fault at the property's offset
abbrev pub bare_property : Names → ℕ → List ℕ → State → Read PropertyOf
bare_property names at name s = do
  p ← only_at names at
  Ok (record { selector = p; name = name }, s)

-- property = [name .] name
abbrev pub read_property : Names → State → Read PropertyOf
read_property names s = do
  n ← read_name s
  (if next_sign sign.Dot n.1.pieces then selector_property names (offset_at s) n.0 n.1 else bare_property names (offset_at s) n.0 n.1)

-- ---- columns

-- [AS name]
abbrev pub alias_at : State → Read (Unit {0})
alias_at s = if word_first (codes "AS") s.pieces then any_name_at (after s) else Ok (tt, s)

-- name.*
abbrev pub nodes_first : List Placed → Bool
nodes_first ps = next_sign sign.Dot (behind ps) && next_sign sign.Star (behind (behind ps))

-- name [AS name], behind the selector's name and `.` of a column, while the selectors aren't known
abbrev pub skim_dotted : State → Read (Option ℕ)
skim_dotted s = do
  n ← any_name_at s
  a ← alias_at n.1
  Ok (None, a.1)

-- [AS name], behind a property without a selector's name, as the property's offset
abbrev pub skim_bare : ℕ → State → Read (Option ℕ)
skim_bare at s = do
  a ← alias_at s
  Ok (Some at, a.1)

-- A column as long as the selectors aren't known: the offset of a property without a selector's name.
-- column = name.* | property [AS name]
abbrev pub skim_column : State → Read (Option ℕ)
skim_column s = do
  n ← any_name_at s
  (if next_sign sign.Dot n.1.pieces
      then (if next_sign sign.Star (behind n.1.pieces) then Ok (None, after (after n.1)) else skim_dotted (after n.1))
      else skim_bare (offset_at s) n.1)

-- the first offset, or where there is none the second
abbrev pub first_offset : Option ℕ → Option ℕ → Option ℕ
first_offset (Some a) b = Some a
first_offset None b = b

-- One more column behind a comma, while the selectors aren't known: the offset of the first
-- property without a selector's name, in it or in the columns before.
abbrev pub skim_more : Option ℕ → State → Read (Option ℕ)
skim_more bare s = do
  c ← skim_column (after s)
  Ok (first_offset bare c.0, c.1)

-- column {, column} while the selectors aren't known, as the offset of the first property without a
-- selector's name
abbrev pub skim_list : State → Read (Option ℕ)
skim_list s = do
  c ← skim_column s
  many (next_sign sign.Comma) skim_more c.1.pieces c.0 c.1

-- The columns as long as the selectors aren't known: the offset of the first property without a selector's name.
-- columns = * | column {, column}
abbrev pub skim_columns : State → Read (Option ℕ)
skim_columns s = if next_sign sign.Star s.pieces then Ok (None, after s) else skim_list s

-- name.*, as the column of the node of the selector with that name
abbrev pub nodes_column : Names → State → Read Column
nodes_column names s = do
  p ← declared_at names s
  Ok (column.Node p.0, after (after p.1))

-- property [AS name], as the column of that property; the name behind AS means nothing
abbrev pub property_column : Names → State → Read Column
property_column names s = do
  p ← read_property names s
  a ← alias_at p.1
  Ok (column.Property p.0, a.1)

-- column = name.* | property [AS name], where the selectors are known
abbrev pub column_at : Names → State → Read Column
column_at names s = if nodes_first s.pieces then nodes_column names s else property_column names s

-- one more column behind a comma, after the columns read so far
abbrev pub column_more : Names → List Column → State → Read (List Column)
column_more names columns s = do
  c ← column_at names (after s)
  Ok (columns ++ c.0 ∷ [], c.1)

-- the first column of a list of columns
abbrev pub first_column : Names → State → Read (List Column)
first_column names s = do
  c ← column_at names s
  Ok (c.0 ∷ [], c.1)

-- column {, column}, where the selectors are known
abbrev pub column_list : Names → State → Read (List Column)
column_list names s = do
  c ← first_column names s
  many (next_sign sign.Comma) (column_more names) c.1.pieces c.0 c.1

-- the node of each selector, from a place on (below 2^32)
abbrev pub node_columns : ℕ → Names → List Column
node_columns at [] = []
node_columns at (_ ∷ names) = column.Node at ∷ (if nat_lt (at + 1) 4294967296 then node_columns (at + 1) names else [])

-- columns = * | column {, column}
abbrev pub columns_at : Names → State → Read (List Column)
columns_at names s = if next_sign sign.Star s.pieces then Ok (node_columns 0 names, after s) else column_list names s

-- ---- selectors and joins

-- the name of a selector, behind AS, with the selector's node type
abbrev pub selector_named : List ℕ → State → Read (List ℕ × List ℕ)
selector_named type s = do
  n ← read_name s
  Ok ((type, n.0), n.1)

-- The type and the name of a selector; without AS the type's name is its name.
-- selector = name [AS name]
abbrev pub selector_at : State → Read (List ℕ × List ℕ)
selector_at s = do
  t ← read_name s
  (if word_first (codes "AS") t.1.pieces then selector_named t.0 (after t.1) else Ok ((t.0, t.0), t.1))

-- a join comes next: one of the words JOIN, INNER, LEFT and RIGHT
abbrev pub join_first : List Placed → Bool
join_first ps = word_first (codes "JOIN") ps || word_first (codes "INNER") ps || word_first (codes "LEFT") ps || word_first (codes "RIGHT") ps

-- JOIN, behind INNER, as the kind of join
abbrev pub inner_join : State → Read JoinKind
inner_join s = do
  j ← word_at (codes "JOIN") s
  Ok (join.Inner, j.1)

-- OUTER JOIN, behind LEFT or RIGHT, as the kind of join that the word before OUTER says
abbrev pub outer_join : JoinKind → State → Read JoinKind
outer_join kind s = do
  o ← word_at (codes "OUTER") s
  j ← word_at (codes "JOIN") o.1
  Ok (kind, j.1)

-- [INNER | LEFT OUTER | RIGHT OUTER] JOIN
abbrev pub join_kind_at : State → Read JoinKind
join_kind_at s =
    if word_first (codes "JOIN") s.pieces then Ok (join.Inner, after s)
    else (if word_first (codes "INNER") s.pieces then inner_join (after s)
    else (if word_first (codes "LEFT") s.pieces then outer_join join.LeftOuter (after s)
    else outer_join join.RightOuter (after s)))

-- ( name , name ), behind the function's word
abbrev pub pair_at : Names → State → Read (ℕ × ℕ)
pair_at names s = do
  o ← read_sign sign.Open (after s)
  a ← declared_at names o.1
  c ← read_sign sign.Comma a.1
  b ← declared_at names c.1
  e ← read_sign sign.Close b.1
  Ok ((a.0, b.0), e.1)

-- ISSAMENODE(name, name): two selectors are joined where their nodes are one
abbrev pub same_nodes : Names → State → Read On
same_nodes names s = do
  p ← pair_at names s
  Ok (on.Same p.0.0 p.0.1, p.1)

-- ISCHILDNODE(name, name): two selectors are joined where the first's node is a child of the
-- second's
abbrev pub child_nodes : Names → State → Read On
child_nodes names s = do
  p ← pair_at names s
  Ok (on.Child p.0.0 p.0.1, p.1)

-- ISDESCENDANTNODE(name, name): two selectors are joined where the first's node is a descendant of
-- the second's
abbrev pub descendant_nodes : Names → State → Read On
descendant_nodes names s = do
  p ← pair_at names s
  Ok (on.Descendant p.0.0 p.0.1, p.1)

-- property = property: two selectors are joined where properties of their nodes are equal
abbrev pub equal_properties : Names → State → Read On
equal_properties names s = do
  p ← read_property names s
  e ← read_sign sign.Equal p.1
  q ← read_property names e.1
  Ok (on.Equal p.0 q.0, q.1)

-- on = property = property | ISSAMENODE(name, name) | ISCHILDNODE(name, name) | ISDESCENDANTNODE(name, name)
abbrev pub on_at : Names → State → Read On
on_at names s =
    if call_first (codes "ISSAMENODE") s.pieces then same_nodes names s
    else (if call_first (codes "ISCHILDNODE") s.pieces then child_nodes names s
    else (if call_first (codes "ISDESCENDANTNODE") s.pieces then descendant_nodes names s
    else equal_properties names s))

-- a property without a selector's name is a fault where there are several selectors
abbrev pub no_bare : Option ℕ → Result (Unit {0}) ℕ
no_bare None = Ok tt
no_bare (Some at) = Err at

-- the sources with one more selector, given by its node type and its name, and with its join
abbrev pub with_join : Sources → List ℕ × List ℕ → Join → Sources
with_join sources t j = record { types = sources.types ++ t.0 ∷ []; names = sources.names ++ t.1 ∷ []; joins = sources.joins ++ j ∷ [] }

-- Only the selectors up to its own are declared in a join's condition.
-- join = [INNER | LEFT OUTER | RIGHT OUTER] JOIN selector ON on
abbrev pub join_at : Option ℕ → Sources → State → Read Sources
join_at bare sources s = do
  k ← join_kind_at s
  t ← selector_at k.1
  b ← no_bare bare
  w ← word_at (codes "ON") t.1
  o ← on_at (sources.names ++ t.0.1 ∷ []) w.1
  Ok (with_join sources t.0 (record { kind = k.0; on = o.0 }), o.1)

-- the first selector of a query, as sources with no join yet
abbrev pub source_at : State → Read Sources
source_at s = do
  t ← selector_at s
  Ok (record { types = t.0.0 ∷ []; names = t.0.1 ∷ []; joins = [] }, t.1)

-- selector {join}
abbrev pub sources_at : Option ℕ → State → Read Sources
sources_at bare s = do
  t ← source_at s
  many join_first (join_at bare) t.1.pieces t.0 t.1

-- ---- selectors as far as the grammar reads them, whatever the names in ON mean

-- property = [name .] name
abbrev pub skim_property : State → Read (Unit {0})
skim_property s = do
  n ← any_name_at s
  (if next_sign sign.Dot n.1.pieces then any_name_at (after n.1) else Ok (tt, n.1))

-- ( name , name ), behind the function's word
abbrev pub skim_pair : State → Read (Unit {0})
skim_pair s = do
  o ← read_sign sign.Open (after s)
  a ← any_name_at o.1
  c ← read_sign sign.Comma a.1
  b ← any_name_at c.1
  read_sign sign.Close b.1

-- property = property
abbrev pub skim_equal : State → Read (Unit {0})
skim_equal s = do
  p ← skim_property s
  e ← read_sign sign.Equal p.1
  skim_property e.1

-- a join's condition on two nodes comes next: ISSAMENODE, ISCHILDNODE or ISDESCENDANTNODE, and `(`
abbrev pub pair_first : List Placed → Bool
pair_first ps = call_first (codes "ISSAMENODE") ps || call_first (codes "ISCHILDNODE") ps || call_first (codes "ISDESCENDANTNODE") ps

-- on = property = property | ISSAMENODE(name, name) | ISCHILDNODE(name, name) | ISDESCENDANTNODE(name, name)
abbrev pub skim_on : State → Read (Unit {0})
skim_on s = if pair_first s.pieces then skim_pair s else skim_equal s

-- ON on
abbrev pub skim_condition : State → Read (Unit {0})
skim_condition s = do
  w ← word_at (codes "ON") s
  skim_on w.1

-- the name of a selector
abbrev pub skim_selector : State → Read (List ℕ)
skim_selector s = do
  t ← selector_at s
  Ok (t.0.1, t.1)

-- A join, as the name of its selector.
-- join = [INNER | LEFT OUTER | RIGHT OUTER] JOIN selector ON on
abbrev pub skim_join : State → Read (List ℕ)
skim_join s = do
  k ← join_kind_at s
  n ← skim_selector k.1
  c ← skim_condition n.1
  Ok (n.0, c.1)

-- one more join, as the selectors' names read so far and that of its selector
abbrev pub names_more : Names → State → Read Names
names_more names s = do
  n ← skim_join s
  Ok (names ++ n.0 ∷ [], n.1)

-- the first selector of a query, as a list of its name alone
abbrev pub first_selector : State → Read Names
first_selector s = do
  n ← skim_selector s
  Ok (n.0 ∷ [], n.1)

-- selector {join}, as the names of the selectors
abbrev pub skim_sources : State → Read Names
skim_sources s = do
  n ← first_selector s
  many join_first names_more n.1.pieces n.0 n.1

-- ---- as far as the selectors

-- no tokens are left
abbrev pub is_all_read : List Placed → Bool
is_all_read [] = true
is_all_read (_ ∷ _) = false

-- the list of selectors is whole where WHERE, ORDER or the end comes
abbrev pub is_whole : List Placed → Bool
is_whole ps = is_all_read ps || word_first (codes "WHERE") ps || word_first (codes "ORDER") ps

-- a fault at what comes next unless the list of selectors ends there, with WHERE, ORDER or the end
abbrev pub whole_at : State → Result (Unit {0}) ℕ
whole_at s = if is_whole s.pieces then Ok tt else Err (offset_at s)

-- columns FROM selector {join}, as far as the selectors
abbrev pub froms_at : State → Read Sources
froms_at s = do
  b ← skim_columns s
  f ← word_at (codes "FROM") b.1
  g ← sources_at b.0 f.1
  w ← whole_at g.1
  Ok (g.0, g.1)

-- columns FROM selector {join}, as the names of the selectors, whatever the names in ON mean
abbrev pub skim_froms : State → Read Names
skim_froms s = do
  b ← skim_columns s
  f ← word_at (codes "FROM") b.1
  n ← skim_sources f.1
  w ← whole_at n.1
  Ok n

-- the columns name selectors of these
abbrev pub columns_named : Names → State → Result (Unit {0}) ℕ
columns_named names s = do
  c ← columns_at names s
  Ok tt

-- the columns name selectors that are there, once the selectors are whole
abbrev pub columns_stand : State → Read Names → Result (Unit {0}) ℕ
columns_stand s (Ok n) = columns_named n.0 s
columns_stand s (Err at) = Ok tt

-- A fault in the columns' names stands before one behind them.
abbrev pub columns_before : State → Read Sources → Read Sources
columns_before s (Ok g) = Ok g
columns_before s (Err at) = do
  c ← columns_stand s (skim_froms s)
  Err at

-- The names in the columns mean something only once the selectors are known, so the columns are read twice.
-- SELECT columns FROM selector {join}
unfoldable pub selected_at : State → Read (Sources × List Column)
selected_at s = do
  a ← word_at (codes "SELECT") s
  g ← columns_before a.1 (froms_at a.1)
  c ← columns_at g.0.names a.1
  Ok ((g.0, c.0), g.1)
