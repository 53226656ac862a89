-- What a query that was read answers.
use Rattle.std.specs.Prelude.{◌≡◌, ℕ, List, Option, None, Some, Result, Ok, Err, map}
use Rattle.jr_path.specs.declared.name.Name.{Name}
use Rattle.jr_items.specs.Refusals.{no_query, no_type, wrong_kind}
use Rattle.jr_tree.specs.Trees.{Nodes}
use Rattle.jr_types.specs.declared.TypeDef.{TypeDef}
use Rattle.jr_types.specs.Types.{subtypes}
use Rattle.sql_pieces.specs.declared.fault.SqlFault.{SqlFault}
use Rattle.sql_pieces.specs.declared.fault.SqlFault.TheVariants as fault
use Rattle.sql_query.specs.declared.query.Query.{Query}
use Rattle.sql_eval.specs.declared.row.Row.{Row}
use Rattle.sql_eval.specs.RowTexts.{rows_data}
use Rattle.sql_eval.specs.Rows.{AreRows}
use Rattle.jcr_trans.specs.Texts.{ok_text}
use Rattle.jcr_law.specs.Law.{no_text}
use Rattle.jcr_law.specs.Queries.{unknown_selector}

-- the text shows the rows of a query over a tree
abbrev pub ShowsRows : List TypeDef → Nodes → Query → List ℕ → Type 0
ShowsRows types tree q text = (rows : List Row)
    × AreRows q (map (subtypes types) q.types) tree rows × (text ≡ ok_text (rows_data rows))

-- a query's reply tells the first selector's type that nobody registered, or shows the rows
abbrev pub AnswersFor : Option Name → List TypeDef → Nodes → Query → List ℕ → Type 0
AnswersFor (Some n) types tree q text = text ≡ no_text (no_type n)
AnswersFor None types tree q text = ShowsRows types tree q text

-- the text tells that the type of a query's selector is not registered, or shows the rows of the
-- query over a tree
abbrev pub AnswersQuery : List TypeDef → Nodes → Query → List ℕ → Type 0
AnswersQuery types tree q text = AnswersFor (unknown_selector types q) types tree q text

-- a reply answers what a query's text was read as: a query, or why it is none
abbrev pub AnswersRead : List TypeDef → Nodes → Result Query SqlFault → List ℕ → Type 0
AnswersRead types tree (Ok q) text = AnswersQuery types tree q text
AnswersRead types tree (Err (fault.InvalidQuery offset)) text = text ≡ no_text (no_query offset)
AnswersRead types tree (Err (fault.Cast asked given)) text =
    text ≡ no_text (wrong_kind asked given)
AnswersRead types tree (Err fault.Memory) text = ⊥
