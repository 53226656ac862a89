-- What a query that was read answers.
use Rattle.std.specs.Prelude.{◌≢◌, ◌↔◌, IsTrue, ℕ, Bool, false, List, Result, Err}
use Rattle.jr_path.specs.declared.name.Name.{Name}
use Rattle.jr_items.specs.Refusals.{no_query, wrong_kind}
use Rattle.jr_tree.specs.Trees.{Nodes}
use Rattle.jr_types.specs.declared.TypeDef.{TypeDef}
use Rattle.jr_value.specs.declared.value.Value.{Value}
use Rattle.sql_parse.specs.Grammar.{IsParsed}
use Rattle.sql_pieces.specs.declared.fault.SqlFault.{SqlFault}
use Rattle.sql_pieces.specs.declared.fault.SqlFault.TheVariants as fault
use Rattle.sql_query.specs.declared.query.Query.{Query}
use Rattle.jcr_call.specs.Reading.{AnswersRead}
use Rattle.jcr_past.specs.Shown.{is_refusal}

-- the text is why a text is no query
abbrev pub refuses_fault : List ℕ → SqlFault → Bool
refuses_fault text (fault.InvalidQuery offset) = is_refusal text (no_query offset)
refuses_fault text (fault.Cast asked given) = is_refusal text (wrong_kind asked given)
refuses_fault text fault.Memory = false

-- a query's text was read, and memory was not refused; and a text is what it answers just where b
-- is true
abbrev pub IsReadSo : List TypeDef → Nodes → (query : List ℕ) → List (Name × Value) → List ℕ
    → Bool → Type 0
IsReadSo types tree query vars text b = (p : Result Query SqlFault) × IsParsed query vars p
    × (IsTrue b ↔ AnswersRead types tree p text) × (p ≢ Err fault.Memory)
