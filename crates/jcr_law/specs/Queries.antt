-- What a query answers (JSR 283, 6 Query), and what `events` does (12 Observation).
use Rattle.std.specs.Prelude.{◌≡◌, ℕ, List, [], Option, None, Some, is_none, map, Ok, Err}
use Rattle.std.specs.List.{find}
use Rattle.std.specs.Option.{option_map_or}
use Rattle.jr_path.specs.declared.name.Name.{Name}
use Rattle.jr_rev.specs.declared.vector.RevVec.{RevVec}
use Rattle.jr_value.specs.declared.value.Kind.{Kind}
use Rattle.jr_value.specs.declared.value.Value.{Value}
use Rattle.jr_tree.specs.Trees.{Nodes}
use Rattle.jr_items.specs.Refusals.{no_query, no_type, wrong_kind}
use Rattle.jr_types.specs.declared.TypeDef.{TypeDef}
use Rattle.jr_types.specs.Types.{subtypes, type_named}
use Rattle.sql_parse.specs.Grammar.{IsParsed}
use Rattle.sql_pieces.specs.declared.fault.SqlFault.TheVariants as fault
use Rattle.sql_query.specs.declared.query.Query.{Query}
use Rattle.sql_eval.specs.declared.row.Row.{Row}
use Rattle.sql_eval.specs.RowTexts.{rows_data}
use Rattle.sql_eval.specs.Rows.{AreRows}
use Rattle.oak_machine.specs.Changed.{changes_between}
use Rattle.oak_machine.specs.History.{Begin, Past}
use Rattle.jcr_observe.specs.declared.event.JcrEvent.{JcrEvent}
use Rattle.jcr_observe.specs.Observed.{observed_events}
use Rattle.jcr_observe.specs.Texts.{events_data}
use Rattle.jcr_trans.specs.Texts.{answer_text, ok_text}
use Rattle.jcr_read.specs.Reading.{refused}
use Rattle.jcr_law.specs.declared.state.Cursor.{Cursor}
use Rattle.jcr_law.specs.State.{Call}

-- the first selector's type that nobody registered
abbrev pub unknown_selector : List TypeDef → Query → Option Name
unknown_selector types q = find (λ n. is_none (type_named types n)) q.types

-- what a query answers, in this order of causes: it is none, a CAST has no value, a type of a
-- selector is unknown; else the rows
pub data QueryAnswers (c : Call) (text : List ℕ) (vars : List (Name × Value)) : List ℕ
    → Type 0 where
  wrong : (offset : ℕ) → IsParsed text vars (Err (fault.InvalidQuery offset))
      → QueryAnswers c text vars (answer_text (refused (no_query offset)))
  cast : (asked given : Kind) → IsParsed text vars (Err (fault.Cast asked given))
      → QueryAnswers c text vars (answer_text (refused (wrong_kind asked given)))
  untyped : (q : Query) (n : Name) → IsParsed text vars (Ok q)
      → unknown_selector c.types q ≡ Some n
      → QueryAnswers c text vars (answer_text (refused (no_type n)))
  rows : (q : Query) (rows : List Row) → IsParsed text vars (Ok q)
      → unknown_selector c.types q ≡ None → AreRows q (map (subtypes c.types) q.types) c.base rows
      → QueryAnswers c text vars (ok_text (rows_data rows))

-- the events since the cursor that pass, up to the base; none without a cursor
abbrev pub events_since : Begin → Past → (base : RevVec) → Option Cursor → List JcrEvent
events_since begin past base cursor = option_map_or
    (λ x. observed_events x.filter (changes_between begin past x.at base)) cursor []

-- the text of the reply that shows events
abbrev pub events_reply : List JcrEvent → List ℕ
events_reply es = ok_text (events_data es)
