use Rattle.std.proofs.Common.{◌≡◌, take}
use Rattle.std.specs.Prelude.{map}
use Rattle.serde_json.specs.View.{view}
use Rattle.jr_docs.specs.Documents.{prev_data}
use Rattle.jr_docs.proofs.writing.listed_json.Given as goal

abbrev pub invariant-loop-entry : goal.invariant-loop-entry
invariant-loop-entry l = map view l.items.items ≡ map (prev_data l.path) (take l.entry-index l.prev)
