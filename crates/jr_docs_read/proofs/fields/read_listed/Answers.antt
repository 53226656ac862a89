use Rattle.std.proofs.Common.{◌≡◌, ◌++◌, List, sym, ap, ◌∙◌}
use Rattle.std.specs.Borrow.{Bor}
use Rattle.std.specs.Option.{option_map}
use Rattle.serde_json.specs.View.{view}
use Rattle.serde_json.specs.declared.value.Value.{Value}
use Rattle.jr_docs.specs.Documents.{listed_data}
use Rattle.jr_docs_read.proofs.Answered.{weaker}
use Rattle.jr_docs_read.proofs.Items.{filled}
use Rattle.oak_doc.specs.declared.document.PrevEntry.{PrevEntry}
use Rattle.jr_docs_read.proofs.fields.read_listed.Goals as goal

pub returns-in-Some-clause-complete : goal.returns-in-Some-clause-complete
returns-in-Some-clause-complete c p es path listed is none =
    weaker (λ (u : Unit {0}). c.read_list.new.prev ≡ c.args.prev.now ++ es) _ c.read_list.result (λ u read. read ∙ ap (λ (xs : List PrevEntry). xs ++ es) none)
    (c.read_list.ensures.complete p es path listed (filled (listed_data p) es _ (sym (ap (option_map (λ (found : Bor Value). view found.now)) c.in-Some.is) ∙ is)))
