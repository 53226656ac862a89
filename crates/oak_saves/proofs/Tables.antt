-- What an update that is answered has made.
use Rattle.std.proofs.Common.{Option, Ok, sym, ap, ◌∙◌}
use Rattle.oak_doc.specs.declared.document.Document.{Document}
use Rattle.oak_doc.specs.declared.update.UpdateOp.{UpdateOp}
use Rattle.oak_doc.specs.Updates.{updated}
use Rattle.oak_store.specs.Tables.{Table, Updates, next_number}
use Rattle.oak_saves.specs.Saves.{IsUpdateMade}

-- an update that is answered with the document before is made
pub made_is : (old new : Table) (op : UpdateOp) (before : Option Document) → Updates old new op (Ok before) → IsUpdateMade old new op
made_is old new op before u = record { document = u.1; result = ap (λ (b : Option Document). updated b op (next_number old)) (sym u.0) ∙ u.2; table = u.3 }
