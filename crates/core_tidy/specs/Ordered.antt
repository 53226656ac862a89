-- Documents whose entries are in order, and steps of a table.
use Rattle.std.specs.Prelude.{◌≡◌, Some}
use Rattle.jr_path.specs.declared.path.DocId.{DocId}
use Rattle.oak_doc.specs.declared.document.Document.{Document}
use Rattle.oak_prev.specs.Splits.{IsInOrder}
use Rattle.oak_read.specs.Meaning.{documents_in}
use Rattle.oak_store.specs.Tables.{Table}
use Rattle.core_world.specs.Numbers.{IsNumberStep}

-- the entries of each document are in order
abbrev pub AreAllInOrder : Table → Type 0
AreAllInOrder t = (i : DocId) (d : Document) → documents_in t.documents i ≡ Some d → IsInOrder d

-- numbers come once, and entries stay in order
pub record IsTableStep (t u : Table) : Type 0 where
  pub numbers : IsNumberStep t u
  pub order : AreAllInOrder t → AreAllInOrder u
