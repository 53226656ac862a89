-- Numbers of documents, which come once below the last one, and what a split keeps of the document
-- that it has read.
use Rattle.std.specs.Prelude.{◌≡◌, ◌⊎◌, ◌≤◌, ◌<◌, ◌-◌, ◌^◌, ℕ, Some, is_some, IsTrue}
use Rattle.jr_path.specs.declared.name.Name.{Name}
use Rattle.jr_path.specs.declared.path.DocId.{DocId}
use Rattle.jr_path.specs.declared.path.DocId.TheVariants as id
use Rattle.jr_path.specs.declared.path.Path.{Path}
use Rattle.jr_rev.specs.declared.revision.Revision.{Revision}
use Rattle.jr_rev.specs.declared.vector.Pin.{Pin}
use Rattle.jr_rev.specs.Vectors.{sees}
use Rattle.oak_doc.specs.declared.document.Document.{Document}
use Rattle.oak_doc.specs.Updates.{of_revision, values_of_property}
use Rattle.oak_machine.specs.History.{Past}
use Rattle.oak_read.specs.Meaning.{Documents, documents_in}
use Rattle.oak_store.specs.Tables.{Table, next_number}
use Rattle.core_keep.specs.Formers.{Former, Formers}
use Rattle.core_keep.specs.Splits.{IsInOrder}
use Rattle.core_read.specs.Holds.{has_revision}
use Rattle.core_world.specs.States.{nodes_in}
use Rattle.core_keep.specs.Keeps.{is_done}
use Rattle.core_keep.specs.From.{course_from}
use Rattle.oak_machine.specs.declared.event.Start.{Start}
use Rattle.core_begun.specs.Told.{edit_since}

-- the last number, at which numbers stay
abbrev pub last_number : ℕ
last_number = 2 ^ 64 - 1

-- a step of a table: its number doesn't fall, and a document that wasn't there has the next one
pub record IsNumberStep (t u : Table) : Type 0 where
  pub rises : t.number ≤ u.number
  pub new : (i : DocId) (d : Document) → documents_in u.documents i ≡ Some d
      → (documents_in t.documents i ≡ Some d)
      ⊎ ((d.mod_count ≡ next_number t) × (u.number ≡ next_number t))

-- a number is behind the node at p: it is below the last one, the table has come to it, and the
-- node's document has another
pub record IsPassed (t : Table) (p : Path) (k : ℕ) : Type 0 where
  pub early : k < last_number
  pub within : k ≤ t.number
  pub other : (d : Document) → nodes_in t p ≡ Some d → d.mod_count ≡ k → ⊥

-- no document has a number above the table's, which is at most the last one; and each number of a
-- former document is behind its node
pub record AreNumbered (t : Table) (formers : Formers) : Type 0 where
  pub low : t.number ≤ last_number
  pub within : (i : DocId) (d : Document) → documents_in t.documents i ≡ Some d
      → d.mod_count ≤ t.number
  pub passed : (p : Path) (k : ℕ) (f : Former) → formers p k ≡ Some f → IsPassed t p k

-- a document was read at an id: what has its number there, below the last one, is that document
pub record IsReadIn (t : Table) (i : DocId) (old : Document) : Type 0 where
  pub within : old.mod_count ≤ t.number
  pub same : old.mod_count < last_number → (d : Document) → documents_in t.documents i ≡ Some d
      → d.mod_count ≡ old.mod_count → d ≡ old

-- a split at a pin has read the document of the node at p, and knows commit roots: what its sweep
-- vector sees there and what they say is committed; and where a previous document of its number was
-- listed meanwhile, it is the former document, and what is committed that the pin sees was
-- committed then
pub record IsSplitting (start : Start) (past : Past) (t : Table) (formers : Formers)
    (known : Documents) (pin : Pin)
    (p : Path) (old : Document) : Type 0 where
  pub named : old.id ≡ id.Node p
  pub order : IsInOrder old
  pub read : IsReadIn t (id.Node p) old
  pub swept : (n : Name) (r : Revision)
      → IsTrue (is_some (of_revision (values_of_property old.props n) r))
      → IsTrue (sees pin.sweep r) → IsTrue (is_done (course_from start past) r)
  pub said : (q : Path) (d : Document) → known (id.Node q) ≡ Some d → (r : Revision)
      → IsTrue (has_revision (Some d) r) → IsTrue (is_done (course_from start past) r)
  pub former : (f : Former) → formers p old.mod_count ≡ Some f
      → (f.document ≡ old)
      × ((r : Revision) → IsTrue (sees pin.base r) → IsTrue (is_done (course_from start past) r)
      → IsTrue (f.done r))
