-- What a repository that is opened from documents begins with.
use Rattle.std.specs.Prelude.{◌≤◌, ℕ, List, [], is_some, IsTrue}
use Rattle.jr_docs_read.specs.Printed.{IsPlain}
use Rattle.jr_path.specs.declared.path.DocId.TheVariants.{Node}
use Rattle.oak_doc.specs.declared.document.Document.{Document}
use Rattle.oak_machine.specs.declared.event.Start.{Start}
use Rattle.oak_read.specs.Meaning.{Documents, documents_in}
use Rattle.oak_store.specs.Tables.{by_id}
use Rattle.oak_sound.specs.Meant.{opened_at, opened_tree}
use Rattle.oak_sound.specs.Sound.{AreSoundDocuments}
use Rattle.oak_open.specs.Opening.{opened_table}
use Rattle.core_read.specs.Told.{IsIn}
use Rattle.core_read.specs.Writes.{IsOrderedDocument}

-- the start that documents show: the tree that they open with, at how far they are committed
abbrev pub shown_start : ℕ → List Document → Start
shown_start clusters ds = record {
  tree = opened_tree clusters (by_id ds);
  at = opened_at clusters (by_id ds);
}

-- the documents that a repository begins with, of so many cluster nodes and for so many sessions
abbrev pub begun_documents : ℕ → ℕ → List Document → Documents
begun_documents clusters sessions ds =
    documents_in (opened_table clusters sessions (by_id ds)).documents

-- documents that one opens with
pub record AreOpenable (clusters : ℕ) (ds : List Document) : Type 0 where
  -- of one to eight cluster nodes
  pub nodes : (1 ≤ clusters) × (clusters ≤ 8)
  -- the documents keep the rules
  pub sound : AreSoundDocuments clusters (by_id ds)
  -- the root's is among them
  pub root : IsTrue (is_some (documents_in (by_id ds) (Node [])))
  -- the names of their properties rise, as those of each document in code do
  pub ordered : (d : Document) → IsIn d ds → IsOrderedDocument d
  -- no previous document has an entry of `_deleted`, as none that is read has
  pub plain : (d : Document) → IsIn d ds → IsPlain d
