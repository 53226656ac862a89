-- Splits and collections in a world, step by step: what a split writes and lists, what a collection
-- drops and removes.
use Rattle.std.specs.Ordering.{eq_by_cmp}
use Rattle.jr_path.specs.Names.{path_cmp}
use Rattle.std.specs.Prelude.{◌≡◌, [], ◌∷◌, ◌&&◌, ℕ, List, Some, None, is_some, IsTrue, IsFalse}
use Rattle.std.specs.BTreeMap.{is_at}
use Rattle.std.specs.FinMap.{is_sorted}
use Rattle.std.specs.Map.{remove_entry}
use Rattle.jr_path.specs.Ids.{id_cmp}
use Rattle.jr_path.specs.declared.name.Name.{Name}
use Rattle.jr_path.specs.declared.path.DocId.{DocId}
use Rattle.jr_path.specs.declared.path.DocId.TheVariants as id
use Rattle.jr_path.specs.declared.path.Path.{Path}
use Rattle.jr_rev.specs.declared.revision.Revision.{Revision}
use Rattle.jr_rev.specs.declared.vector.Pin.{Pin}
use Rattle.jr_rev.specs.declared.vector.RevVec.{RevVec}
use Rattle.jr_rev.specs.Vectors.{sees}
use Rattle.oak_doc.specs.declared.document.Document.{Document}
use Rattle.oak_doc.specs.declared.document.PrevEntry.{PrevEntry}
use Rattle.oak_doc.specs.declared.update.EntryKey.{EntryKey}
use Rattle.oak_doc.specs.declared.update.UpdateOp.{UpdateOp}
use Rattle.oak_doc.specs.Updates.{after_changes, of_revision, values_of_property}
use Rattle.oak_machine.specs.declared.event.Event.TheVariants as event
use Rattle.oak_machine.specs.declared.event.StepKind.{StepKind}
use Rattle.oak_machine.specs.declared.event.StepKind.TheVariants as kind
use Rattle.oak_read.specs.Meaning.{Documents, documents_in, is_committed}
use Rattle.oak_store.specs.Tables.{Table, next_number, with_document}
use Rattle.core_keep.specs.Dropping.{DropsGarbage}
use Rattle.core_keep.specs.Garbage.{is_garbage_document}
use Rattle.core_keep.specs.Splits.{main_write, previous_write, IsInOrder}
use Rattle.core_read.specs.Writes.{IsOrderedDocument}
use Rattle.core_keep.specs.Formers.{former_now, with_former}
use Rattle.core_keep.specs.Steps.{IsUnlisted}
use Rattle.core_clash.specs.Collecting.{IsBoundOf}
use Rattle.core_world.specs.States.{State, origin}
use Rattle.core_keep.specs.Keeps.{is_done}
use Rattle.core_keep.specs.From.{course_from}
use Rattle.core_begun.specs.Told.{edit_since}

-- the documents without one
abbrev pub without : Table → DocId → Table
without t i = record t { documents = remove_entry (is_at (id_cmp i)) t.documents }

-- session s has taken a step that changes documents: they are these now
abbrev pub after_change : State → ℕ → StepKind → Table → State
after_change w s k u = record w { past = event.Went s k ∷ w.past; table = u }

-- a split writes a previous document
abbrev pub after_copied : State → ℕ → Path → ℕ → Document → State
after_copied w s p k x =
    after_change w s kind.Split (with_document w.table (id.Prev k p) x (next_number w.table))

-- and takes what moved from the document, which lists the previous one now and becomes a former one
abbrev pub split_now : State → Documents → Pin → Document → PrevEntry → Document
split_now w read pin old e =
    after_changes (Some old) (main_write read pin old e) (next_number w.table)

-- a split moves values of a document into a previous one that its node lists
abbrev pub after_split : State → ℕ → Documents → Pin → Path → Document → PrevEntry → State
after_split w s read pin p old e =
    let t = with_document w.table (id.Node p) (split_now w read pin old e) (next_number w.table) in
    record (after_change w s kind.Split t) {
      formers = with_former w.formers p e.number (former_now (course_from (origin w) w.past) old);
    }

-- a document has the number that the split has read, and what counts in the documents that it has
-- read is committed; the previous document is as it wrote it
pub record MaySplit (w : State) (read : Documents) (pin : Pin) (p : Path) (old : Document)
    (e : PrevEntry) : Type 0 where
  pub there : documents_in w.table.documents (id.Node p) ≡ Some old
  pub order : IsInOrder old
  pub number : e.number ≡ old.mod_count
  pub counted : (n : Name) (r : Revision)
      → IsTrue (is_some (of_revision (values_of_property old.props n) r))
      → IsTrue (sees pin.base r && is_committed read pin.sweep old r)
      → IsTrue (is_done (course_from (origin w) w.past) r)
  pub first : ℕ
  pub copied : documents_in w.table.documents (id.Prev e.number p)
      ≡ Some (after_changes None (previous_write read pin old) first)

-- a split that finds another document of the node than it read takes away the previous document
-- that it wrote
abbrev pub after_taken_back : State → ℕ → DocId → State
after_taken_back w s i = after_change w s kind.Split (without w.table i)

-- a collection drops garbage of a bound from a document, and unlists previous ones
abbrev pub after_pruned : State → ℕ → Path → Document → UpdateOp → State
after_pruned w s p old op =
    after_change w s kind.Collect
    (with_document w.table (id.Node p) (after_changes (Some old) op (next_number w.table))
    (next_number w.table))

-- a collection may take this garbage from a document
pub record MayPrune (w : State) (m t : RevVec) (p : Path) (old : Document) (op : UpdateOp)
    : Type 0 where
  pub bound : IsBoundOf w.past m t
  pub there : documents_in w.table.documents (id.Node p) ≡ Some old
  pub order : IsOrderedDocument old
  pub keys : List EntryKey
  pub numbers : List ℕ
  pub garbage : DropsGarbage (documents_in w.table.documents) m t p old op keys numbers

-- a document goes: a previous one that isn't listed, or that of an absent node, where it is garbage
-- of a bound
abbrev pub after_removed : State → ℕ → DocId → State
after_removed w s i = after_change w s kind.Collect (without w.table i)

-- a collection may take away a node's document that is garbage, below the root
pub record MayRemove (w : State) (m t : RevVec) (p : Path) (old : Document) : Type 0 where
  pub bound : IsBoundOf w.past m t
  pub sorted : IsTrue (is_sorted id_cmp w.table.documents)
  pub below : IsFalse (eq_by_cmp path_cmp [] p)
  pub there : documents_in w.table.documents (id.Node p) ≡ Some old
  pub garbage : IsTrue (is_garbage_document m t old)

-- a previous document that its node doesn't list may be taken away
pub record MayRemovePrevious (w : State) (p : Path) (k : ℕ) : Type 0 where
  pub sorted : IsTrue (is_sorted id_cmp w.table.documents)
  pub unlisted : IsUnlisted (documents_in w.table.documents) p k
