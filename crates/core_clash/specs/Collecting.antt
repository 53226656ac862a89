-- What comes between the steps of committers where documents are split and collected: bounds,
-- updates that drop garbage, documents that go, and what a split moves.
use Rattle.std.specs.Prelude.{◌≡◌, ◌+◌, ◌⊎◌, ℕ, Bool, true, false, ◌&&◌, ◌||◌, cond, List, [], ◌∷◌, None, Some, is_some}
use Rattle.std.specs.List.{filter, list_any}
use Rattle.jr_path.specs.declared.path.Path.{Path}
use Rattle.jr_path.specs.declared.name.Name.{Name}
use Rattle.jr_rev.specs.declared.revision.Revision.{Revision}
use Rattle.jr_rev.specs.declared.vector.Pin.{Pin}
use Rattle.jr_rev.specs.declared.vector.RevVec.{RevVec}
use Rattle.jr_rev.specs.Vectors.{sees}
use Rattle.oak_clash.specs.declared.mark.Mark.{Mark}
use Rattle.oak_doc.specs.declared.document.Document.{Document}
use Rattle.oak_doc.specs.declared.document.PrevEntry.{PrevEntry}
use Rattle.oak_doc.specs.declared.update.EntryKey.{EntryKey}
use Rattle.oak_doc.specs.declared.update.UpdateOp.{UpdateOp}
use Rattle.oak_doc.specs.Updates.{after_changes, of_revision, values_of_property}
use Rattle.oak_read.specs.Meaning.{Documents, is_committed as is_said}
use Rattle.oak_machine.specs.declared.event.Event.{Event}
use Rattle.oak_machine.specs.History.{Past}
use Rattle.oak_machine.specs.Commits.{is_committed, is_in_base, is_in_flight}
use Rattle.core_keep.specs.Journal.{is_bounded, is_swept}
use Rattle.core_keep.specs.Dropping.{DropsGarbage}
use Rattle.core_keep.specs.Garbage.{is_garbage_document, is_garbage_previous}
use Rattle.core_keep.specs.Splits.{main_write, previous_write, IsInOrder}
use Rattle.core_clash.specs.Views.{In}
use Rattle.core_clash.specs.Core.{Core, is_path, with_document}
use Rattle.core_clash.specs.Sound.{has_moved}

-- the base of a draw sees all that bounds so far see
abbrev pub SeesBounded : Past → RevVec → Type 0
SeesBounded past base = (o : Revision) → is_bounded past o ≡ true → sees base o ≡ true

-- a bound sees nothing in flight, and no more than any base in flight; its sweep vector sees no
-- more than it
pub record MayBoundCore (past : Past) (m t : RevVec) : Type 0 where
  pub settled : (o : Revision) → is_in_flight past o ≡ true → sees m o ≡ false
  pub below : (r o : Revision) → is_in_flight past r ≡ true → sees m o ≡ true → is_in_base past r o
      ≡ true
  pub swept : (o : Revision) → sees t o ≡ true → sees m o ≡ true

-- a bound is one of the past, or at most one
pub record IsBoundOf (past : Past) (m t : RevVec) : Type 0 where
  pub bounded : (r : Revision) → sees m r ≡ true → is_bounded past r ≡ true
  pub swept : (r : Revision) → sees t r ≡ true → is_swept past r ≡ true
  pub below : (r : Revision) → sees t r ≡ true → sees m r ≡ true

-- the previous documents with these at a path
abbrev pub with_moved : (Path → List Document) → Path → List Document → Path → List Document
with_moved moved p xs q = cond (is_path q p) xs (moved q)

-- no documents: what an update drops of one is said without the previous documents, which a core
-- has by themselves
abbrev pub no_documents : Documents
no_documents i = None

-- an update drops garbage of a document, and the previous documents that aren't kept are garbage
pub record MayPruneCore (s : Core) (m t : RevVec) (p : Path) (old : Document) (op : UpdateOp)
    (keep : Document → Bool) : Type 0 where
  pub bound : IsBoundOf s.past m t
  pub there : s.docs p ≡ Some old
  pub keys : List EntryKey
  pub numbers : List ℕ
  pub garbage : DropsGarbage no_documents m t p old op keys numbers
  pub moved : (x : Document) → In x (s.moved p) → keep x ≡ false → is_garbage_previous m t old x
      ≡ true

-- a collection takes entries from a document, and previous documents that it lists
abbrev pub after_prune : Core → Event → Path → Document → UpdateOp → (Document → Bool) → Core
after_prune s e p old op keep = record s {
  number = s.number + 1;
  docs = with_document s.docs p (after_changes (Some old) op (s.number + 1));
  moved = with_moved s.moved p (filter keep (s.moved p));
  past = e ∷ s.past;
}

-- a document is garbage of a bound, and what moved from it bounds see, or it was there from the
-- beginning
pub record MayRemoveCore (s : Core) (m t : RevVec) (p : Path) (old : Document) : Type 0 where
  pub bound : IsBoundOf s.past m t
  pub there : s.docs p ≡ Some old
  pub garbage : is_garbage_document m t old ≡ true
  pub moved : (r : Revision) (k : Mark) → list_any (has_moved r k) (s.moved p) ≡ true
      → (s.old r || is_bounded s.past r) ≡ true

-- a collection takes a document away, with the previous ones of its node
abbrev pub after_remove : Core → Event → Path → Core
after_remove s e p = record s {
  number = s.number + 1;
  docs = λ q. cond (is_path q p) None (s.docs q);
  moved = with_moved s.moved p [];
  past = e ∷ s.past;
}

-- a document that a split has read is as it was then; and what counts in the documents that the
-- split has read is committed
pub record MaySplitCore (s : Core) (read : Documents) (pin : Pin) (p : Path)
    (old : Document) : Type 0 where
  pub there : s.docs p ≡ Some old
  pub order : IsInOrder old
  pub counted : (n : Name) (r : Revision) → is_some (of_revision (values_of_property old.props n) r)
      ≡ true → (sees pin.base r && is_said read pin.sweep old r) ≡ true → (s.old r ≡ true)
      ⊎ (is_committed s.past r ≡ true)

-- the main update of a split: what it wrote to a previous document goes from the document, which
-- lists that one first
abbrev pub core_split : Core → Event → Documents → Pin → Path → Document → PrevEntry → ℕ → Core
core_split s e read pin p old entry first = record s {
  number = s.number + 1;
  docs =
      with_document s.docs p (after_changes (Some old) (main_write read pin old entry)
      (s.number + 1));
  moved = with_moved s.moved p (after_changes None (previous_write read pin old) first ∷ s.moved p);
  past = e ∷ s.past;
}
