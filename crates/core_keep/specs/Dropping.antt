-- Which entries of a document a collection may drop, and of which previous documents it may unlist.
use Rattle.std.specs.Prelude.{◌≡◌, ℕ, Bool, ◌==◌, List, ◌∷◌, map, None, Some, is_some, IsTrue}
use Rattle.std.specs.Map.{keys_of}
use Rattle.std.specs.List.{list_any}
use Rattle.jr_path.specs.declared.name.Name.{Name}
use Rattle.std.specs.FinMap.{is_sorted}
use Rattle.jr_path.specs.Names.{name_cmp}
use Rattle.jr_path.specs.declared.path.Item.{Item}
use Rattle.jr_path.specs.declared.path.Path.{Path}
use Rattle.jr_path.specs.declared.path.DocId.TheVariants as id
use Rattle.jr_rev.specs.declared.revision.Revision.{Revision}
use Rattle.jr_rev.specs.declared.vector.RevVec.{RevVec}
use Rattle.jr_rev.specs.Vectors.{sees}
use Rattle.oak_doc.specs.declared.document.Document.{Document}
use Rattle.oak_doc.specs.declared.document.PrevEntry.{PrevEntry}
use Rattle.oak_doc.specs.declared.update.EntryKey.{EntryKey}
use Rattle.oak_doc.specs.declared.update.Field.{Field}
use Rattle.oak_doc.specs.declared.update.Field.TheVariants as field
use Rattle.oak_doc.specs.declared.update.Change.TheVariants as change
use Rattle.oak_doc.specs.declared.update.UpdateOp.{UpdateOp}
use Rattle.oak_doc.specs.Updates.{of_revision, values_of_property}
use Rattle.oak_read.specs.Meaning.{Documents}
use Rattle.core_read.specs.Told.{IsIn}
use Rattle.core_keep.specs.Garbage.{is_superseded, is_garbage_previous}

-- an entry of a document is garbage of a bound
abbrev pub is_garbage_of : RevVec → RevVec → Document → Field → Revision → Bool
is_garbage_of m t d field.Deleted r = is_superseded m t (keys_of d.deleted) r
is_garbage_of m t d field.CommitRoot r = sees t r
is_garbage_of m t d field.Revisions r = sees t r
is_garbage_of m t d field.Collisions r = sees m r
is_garbage_of m t d field.Touched r = sees m r
is_garbage_of m t d field.Guard r = sees m r
is_garbage_of m t d (field.Prop n) r = is_superseded m t (keys_of (values_of_property d.props n)) r

-- the number is one of these
abbrev pub is_number_of : List ℕ → PrevEntry → Bool
is_number_of ns e = list_any (λ n. e.number == n) ns

-- an update drops entries of a document that are garbage of a bound, any of them, and unlists
-- previous documents that are
pub record DropsGarbage (ds : Documents) (m t : RevVec) (p : Path) (d : Document) (op : UpdateOp)
    (keys : List EntryKey) (ns : List ℕ) : Type 0 where
  pub changes : op.changes ≡ change.Prune keys ∷ map change.Unlist ns
  pub entries : (k : EntryKey) → IsIn k keys → IsTrue (is_garbage_of m t d k.field k.revision)
  pub previous : (e : PrevEntry) → IsIn e d.prev → IsTrue (is_number_of ns e) → (x : Document)
      → ds (id.Prev e.number p) ≡ Some x → IsTrue (is_garbage_previous m t d x)

-- of a revision a document has what there was, in each field: entries, marks, notes and statuses
pub record IsLeftAlone (q : Revision) (old d : Document) : Type 0 where
  pub deleted : of_revision d.deleted q ≡ of_revision old.deleted q
  pub roots : of_revision d.commit_root q ≡ of_revision old.commit_root q
  pub revisions : of_revision d.revisions q ≡ of_revision old.revisions q
  pub collisions : of_revision d.collisions q ≡ of_revision old.collisions q
  pub touched : of_revision d.touched q ≡ of_revision old.touched q
  pub guard : of_revision d.guard q ≡ of_revision old.guard q
  pub props : (n : Name) → of_revision (values_of_property d.props n) q
      ≡ of_revision (values_of_property old.props n) q

-- nothing of a revision stands in a document
pub record IsWithout (q : Revision) (d : Document) : Type 0 where
  pub deleted : of_revision d.deleted q ≡ None
  pub roots : of_revision d.commit_root q ≡ None
  pub revisions : of_revision d.revisions q ≡ None
  pub collisions : of_revision d.collisions q ≡ None
  pub touched : of_revision d.touched q ≡ None
  pub guard : of_revision d.guard q ≡ None
  pub props : (n : Name) → of_revision (values_of_property d.props n) q ≡ None

-- of a revision a document has the note of the commit root and the status that there was
pub record IsSaidStill (q : Revision) (old d : Document) : Type 0 where
  pub roots : of_revision d.commit_root q ≡ of_revision old.commit_root q
  pub revisions : of_revision d.revisions q ≡ of_revision old.revisions q

-- all that a document has by revision was there, and it has its name
pub record IsDocumentWithin (old d : Document) : Type 0 where
  pub deleted : (q : Revision) → IsTrue (is_some (of_revision d.deleted q))
      → IsTrue (is_some (of_revision old.deleted q))
  pub roots : (q : Revision) → IsTrue (is_some (of_revision d.commit_root q))
      → IsTrue (is_some (of_revision old.commit_root q))
  pub revisions : (q : Revision) → IsTrue (is_some (of_revision d.revisions q))
      → IsTrue (is_some (of_revision old.revisions q))
  pub collisions : (q : Revision) (x : Revision × Item) → of_revision d.collisions q ≡ Some x
      → of_revision old.collisions q ≡ Some x
  pub touched : (q : Revision) → IsTrue (is_some (of_revision d.touched q))
      → IsTrue (is_some (of_revision old.touched q))
  pub guard : (q : Revision) → IsTrue (is_some (of_revision d.guard q))
      → IsTrue (is_some (of_revision old.guard q))
  pub props : (n : Name) (q : Revision)
      → IsTrue (is_some (of_revision (values_of_property d.props n) q))
      → IsTrue (is_some (of_revision (values_of_property old.props n) q))
  pub named : d.id ≡ old.id
  pub names : IsTrue (is_sorted name_cmp d.props)
