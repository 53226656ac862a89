-- A committer that looks at a document as it was before its write, and then at the previous
-- documents that this listed, one after another, while others go on.
use Rattle.std.specs.Prelude.{◌≡◌, ◌⊎◌, ℕ, Bool, List, Option, None, Some, IsTrue, IsFalse}
use Rattle.jr_path.specs.declared.name.Name.{Name}
use Rattle.jr_path.specs.declared.path.Path.{Path}
use Rattle.jr_path.specs.declared.path.DocId.TheVariants as id
use Rattle.jr_value.specs.declared.value.Property.{Property}
use Rattle.jr_rev.specs.declared.revision.Revision.{Revision}
use Rattle.oak_doc.specs.declared.document.Document.{Document}
use Rattle.oak_doc.specs.declared.document.PrevEntry.{PrevEntry}
use Rattle.oak_doc.specs.Updates.{of_revision, values_of_property}
use Rattle.oak_read.specs.Meaning.{Documents}
use Rattle.core_read.specs.Commits.{Sight}
use Rattle.core_read.specs.Told.{IsIn}
use Rattle.core_keep.specs.Formers.{Former, Formers, Had}
use Rattle.core_keep.specs.Readers.{gone_by, IsListed}
use Rattle.core_keep.specs.Standing.{values_in}
use Rattle.core_keep.specs.Steps.{IsUnlisted}

-- a document has no value of the revisions that count
abbrev pub HasNoValue : Sight → Document → Type 0
HasNoValue unseen x =
    (n : Name) (o : Revision) → IsTrue (unseen o) → of_revision (values_of_property x.props n) o
    ≡ None

-- what it goes by has of what its base doesn't see just what stood at its write; of what it will
-- ask for it goes by what is there, which is listed still or has nothing of that, or by nothing;
-- and what a former document had of that stood at the write
pub record Looks (ds : Documents) (formers : Formers) (unseen : Sight) (p : Path)
    (stood : List Document) (copy : Document) (asked : ℕ → Bool)
    (look : ℕ → Option Document) : Type 0 where
  pub same : (n : Name) (o : Revision) → IsTrue (unseen o)
      → of_revision (values_in n (gone_by copy look)) o ≡ of_revision (values_in n stood) o
  pub follows : (e : PrevEntry) → IsIn e copy.prev → IsFalse (asked e.number)
      → (look e.number ≡ ds (id.Prev e.number p)) ⊎ (look e.number ≡ None)
  pub left : (e : PrevEntry) → IsIn e copy.prev → IsFalse (asked e.number) → (x : Document)
      → look e.number ≡ Some x → IsListed ds p e.number ⊎ HasNoValue unseen x
  pub former : (e : PrevEntry) → IsIn e copy.prev → (f : Former) × (formers p e.number ≡ Some f)
      × ((n : Name) (o : Revision) (y : Option Property) → IsTrue (unseen o) → Had f n o y
      → of_revision (values_in n stood) o ≡ Some y)

-- what others do between two steps of it: the document lists no more only what has nothing of that;
-- and of the previous documents just those change that nobody lists
pub record LooksOn (ds now : Documents) (unseen : Sight) (p : Path) (copy : Document)
    (asked : ℕ → Bool) : Type 0 where
  pub list : (k : ℕ) (x : Document) → ds (id.Prev k p) ≡ Some x → IsListed ds p k → IsListed now p k
      ⊎ HasNoValue unseen x
  pub stays : ℕ → Bool
  pub previous : (e : PrevEntry) → IsIn e copy.prev → IsFalse (asked e.number)
      → (IsTrue (stays e.number) × (now (id.Prev e.number p) ≡ ds (id.Prev e.number p)))
      ⊎ (IsFalse (stays e.number) × IsUnlisted ds p e.number)
