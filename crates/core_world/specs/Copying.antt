-- A split that has written its previous document, and hasn't listed it yet; and a collection that
-- has read what a document lists.
use Rattle.std.specs.Prelude.{◌≡◌, ◌⊎◌, ◌<◌, ◌≤◌, ℕ, Option, Some}
use Rattle.jr_path.specs.declared.path.DocId.TheVariants as id
use Rattle.jr_path.specs.declared.path.Path.{Path}
use Rattle.oak_doc.specs.declared.document.Document.{Document}
use Rattle.oak_doc.specs.declared.document.PrevEntry.{PrevEntry}
use Rattle.oak_read.specs.Meaning.{documents_in}
use Rattle.oak_store.specs.Tables.{Table}
use Rattle.core_keep.specs.Readers.{IsListed}
use Rattle.core_keep.specs.Steps.{IsUnlisted}
use Rattle.core_read.specs.Told.{IsIn}
use Rattle.core_world.specs.Numbers.{last_number, IsPassed, IsReadIn}
use Rattle.core_world.specs.States.{nodes_in}

-- a split has written x as the previous document of a number that the table has come to: none of it
-- is listed, and as long as the node's document has this number, x is there
pub record IsCopied (t : Table) (p : Path) (k : ℕ) (x : Document) : Type 0 where
  pub early : k < last_number
  pub within : k ≤ t.number
  pub unlisted : IsUnlisted (documents_in t.documents) p k
  pub there : (d : Document) → nodes_in t p ≡ Some d → d.mod_count ≡ k
      → documents_in t.documents (id.Prev k p) ≡ Some x

-- what a step of others lets be: it lists none of that number that wasn't listed, and leaves the
-- previous document unless the number is behind the node
pub record LetsCopy (t u : Table) (p : Path) (k : ℕ) : Type 0 where
  pub lists : (d : Document) → nodes_in u p ≡ Some d → (e : PrevEntry) → IsIn e d.prev
      → e.number ≡ k → IsListed (documents_in t.documents) p k
  pub stays : (documents_in u.documents (id.Prev k p) ≡ documents_in t.documents (id.Prev k p))
      ⊎ IsPassed t p k

-- of a document that was read a previous document that it lists was asked for: as long as the
-- node's document has the number read, that is what is there
pub record IsFoundIn (t : Table) (p : Path) (old : Document) (e : PrevEntry)
    (found : Option Document) : Type 0 where
  pub early : old.mod_count < last_number
  pub read : IsReadIn t (id.Node p) old
  pub listed : IsIn e old.prev
  pub there : (d : Document) → nodes_in t p ≡ Some d → d.mod_count ≡ old.mod_count
      → documents_in t.documents (id.Prev e.number p) ≡ found
