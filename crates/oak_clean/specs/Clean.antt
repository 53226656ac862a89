-- What a collection leaves of a store, and what it counts, where nobody else writes.
use Rattle.std.specs.Prelude.{◌≡◌, ℕ, ◌-◌, ◌^◌, Bool, cond, not, ◌&&◌, ◌==◌, min, All, Contains, List, [], length, sum_by, Option, Some, is_some, IsTrue, IsFalse}
use Rattle.std.specs.FinMap.{is_sorted}
use Rattle.std.specs.declared.alloc.Global.{Global}
use Rattle.jr_path.specs.Names.{name_cmp}
use Rattle.jr_path.specs.declared.path.DocId.{DocId}
use Rattle.jr_path.specs.declared.path.DocId.TheVariants as id
use Rattle.jr_path.specs.declared.path.Path.{Path}
use Rattle.jr_rev.specs.declared.revision.Revision.{Revision}
use Rattle.jr_rev.specs.declared.vector.Pin.{Pin}
use Rattle.jr_rev.specs.Vectors.{sees}
use Rattle.oak_doc.specs.declared.asks.Ask.TheVariants as ask
use Rattle.oak_doc.specs.declared.document.Document.{Document}
use Rattle.oak_gc.specs.Bounding.{those_that_tell}
use Rattle.oak_gc.specs.Bounds.{Told, bound_of}
use Rattle.oak_gc.specs.Collecting.{begun, due, nothing_collected}
use Rattle.oak_gc.specs.Garbage.{garbage_in, has_garbage}
use Rattle.oak_gc.specs.Resting.{Emptied, after_asks, collected_by}
use Rattle.oak_read.specs.Reading.{IsTable}
use Rattle.oak_store.specs.Tables.{Table, found}

-- a store after a collection over all its documents, in which nobody else wrote, and what was
-- counted
abbrev pub after_collection : Pin → Table → Emptied
after_collection bound t =
    collected_by bound (record { store = t; collected = nothing_collected }) t.documents

-- the document has the last number, at which it is neither updated nor removed on its number
abbrev pub has_last_number : Document → Bool
has_last_number d = d.mod_count == 2 ^ 64 - 1

-- the names of the properties rise in each node's document
abbrev pub AreNamesInOrder : Table → Type 0
AreNamesInOrder t = (p : Path) (d : Document) → found t (id.Node p) ≡ Some d
    → IsTrue (is_sorted name_cmp d.props)

-- the base of a bound sees all that its sweep vector sees
abbrev pub SeesSwept : Pin → Type 0
SeesSwept bound = (r : Revision) → IsTrue (sees bound.sweep r) → IsTrue (sees bound.base r)

-- no node's document has garbage of a bound, but for those that have the last number
abbrev pub IsClean : Pin → Table → Type 0
IsClean bound t = (p : Path) (d : Document) → found t (id.Node p) ≡ Some d
    → IsFalse (has_last_number d) → IsFalse (has_garbage bound.base bound.sweep (found t) d)

-- a node's document that still has garbage of a bound was skipped, at its number
abbrev pub SkipsWhatStays : Pin → Emptied → Type 0
SkipsWhatStays bound new = (p : Path) (d : Document) → found new.store (id.Node p) ≡ Some d
    → IsTrue (has_garbage bound.base bound.sweep (found new.store) d)
    → Contains new.collected.skipped (id.Node p, d.mod_count, d.mod_count)

-- a collector that a store answers alone, from its first ask on, ends, and leaves no garbage of the
-- bound that it took
abbrev pub CollectorsEndClean : Type 0
CollectorsEndClean = (told : List (Option Told)) (t : Table) (a : Global) (root settings : Document)
    → found t (id.Node []) ≡ Some root → found t id.Settings ≡ Some settings
    → SeesSwept (bound_of root (those_that_tell told) settings) → IsTable t.documents
    → AreNamesInOrder t → (n : ℕ)
    × (let w = after_asks told n (record { store = t; collector = begun a (length told) }) in
    (due w.collector ≡ ask.Done)
    × IsClean (bound_of root (those_that_tell told) settings) w.store)

-- ---- what is counted

-- so many, at most the greatest number
abbrev pub counted : ℕ → ℕ
counted n = min n (2 ^ 64 - 1)

-- how many garbage entries went out of a document that was there before: all that it had, where it
-- is a node's that stays, and had another number than the last one
abbrev pub entries_gone : Pin → Table → DocId × Document → ℕ
entries_gone bound new e = by e.0
  where
    by : DocId → ℕ
    by (id.Node p) = cond (is_some (found new (id.Node p)) && not (has_last_number e.1))
        (length (garbage_in bound.base bound.sweep e.1)) 0
    by _ = 0

-- a document was skipped at the number that was read and found: it has the last one, and stays as
-- it was
pub record IsSkipped (old new : Table) (skip : DocId × ℕ × ℕ) : Type 0 where
  pub document : Document
  pub before : found old skip.0 ≡ Some document
  pub stays : found new skip.0 ≡ Some document
  pub last : IsTrue (has_last_number document)
  pub read : skip.1 ≡ document.mod_count
  pub met : skip.2 ≡ document.mod_count

-- what a collection counted: the documents that are gone, the entries that went out of those that
-- stay, and those that it skipped
pub record IsCounted (bound : Pin) (old : Table) (new : Emptied) : Type 0 where
  pub documents : new.collected.documents
      ≡ counted (length old.documents - length new.store.documents)
  pub entries : new.collected.entries
      ≡ counted (sum_by (entries_gone bound new.store) old.documents)
  pub skipped : All (IsSkipped old new.store) new.collected.skipped
