-- What a collection in a world has heard, read and unlisted so far, while others go on.
use Rattle.std.specs.Prelude.{◌≡◌, ◌⊎◌, ◌<◌, ◌+◌, ◌∷◌, ℕ, List, [], is_some, IsTrue, IsFalse}
use Rattle.std.specs.FinMap.{is_sorted}
use Rattle.std.specs.List.{All, list_any}
use Rattle.std.specs.Ordering.{nat_cmp}
use Rattle.jr_path.specs.declared.path.DocId.TheVariants as id
use Rattle.jr_path.specs.declared.path.Path.{Path}
use Rattle.oak_doc.specs.declared.document.Document.{Document}
use Rattle.oak_doc.specs.declared.document.PrevEntry.{PrevEntry}
use Rattle.oak_gc.specs.Collecting.{Previous, found_in}
use Rattle.oak_gc.specs.declared.collector.Collector.{Collector}
use Rattle.oak_gc.specs.declared.reading.Reading.{Reading}
use Rattle.oak_gc.specs.declared.reading.Step.{Step}
use Rattle.oak_gc.specs.declared.reading.Step.TheVariants as step
use Rattle.oak_machine.specs.Runs.{is_bound, is_skip}
use Rattle.oak_machine.specs.Sessions.{since}
use Rattle.oak_read.specs.Meaning.{documents_in}
use Rattle.oak_store.specs.Tables.{Table}
use Rattle.core_clash.specs.Collecting.{IsBoundOf}
use Rattle.core_keep.specs.Dropping.{is_number_of}
use Rattle.core_keep.specs.Steps.{IsUnlisted}
use Rattle.core_read.specs.Told.{IsIn}
use Rattle.core_read.specs.Writes.{IsOrderedDocument}
use Rattle.core_world.specs.Bounding.{IsBounding}
use Rattle.core_world.specs.Copying.{IsFoundIn}
use Rattle.core_world.specs.Numbers.{last_number, IsPassed, IsReadIn}
use Rattle.core_world.specs.States.{State}

-- a collector of session s has taken its bound, since the session's last reply; each document that
-- it skipped had two numbers
pub record HasBound (w : State) (s : ℕ) (x : Collector) : Type 0 where
  pub bound : IsBoundOf w.past x.bound.base x.bound.sweep
  pub taken : IsTrue (list_any is_bound (since w.past s))
  pub skips : All (λ skip. IsTrue (is_skip skip.1 skip.2)) x.collected.skipped

-- the document lists the number
abbrev pub IsListedBy : Document → ℕ → Type 0
IsListedBy d n = (e : PrevEntry) × IsIn e d.prev × (e.number ≡ n)

-- a collector has read a document, and has asked for the previous documents that this lists, but
-- for those of some numbers; what was found of them is there, as long as the document has the
-- number read
pub record HasAsked (t : Table) (r : Reading) (left : List ℕ) : Type 0 where
  pub read : IsReadIn t (id.Node r.at) r.document
  pub order : IsOrderedDocument r.document
  pub found : (e : PrevEntry) → IsIn e r.document.prev
      → IsFalse (is_number_of left e)
      ⊎ IsTrue (is_some (found_in r.previous (id.Prev e.number r.at)))
      → r.document.mod_count < last_number
      → IsFoundIn t r.at r.document e (found_in r.previous (id.Prev e.number r.at))
  pub sorted : IsTrue (is_sorted nat_cmp r.previous)
  pub listed : (n : ℕ) (x : Document) → IsIn (n, x) r.previous → IsListedBy r.document n
  pub left_listed : (n : ℕ) → IsIn n left → IsListedBy r.document n

-- the node at p doesn't list the number, which is behind it
pub record IsDropped (t : Table) (p : Path) (n : ℕ) : Type 0 where
  pub passed : IsPassed t p n
  pub unlisted : IsUnlisted (documents_in t.documents) p n

-- the node at p lists none of these previous documents, whose numbers are behind it
abbrev pub AreDropped : Table → Path → Previous → Type 0
AreDropped t p ps = (n : ℕ) (x : Document) → IsIn (n, x) ps → IsDropped t p n

-- a collector of session s stands at a step
abbrev pub MayCollectAt : State → ℕ → Collector → Step → Type 0
MayCollectAt w s x step.Root = x.collected.skipped ≡ []
MayCollectAt w s x (step.Node k) = IsBounding w k x.bound × (x.collected.skipped ≡ [])
MayCollectAt w s x step.Settings =
    IsBounding w (w.clusters + 1) x.bound × (x.collected.skipped ≡ [])
MayCollectAt w s x (step.Listed n) =
    HasBound w s x × HasAsked w.table x.reading (n ∷ x.reading.listed)
MayCollectAt w s x step.Prune = HasBound w s x × HasAsked w.table x.reading []
MayCollectAt w s x step.Remove = HasBound w s x × HasAsked w.table x.reading []
MayCollectAt w s x (step.RemovePrevious n read) =
    HasBound w s x × IsDropped w.table x.reading.at n
    × AreDropped w.table x.reading.at x.reading.previous
MayCollectAt w s x _ = HasBound w s x
