-- What a split and a collection come to in a world in which nobody else adds an event meanwhile.
use Rattle.std.specs.Prelude.{◌≡◌, ◌⊎◌, ◌++◌, ◌∷◌, ℕ, List, [], Some, map}
use Rattle.std.specs.List.{filter}
use Rattle.std.specs.declared.alloc.Global.{Global}
use Rattle.jr_path.specs.declared.path.DocId.{DocId}
use Rattle.jr_path.specs.declared.path.DocId.TheVariants as id
use Rattle.jr_path.specs.declared.path.Path.{Path}
use Rattle.jr_rev.specs.declared.vector.Pin.{Pin}
use Rattle.oak_clean.specs.Clean.{IsClean, IsCounted, after_collection}
use Rattle.oak_doc.specs.declared.asks.SplitEnd.{SplitEnd}
use Rattle.oak_doc.specs.declared.asks.SplitEnd.TheVariants as end
use Rattle.oak_doc.specs.declared.document.Document.{Document}
use Rattle.oak_doc.specs.declared.document.PrevEntry.{PrevEntry}
use Rattle.oak_gc.specs.Bounding.{those_that_tell}
use Rattle.oak_gc.specs.Bounds.{bound_of}
use Rattle.oak_gc.specs.Collecting as collecting
use Rattle.oak_machine.specs.declared.event.Event.{Event}
use Rattle.oak_machine.specs.declared.event.Event.TheVariants as event
use Rattle.oak_machine.specs.History.{Past}
use Rattle.oak_machine.specs.Laws.{Says, Starts}
use Rattle.oak_machine.specs.Runs.{is_bound}
use Rattle.oak_node.specs.Memory.{NodeState}
use Rattle.oak_prev.specs.Resting.{split_end}
use Rattle.oak_prev.specs.Splits.{listed_as, main_write, moved_count, previous_write}
use Rattle.oak_prev.specs.Splitting as splitting
use Rattle.oak_read.specs.Meaning.{Documents, documents_in}
use Rattle.oak_step.specs.declared.work.Work.TheVariants as work
use Rattle.oak_store.specs.Tables.{Table}
use Rattle.core_world.specs.States.{nodes_in}
use Rattle.core_world.specs.Steps.{after_update}
use Rattle.oak_tidy.specs.declared.tidying.Tidying.TheVariants as tidying
use Rattle.oak_tidy.specs.Replies.{node_tells}
use Rattle.oak_world.specs.Kept.{IsWorld}
use Rattle.oak_world.specs.Worlds.{WorldOf, work_in}
use Rattle.oak_alone.specs.Quiet.{Quietly}

-- the least of the pairs that the root, these memories and the settings hold
abbrev pub least_held : Document → List NodeState → Document → Pin
least_held root ms settings = bound_of root (those_that_tell (map node_tells ms)) settings

-- a collection of session s that began at one world has ended in the other, and tells this: its
-- bound was the least of all pairs that were held when it began, it told that bound alone, the
-- documents are what a collection of that bound makes of those that there were, no node's has
-- garbage of that bound, but for those that have the last number, and it tells what that counts,
-- which is what is gone; memories stay
pub record HasCollected {L : Type 0} (s : ℕ) (old new : WorldOf L) (told : Event) : Type 0 where
  pub root : Document
  pub root_there : documents_in old.table.documents (id.Node []) ≡ Some root
  pub settings : Document
  pub settings_there : documents_in old.table.documents id.Settings ≡ Some settings
  pub bound : Pin
  pub least : bound ≡ least_held root old.memories settings
  pub events : Past
  pub added : new.history.past ≡ events ++ old.history.past
  pub bounds : filter is_bound events ≡ event.Bound bound.base bound.sweep ∷ []
  pub documents : new.table ≡ (after_collection bound old.table).store
  pub clean : IsClean bound new.table
  pub counted : told ≡ event.Collected s (after_collection bound old.table).collected
  pub gone : IsCounted bound old.table (after_collection bound old.table)
  pub memories : new.memories ≡ old.memories

-- a collection of a session while which nobody else adds an event ends so
abbrev pub CollectsAlone : Starts → Says → Type 0 → Type 0
CollectsAlone starts says L = (s : ℕ) (old new : WorldOf L) (qs : List ℕ) (a : Global)
    (told : Event) → IsWorld starts says old
    → work_in old.actors s
    ≡ work.Tidy (tidying.Collect (collecting.begun a old.history.clusters))
    → Quietly s old qs new → work_in new.actors s ≡ work.Told told → HasCollected s old new told

-- a split has moved what is old: by documents as they stood when it began, it wrote the previous
-- document that the entry lists, and took what moved from the node's document, which lists it
pub record HasMoved (pin : Pin) (p : Path) (old new : Table) (o : SplitEnd) : Type 0 where
  pub read : Documents
  pub among : (i : DocId) (x : Document) → read i ≡ Some x → documents_in old.documents i ≡ Some x
  pub document : Document
  pub there : documents_in old.documents (id.Node p) ≡ Some document
  pub entry : PrevEntry
  pub listed : listed_as read pin document ≡ Some entry
  pub counted : o ≡ end.Split (moved_count read pin document)
  pub documents : new
      ≡ after_update (after_update old (previous_write read pin document))
      (main_write read pin document entry)

-- the document was skipped: each node's document is as it was
abbrev pub HasSkipped : Table → Table → SplitEnd → Type 0
HasSkipped old new o = (read : ℕ) × (found : ℕ) × (o ≡ end.Skipped read found)
    × ((q : Path) → nodes_in new q ≡ nodes_in old q)

-- what a split that ends so makes of documents: nothing, where nothing moves; or what is old has
-- moved; or the document was skipped
abbrev pub SplitsTo : Pin → Path → Table → Table → SplitEnd → Type 0
SplitsTo pin p old new o =
    ((o ≡ end.Split 0) × (new ≡ old)) ⊎ HasMoved pin p old new o ⊎ HasSkipped old new o

-- a split of session s that began at one world has ended in the other, and tells this: how many
-- entries move by the documents that there were; the documents are what that makes of them, and
-- memories stay
pub record HasSplit {L : Type 0} (s : ℕ) (pin : Pin) (p : Path) (old new : WorldOf L)
    (told : Event) : Type 0 where
  pub counted : told ≡ event.Split s p (split_end (documents_in old.table.documents) pin p)
  pub documents :
      SplitsTo pin p old.table new.table (split_end (documents_in old.table.documents) pin p)
  pub memories : new.memories ≡ old.memories

-- a split of a session while which nobody else adds an event ends so
abbrev pub SplitsAlone : Starts → Says → Type 0 → Type 0
SplitsAlone starts says L = (s : ℕ) (old new : WorldOf L) (qs : List ℕ) (a : Global) (pin : Pin)
    (p : Path) (told : Event) → IsWorld starts says old
    → work_in old.actors s ≡ work.Tidy (tidying.Split (splitting.begun a pin p))
    → Quietly s old qs new → work_in new.actors s ≡ work.Told told
    → HasSplit s pin p old new told
