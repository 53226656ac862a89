-- What a split in a world has read and written so far, while others go on.
use Rattle.std.specs.Prelude.{◌≡◌, ◌⊎◌, ℕ, None, Some, IsTrue}
use Rattle.jr_path.specs.declared.path.Path.{Path}
use Rattle.oak_doc.specs.declared.asks.SplitEnd.{SplitEnd}
use Rattle.oak_doc.specs.declared.document.Document.{Document}
use Rattle.oak_doc.specs.declared.document.PrevEntry.{PrevEntry}
use Rattle.oak_doc.specs.Updates.{after_changes}
use Rattle.oak_machine.specs.Runs.{is_split_end}
use Rattle.oak_prev.specs.Splits.{listed_as, previous_write}
use Rattle.oak_prev.specs.Splitting.{known}
use Rattle.oak_prev.specs.declared.splitter.Splitter.{Splitter}
use Rattle.oak_prev.specs.declared.splitter.Step.{Step}
use Rattle.oak_prev.specs.declared.splitter.Step.TheVariants as step
use Rattle.oak_read.specs.Reading.{node_reader}
use Rattle.oak_store.specs.Tables.{Table}
use Rattle.core_heads.specs.Sound.{IsGood, Seen}
use Rattle.core_world.specs.Copying.{IsCopied}
use Rattle.core_world.specs.Numbers.{last_number, IsPassed, IsSplitting}
use Rattle.core_world.specs.States.{State, origin}

-- a split has written x as the previous document of number k, or k is the last number, which no
-- document lists
abbrev pub HasCopied : Table → Path → ℕ → Document → Type 0
HasCopied t p k x = IsCopied t p k x ⊎ (k ≡ last_number)

-- the number is behind the node at p, or it is the last one
abbrev pub IsBehind : Table → Path → ℕ → Type 0
IsBehind t p k = IsPassed t p k ⊎ (k ≡ last_number)

-- a splitter has read its document at a settled base, and knows commit roots
pub record HasRead (w : State) (x : Splitter) : Type 0 where
  pub good : IsGood w.begin w.past (Seen x.pin.base)
  pub splitting :
      IsSplitting (origin w) w.past w.table w.formers (known x) x.pin x.path x.reading.document

-- a splitter moves entries to a previous document, which e is to list
pub record Moves (w : State) (x : Splitter) (e : PrevEntry) : Type 0 where
  pub reads : HasRead w x
  pub listed : listed_as (known x) x.pin x.reading.document ≡ Some e

-- the previous document that it writes under a number of the table
abbrev pub copy_of : Splitter → ℕ → Document
copy_of x first = after_changes None (previous_write (known x) x.pin x.reading.document) first

-- a splitter has written the previous document that e is to list
pub record HasMoved (w : State) (x : Splitter) (e : PrevEntry) : Type 0 where
  pub moves : Moves w x e
  pub first : ℕ
  pub copied : HasCopied w.table x.path e.number (copy_of x first)

-- a split takes back its copy of number k, since the document has another number or is gone, and
-- will end so
pub record TakesBack (t : Table) (p : Path) (k : ℕ) (o : SplitEnd) : Type 0 where
  pub copy : Document
  pub copied : HasCopied t p k copy
  pub behind : IsBehind t p k
  pub ends : IsTrue (is_split_end o)

-- a splitter of session s stands at a step: one that has read nothing stands as a reader of its
-- node that has asked for nothing
abbrev pub MaySplitAt : State → ℕ → Splitter → Step → Type 0
MaySplitAt w s x step.Read = w.reading s ≡ Some (node_reader x.alloc x.pin x.path)
MaySplitAt w s x step.Root = HasRead w x
MaySplitAt w s x (step.Previous e n) = Moves w x e
MaySplitAt w s x (step.Main e n) = HasMoved w x e
MaySplitAt w s x (step.Find k o) = TakesBack w.table x.path k o
MaySplitAt w s x (step.Remove k found o) = TakesBack w.table x.path k o
MaySplitAt w s x (step.Done o) = IsTrue (is_split_end o)

-- a splitter at this step has written a previous document of number k, and has still to list it or
-- to take it back
abbrev pub HoldsCopy : Splitter → Step → Path → ℕ → Type 0
HoldsCopy x (step.Main e n) p k = (x.path ≡ p) × (e.number ≡ k)
HoldsCopy x (step.Find j o) p k = (x.path ≡ p) × (j ≡ k)
HoldsCopy x (step.Remove j found o) p k = (x.path ≡ p) × (j ≡ k)
HoldsCopy x _ p k = ⊥
