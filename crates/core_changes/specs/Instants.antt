-- Readers of changes that are answered step by step, while commits, splits and collections go on
-- between their steps.
use Rattle.std.specs.Prelude.{◌≡◌, ◌≢◌, ℕ, List, [], ◌∷◌, Some, IsTrue}
use Rattle.std.specs.List.{fold}
use Rattle.jr_rev.specs.declared.revision.Revision.{Revision}
use Rattle.jr_rev.specs.declared.vector.RevVec.{RevVec}
use Rattle.jr_rev.specs.declared.vector.Pin.{Pin}
use Rattle.jr_rev.specs.Vectors.{sees}
use Rattle.jr_tree.specs.declared.edit.Write.{Write}
use Rattle.jr_tree.specs.declared.shared.CommitChanges.{CommitChanges}
use Rattle.oak_changes.specs.Reading.{due, fed}
use Rattle.oak_changes.specs.declared.changes.ChangesReader.{ChangesReader}
use Rattle.oak_changes.specs.declared.changes.Step.TheVariants as step
use Rattle.oak_machine.specs.History.{Past}
use Rattle.oak_read.specs.Reading.{IsTable, answer}
use Rattle.core_begun.specs.Told.{edit_since, IsInUseSince}
use Rattle.core_read.specs.World.{Progress}
use Rattle.core_keep.specs.Formers.{AreFormers, FormersGrow}
use Rattle.core_begun.specs.Kept.{bounded_since, IsHeldSince, IsKeptSince}
use Rattle.core_keep.specs.From.{course_from}
use Rattle.core_watch.specs.Instants.{first_instants, Instant, documents_at}
use Rattle.core_changes.specs.Between.{is_new}
use Rattle.core_changes.specs.Observing.{ObservesOn}
use Rattle.oak_machine.specs.declared.event.Start.{Start}

-- the vectors can be read between: the pin is held; the lesser vector is in use, sees all that
-- bounds so far see, and nothing that the pin's base doesn't
pub record AreHeld (start : Start) (past : Past) (from : RevVec) (pin : Pin) : Type 0 where
  pub to : IsHeldSince start past pin.base pin.sweep
  pub used : IsInUseSince start past from
  pub above : (r : Revision) → IsTrue (bounded_since start past r) → IsTrue (sees from r)
  pub below : (r : Revision) → IsTrue (sees from r) → IsTrue (sees pin.base r)

-- each new commit writes something
abbrev pub AreWriting : Past → RevVec → RevVec → Type 0
AreWriting past from to =
    (r : Revision) (ws : List Write) → edit_since past r ≡ Some ws → IsTrue (is_new from to r)
    → ws ≢ []

-- changes can be read: the documents keep what the journal tells, the vectors are held, and former
-- documents are followed
pub record CanObserve (start : Start) (from : RevVec) (pin : Pin) (i : Instant) : Type 0 where
  pub ordered : IsTable i.moment.table
  pub done : Progress
  pub kept : IsKeptSince start (documents_at i) i.moment.past done
  pub held : AreHeld start i.moment.past from pin
  pub listed : AreFormers (documents_at i) (course_from start i.moment.past) i.formers
  pub writing : AreWriting i.moment.past from pin.base

-- at each of some instants changes can be read, and from one to the next others let the reader go
-- on
abbrev pub AreObservable : Start → RevVec → Pin → Instant → List Instant → Type 0
AreObservable start from pin i [] = Unit {0}
AreObservable start from pin i (n ∷ ns) =
    ObservesOn start from pin (documents_at i) (documents_at n) i.moment.past n.moment.past
    × FormersGrow i.formers n.formers × CanObserve start from pin n
    × AreObservable start from pin n ns

-- a reader after the documents of each of some instants have answered it, one after another
abbrev pub after_instants : List Instant → ChangesReader → ChangesReader
after_instants is r = fold (λ r i. fed r (answer i.moment.table (due r))) r is

-- after some of instants without end a reader is done, and gives one of these
abbrev pub ChangesEndWith : (List CommitChanges → Type 0) → (ℕ → Instant) → ChangesReader → Type 0
ChangesEndWith P f r =
    (n : ℕ) × (o : List CommitChanges)
    × ((after_instants (first_instants n f) r).step ≡ step.Done o) × P o
