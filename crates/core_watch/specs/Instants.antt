-- Readers that are answered step by step, while commits, splits and collections go on between their
-- steps.
use Rattle.std.specs.Prelude.{ℕ, zero, suc, List, [], ◌∷◌, map}
use Rattle.jr_rev.specs.declared.vector.Pin.{Pin}
use Rattle.oak_read.specs.Meaning.{Documents, documents_in}
use Rattle.oak_read.specs.Reading.{IsTable}
use Rattle.core_read.specs.World.{Progress}
use Rattle.oak_machine.specs.declared.event.Start.{Start}
use Rattle.core_begun.specs.Kept.{IsHeldSince, IsKeptSince}
use Rattle.core_keep.specs.From.{course_from}
use Rattle.core_keep.specs.Formers.{AreFormers, Formers, FormersGrow}
use Rattle.core_watch.specs.Moments.{Moment}
use Rattle.core_watch.specs.Reading.{ReadsOn}

-- a moment, with the former documents so far
pub record Instant : Type 0 where
  pub moment : Moment
  pub formers : Formers

-- the documents at an instant
abbrev pub documents_at : Instant → Documents
documents_at i = documents_in i.moment.table

-- there can be read at a pin: the documents keep what the journal tells, the pin is held, and
-- former documents are followed
pub record CanRead (start : Start) (pin : Pin) (i : Instant) : Type 0 where
  pub ordered : IsTable i.moment.table
  pub done : Progress
  pub kept : IsKeptSince start (documents_at i) i.moment.past done
  pub held : IsHeldSince start i.moment.past pin.base pin.sweep
  pub listed : AreFormers (documents_at i) (course_from start i.moment.past) i.formers

-- at each of some instants there can be read at the pin, and from one to the next others let
-- readers read on
abbrev pub AreReadable : Start → Pin → Instant → List Instant → Type 0
AreReadable start pin i [] = Unit {0}
AreReadable start pin i (n ∷ ns) =
    ReadsOn start pin (documents_at i) (documents_at n) i.moment.past n.moment.past
    × FormersGrow i.formers n.formers × CanRead start pin n × AreReadable start pin n ns

-- the moments of some instants
abbrev pub moments_of : List Instant → List Moment
moments_of is = map (λ i. i.moment) is

-- the first n of instants without end
abbrev pub first_instants : ℕ → (ℕ → Instant) → List Instant
first_instants zero f = []
first_instants (suc n) f = f 0 ∷ first_instants n (λ i. f (suc i))
