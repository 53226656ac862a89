-- All that tidies in a world goes on where the documents stay.
use Rattle.std.proofs.Common.{◌≡◌, ℕ, false, Option, None, ◌++◌}
use Rattle.std.specs.Prelude.{◌==◌}
use Rattle.oak_machine.specs.History.{Past}
use Rattle.oak_machine.specs.Laws.{AreOthers, Says, Starts, StartsProper}
use Rattle.oak_tidy.specs.declared.tidying.Tidying.{Tidying}
use Rattle.core_keep.specs.Holding.{IsHoldingStep}
use Rattle.core_tidy.specs.Beside.{IsWorldStep, LetsTidy}
use Rattle.core_tidy.specs.Tidying.{AreTidying}
use Rattle.core_tidy.proofs.Making.{IsMade, nothing, still_made}
use Rattle.core_tidy.proofs.Whole.{others_tidy}
use Rattle.core_world.specs.Held.{holding_in}
use Rattle.core_world.specs.Kept.{IsKept}
use Rattle.core_world.specs.States.{State}

module _ (starts : Starts) (says : Says) (proper : StartsProper starts) (w : State) (kept : IsKept starts says w) (does : ℕ → Option Tidying) (tidies : AreTidying w does) (s : ℕ) (none : does s ≡ None)
    (u : State) (later : IsKept starts says u) (own : Past) (grown : u.past ≡ own ++ w.past) (clusters : u.clusters ≡ w.clusters) (sessions : u.sessions ≡ w.sessions) (begin : u.begin ≡ w.begin) (formers : u.formers ≡ w.formers) (table : u.table ≡ w.table) (holds : IsHoldingStep (holding_in w) (holding_in u)) where
  made : IsMade starts says w u nothing
  made = still_made starts says w tidies.numbered tidies.own u later own grown clusters sessions begin formers table holds

  abbrev step : IsWorldStep w u
  step = record {
    own = own;
    grown = grown;
    clusters = clusters;
    sessions = sessions;
    begin = begin;
    table = made.lets.step.table;
    holds = made.lets.step.holds;
    numbered = made.lets.step.numbered;
    own_numbers = made.lets.step.own_numbers;
  }

  abbrev lets : LetsTidy w u nothing
  lets = record { step = step; copies = made.lets.copies; previous = made.lets.previous; splits = made.lets.splits }

  -- by a session that tidies nothing
  pub still_tidies : ((q : ℕ) → (q == s) ≡ false → AreOthers q own w.past × (u.reading q ≡ w.reading q)) → AreTidying u does
  still_tidies others = others_tidy starts says proper w u kept later does tidies nothing lets s none (λ p k h. h) others
