-- Events in their order, with places kept for more.
use Rattle.std.specs.Prelude.{ℕ, List}
use Rattle.oak_machine.specs.declared.event.Event.{Event}

-- the events so far, the first first, and the number of places that are kept for more
pub record Recorded : Type 0 where
  pub list : List Event
  pub places : ℕ
