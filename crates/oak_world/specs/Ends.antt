-- How a split or a collection that has ended may be told.
use Rattle.std.specs.Prelude.{ℕ, IsTrue}
use Rattle.oak_machine.specs.declared.event.Event.{Event}
use Rattle.oak_machine.specs.History.{History}
use Rattle.oak_machine.specs.Runs.{MayFollow, any_said, any_start, is_task_end}

-- the event is how a split or a collection of session s ended, and it may follow the history
pub record MayTell (h : History) (s : ℕ) (e : Event) : Type 0 where
  pub own : IsTrue (is_task_end s e)
  pub follows : MayFollow any_start any_said h e
