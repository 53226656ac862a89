-- Which events change what a session's next command is run with, and how it begins.
use Rattle.std.specs.Prelude.{ℕ, Bool, false, ◌==◌}
use Rattle.jr_tree.specs.Trees.{Nodes}
use Rattle.oak_machine.specs.declared.event.Event.{Event}
use Rattle.oak_machine.specs.declared.event.Event.TheVariants as event
use Rattle.oak_machine.specs.History.{Begin}
use Rattle.jcr_law.specs.declared.state.State.{State}
use Rattle.jcr_law.specs.State.{new_state}

-- the state of a session at its login, where it sees this tree
abbrev pub state_at_login : Begin → Nodes → State
state_at_login begin t = record (new_state begin) { view = t }

-- the event moves the base of s, or answers a command of s
abbrev pub is_calling : ℕ → Event → Bool
is_calling s (event.Login t v) = t == s
is_calling s (event.Refresh t v) = t == s
is_calling s (event.Attach t id) = t == s
is_calling s (event.Said t i text) = t == s
is_calling s _ = false

-- s is attached to a checkpoint
abbrev pub is_attach_of : ℕ → Event → Bool
is_attach_of s (event.Attach t id) = t == s
is_attach_of s _ = false
