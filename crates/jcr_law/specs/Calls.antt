-- What the next command of a session is run with, once a command was answered or the base has
-- moved.
use Rattle.std.specs.Prelude.{Bool}
use Rattle.jr_rev.specs.declared.vector.RevVec.{RevVec}
use Rattle.jr_tree.specs.Trees.{Nodes}
use Rattle.jcr_trans.specs.declared.command.Command.{Command}
use Rattle.jcr_law.specs.declared.state.State.{State}
use Rattle.jcr_law.specs.State.{Call, state_answered, moved}

-- a call with another state, whose count of identifiers the session then has
abbrev pub with_state : Call → State → Call
with_state c state = record c { who = record c.who { ids = state.ids }; state = state }

-- once a command was answered, accepted or refused, for which a revision was drawn or none
abbrev pub call_after : (ok drew : Bool) → Call → Command → Call
call_after ok drew c m = with_state c (state_answered ok drew c m)

-- once the base moved to a vector that sees this tree
abbrev pub call_moved : Call → RevVec → Nodes → Call
call_moved c v t =
    record c { who = record c.who { base = v }; base = t; state = moved c.base t c.state }
