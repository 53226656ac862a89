-- The table of the commands that are built, and what a session may run.
use Rattle.std.specs.Prelude.{Bool, true, false, cond, not, ◌&&◌}
use Rattle.jcr_trans.specs.declared.command.Command.{Command}
use Rattle.jcr_trans.specs.declared.command.Command.TheVariants as command

-- the command is built; each other one is refused with 12
abbrev pub is_built : Command → Bool
is_built (command.Stop k) = false
is_built (command.Recover k) = false
is_built _ = true

-- the command may not be run by a session that is attached to a checkpoint, or that isn't
abbrev pub is_forbidden : (attached : Bool) → Command → Bool
is_forbidden attached command.Save = attached
is_forbidden attached (command.Refresh keep) = attached
is_forbidden attached (command.Lock p deep) = attached
is_forbidden attached (command.Unlock p) = attached
is_forbidden attached (command.Checkin p) = attached
is_forbidden attached (command.Checkout p) = attached
is_forbidden attached (command.Label p version label take) = attached
is_forbidden attached (command.Unlabel p label) = attached
is_forbidden attached (command.Restore p version) = attached
is_forbidden attached (command.Observe p deep mask) = attached
is_forbidden attached command.Events = attached
is_forbidden attached command.Checkpoint = attached
is_forbidden attached (command.Attach id) = attached
is_forbidden attached (command.Stop k) = attached
is_forbidden attached (command.Recover k) = attached
is_forbidden attached command.Detach = not attached
is_forbidden attached _ = false

-- a command as a session asks for it: one that it may run, or one that isn't built or that the
-- session's being attached to a checkpoint, or not, forbids
pub data Asked : Type 0 where
  Allowed : Command → Asked
  Unsupported : Command → Asked

-- a command as a session, attached to a checkpoint or not, asks for it
abbrev pub asked : (attached : Bool) → Command → Asked
asked attached m =
    cond (is_built m && not (is_forbidden attached m)) (Allowed m) (Unsupported m)
