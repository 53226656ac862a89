-- What is due of a command that commits.
use Rattle.std.specs.Prelude.{List, Option, None, Result, Ok, Err}
use Rattle.jr_tree.specs.declared.edit.Write.{Write}
use Rattle.jr_tree.specs.declared.shared.Refusal.{Refusal}
use Rattle.jcr_trans.specs.declared.command.Command.{Command}
use Rattle.jcr_trans.specs.declared.command.Command.TheVariants as command
use Rattle.jcr_law.specs.Commits.{edit_due}
use Rattle.jcr_law.specs.State.{Call}
use Rattle.jcr_call.specs.declared.due.Due.{Due}
use Rattle.jcr_call.specs.declared.due.Due.TheVariants as due

-- the writes of the edit, or the refusal
abbrev pub writes_due : Due → Result (List Write) Refusal
writes_due (due.Edited edit) = Ok edit.writes
writes_due (due.Refused refusal) = Err refusal

-- the edit of a command that commits whatever is pending; `save` commits what is pending
abbrev pub due_at_once : Call → Command → Option (Result (List Write) Refusal)
due_at_once c command.Save = None
due_at_once c m = edit_due c m
