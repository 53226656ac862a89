-- What a session begins for a split or a collection, and what comes of its steps.
use Rattle.std.specs.Prelude.{◌≡◌, slice_get, None, Some, IsTrue}
use Rattle.jr_path.specs.declared.path.Path.{Path}
use Rattle.jr_path.specs.Lists.{Text}
use Rattle.oak_machine.specs.Sessions.{drawn_since}
use Rattle.oak_port.specs.Ports.{HasRoom, Idle, Shown}
use Rattle.oak_port.specs.declared.task.Task.{Task}
use Rattle.oak_port.specs.declared.task.Task.TheVariants as task
use Rattle.jcr_trans.specs.Texts.{ok_text}
use Rattle.jcr_trans.specs.declared.command.Command.{Command}
use Rattle.jcr_trans.specs.declared.command.Command.TheVariants as command
use Rattle.jcr_law.specs.declared.law.JcrLaw.{JcrLaw}
use Rattle.jcr_law.specs.Law.{IsUnmoved, IsUnpinned}
use Rattle.jcr_law.specs.State.{Call}
use Rattle.jcr_law.specs.Tasks.{collected_data, split_data}
use Rattle.jcr_held.specs.Holds.{Holds}
use Rattle.jcr_held.specs.Splits.{IsNextSplit}
use Rattle.jcr_held.specs.declared.splits.NextSplit.{NextSplit}
use Rattle.jcr_steps.specs.declared.limits.TheConstants.{COMMIT_REPLY_BYTES}
use Rattle.jcr_steps.specs.declared.tidying.Tidied.{Tidied}
use Rattle.jcr_steps.specs.declared.tidying.Tidied.TheVariants as tidied
use Rattle.jcr_run.specs.Asked.{IsAsked}
use Rattle.jcr_run.specs.Standing.{due_for, is_tidy}
use Rattle.jcr_run.specs.declared.run.Phase.TheVariants as phase
use Rattle.jcr_run.specs.declared.run.SessionRun.{SessionRun}

-- ---- what it begins

-- what a command that splits begins with
abbrev pub IsSplitOf : SessionRun → Command → NextSplit → Type 0
IsSplitOf run m next = (p : Path) (c : Call) → m ≡ command.Split p → Holds c run.held
    → IsNextSplit c p next

-- what the split of the next command begins with
abbrev pub IsSplitNext : SessionRun → NextSplit → Type 0
IsSplitNext run next = (p : Path) (c : Call)
    → slice_get run.commands run.index ≡ Some (command.Split p)
    → Holds c run.held → IsNextSplit c p next

-- the task of a command that splits or collects
abbrev pub IsTidyTask : Command → Task → Type 0
IsTidyTask (command.Split p) t = t ≡ task.Split p
IsTidyTask command.Collect t = t ≡ task.Collect
IsTidyTask m t = ⊥

-- the task is that of the next command
abbrev pub IsTaskNext : SessionRun → Task → Type 0
IsTaskNext run t = (m : Command) → slice_get run.commands run.index ≡ Some m → IsTidyTask m t

-- the task is that of the next command, for which nothing was drawn yet and neither the base nor
-- the cursor has moved, and want of memory has a place as its reply
pub record MayBeginTidying (law : JcrLaw) (p : Shown) (run : SessionRun) (t : Task) : Type 0 where
  pub command : Command
  pub call : Call
  pub asked : IsAsked law p run command call
  pub idle : p.work ≡ Idle
  pub between : run.phase ≡ phase.Between
  pub first : drawn_since p.history.past p.session ≡ None
  pub unmoved : IsUnmoved p.history p.session
  pub unpinned : IsUnpinned p.history p.session
  pub tidies : IsTrue (is_tidy (due_for run))
  pub holds : Holds call run.held
  pub task_is : IsTidyTask command t
  pub place : HasRoom p.room COMMIT_REPLY_BYTES

-- ---- how it ends

-- the reply that shows how a split or a collection has ended
abbrev pub tidied_text : Tidied → Text
tidied_text (tidied.Split e) = ok_text (split_data e)
tidied_text (tidied.Collected c) = ok_text (collected_data c)
