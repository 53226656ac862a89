-- What is being done for a command of the cluster node, of the settings or of the cursor, case by case.
use Rattle.std.proofs.Common.{◌≡◌, ℕ, ◌+◌, Bool, None}
use Rattle.jr_path.specs.Lists.{Text}
use Rattle.jr_path.specs.declared.path.Path.{Path}
use Rattle.jr_rev.specs.declared.revision.Revision.{Revision}
use Rattle.jr_rev.specs.declared.vector.RevVec.{RevVec}
use Rattle.oak_machine.specs.History.{History}
use Rattle.oak_port.specs.Ports.{Learning, Passing, Publishing, Starting, Sweeping, Work}
use Rattle.oak_port.specs.declared.task.Task.TheVariants as task
use Rattle.jr_items.specs.Refusals.{limit_refusal}
use Rattle.jcr_ref.specs.Drawn.{too_many_ids}
use Rattle.jcr_trans.specs.declared.command.Command.{Command}
use Rattle.jcr_trans.specs.declared.command.Command.TheVariants as command
use Rattle.jcr_law.specs.State.{Call, next_id}
use Rattle.jcr_run.specs.Standing.{HasSwept, IsAllLocal, IsAllOut, IsAllPublished, IsWorkFor}

pub data WorkCase (h : History) (s : ℕ) (c : Call) : Command → Work → Type 0 where
  to_write : WorkCase h s c command.BackWrite (Starting task.BackWrite)
  publishing : (r : Revision) → IsAllLocal h s r → WorkCase h s c command.BackWrite (Publishing r)
  to_read : WorkCase h s c command.BackRead (Starting task.BackRead)
  learning : (v : RevVec) → IsAllPublished h s v → WorkCase h s c command.BackRead (Learning v)
  to_sweep : WorkCase h s c command.Sweep (Starting task.Sweep)
  passing : (r : Revision) → IsAllOut h s r → WorkCase h s c command.Sweep (Passing r)
  sweeping : (r : Revision) → IsAllOut h s r → HasSwept h s r → WorkCase h s c command.Sweep (Sweeping r)
  to_keep : (id : Text) → id ≡ next_id c.who → too_many_ids (c.who.ids + 1) ≡ None → WorkCase h s c command.Checkpoint
      (Starting (task.Checkpoint id))
  to_release : (id i : Text) → i ≡ id → WorkCase h s c (command.Release id) (Starting (task.Release i))
  to_observe : (p : Path) (deep : Bool) (mask : ℕ) → limit_refusal p ≡ None
      → WorkCase h s c (command.Observe p deep mask) (Starting task.Observe)
  to_show : WorkCase h s c command.Events (Starting task.Observe)

pub work_case : (h : History) (s : ℕ) (c : Call) (m : Command) (w : Work) → IsWorkFor h s c m w → WorkCase h s c m w
work_case h s c command.BackWrite (Starting task.BackWrite) is = to_write
work_case h s c command.BackWrite (Publishing r) is = publishing r is
work_case h s c command.BackRead (Starting task.BackRead) is = to_read
work_case h s c command.BackRead (Learning v) is = learning v is
work_case h s c command.Sweep (Starting task.Sweep) is = to_sweep
work_case h s c command.Sweep (Passing r) is = passing r is
work_case h s c command.Sweep (Sweeping r) is = sweeping r is.0 is.1
work_case h s c command.Checkpoint (Starting (task.Checkpoint id)) is = to_keep id is.0 is.1
work_case h s c (command.Release id) (Starting (task.Release i)) is = to_release id i is
work_case h s c (command.Observe p deep mask) (Starting task.Observe) is = to_observe p deep mask is
work_case h s c command.Events (Starting task.Observe) is = to_show
work_case h s c m w is = absurd is
