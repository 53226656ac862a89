-- A session that doesn't commit: no commit is at work for it, and it awaits none.
use Rattle.std.proofs.Common.{◌≡◌, ℕ, Bool, true, false, Some, None, Option, refl, sym, ap, ◌∙◌}
use mathlib.Core.Bool.{false≢true}
use Rattle.jr_rev.specs.declared.vector.RevVec.{RevVec}
use Rattle.jr_part.specs.declared.need.Need.TheVariants as need
use Rattle.oak_machine.specs.declared.event.Event.{Event}
use Rattle.oak_machine.specs.declared.event.Event.TheVariants as event
use Rattle.oak_machine.specs.History.{History}
use Rattle.oak_port.specs.Ports.{Collecting, Detaching, Idle, Learning, Passing, Publishing, Shown, Starting, Sweeping, Telling, Work}
use Rattle.oak_port.specs.declared.task.Task.{Task}
use Rattle.oak_port.specs.declared.task.Task.TheVariants as task
use Rattle.jcr_law.specs.declared.law.JcrLaw.{JcrLaw}
use Rattle.jcr_law.specs.State.{Call}
use Rattle.jcr_steps.specs.declared.tidying.Tidied.{Tidied}
use Rattle.jcr_steps.specs.declared.tidying.Tidied.TheVariants as tidied
use Rattle.jcr_trans.specs.declared.command.Command.{Command}
use Rattle.jcr_trans.specs.declared.command.Command.TheVariants as command
use Rattle.jcr_run.specs.declared.run.Fetch.{Fetch}
use Rattle.jcr_run.specs.declared.run.Fetch.TheVariants as fetch
use Rattle.jcr_run.specs.declared.run.Phase.{Phase}
use Rattle.jcr_run.specs.declared.run.Phase.TheVariants as phase
use Rattle.jcr_run.specs.declared.run.SessionRun.{SessionRun}
use Rattle.jcr_run.specs.Standing.{IsEndFor, IsReading, IsTidyWork, IsWorkFor, Stands, StandsAt, is_committing}
use Rattle.jr_stage.specs.Stages.{awaited}
use Rattle.jr_stage.proofs.Due.{at_commit}

-- no commit is under way, and none is awaited
pub record IsUncommitted (w : Work) : Type 0 where
  pub none : awaited w ≡ None
  pub apart : at_commit w ≡ false

idles : (w : Work) → w ≡ Idle → IsUncommitted w
idles w idle = record { none = ap awaited idle; apart = ap at_commit idle }

starts : (w : Work) (t : Task) → w ≡ Starting t → IsUncommitted w
starts w t is = record { none = ap awaited is; apart = ap at_commit is }

tells : (w : Work) (e : Event) → w ≡ Telling e → IsUncommitted w
tells w e is = record { none = ap awaited is; apart = ap at_commit is }

detaches : (w : Work) (v : RevVec) → w ≡ Detaching v → IsUncommitted w
detaches w v is = record { none = ap awaited is; apart = ap at_commit is }

-- what is done for a command by a task of the cluster node, of the settings or of the cursor, and by a split or a collection
errands : (h : History) (s : ℕ) (c : Call) (m : Command) (w : Work) → IsWorkFor h s c m w → IsUncommitted w
errands h s c command.BackWrite (Starting task.BackWrite) works = record { none = refl; apart = refl }
errands h s c command.BackWrite (Publishing r) works = record { none = refl; apart = refl }
errands h s c command.BackRead (Starting task.BackRead) works = record { none = refl; apart = refl }
errands h s c command.BackRead (Learning v) works = record { none = refl; apart = refl }
errands h s c command.Sweep (Starting task.Sweep) works = record { none = refl; apart = refl }
errands h s c command.Sweep (Passing r) works = record { none = refl; apart = refl }
errands h s c command.Sweep (Sweeping r) works = record { none = refl; apart = refl }
errands h s c command.Checkpoint (Starting (task.Checkpoint id)) works = record { none = refl; apart = refl }
errands h s c (command.Release id) (Starting (task.Release i)) works = record { none = refl; apart = refl }
errands h s c (command.Observe path deep mask) (Starting task.Observe) works = record { none = refl; apart = refl }
errands h s c command.Events (Starting task.Observe) works = record { none = refl; apart = refl }
errands h s c m w works = absurd works

tidies : (m : Command) (w : Work) → IsTidyWork m w → IsUncommitted w
tidies (command.Split path) (Starting (task.Split q)) works = record { none = refl; apart = refl }
tidies command.Collect (Starting task.Collect) works = record { none = refl; apart = refl }
tidies command.Collect Collecting works = record { none = refl; apart = refl }
tidies m w works = absurd works

tidied_ends : (s : ℕ) (m : Command) (t : Tidied) (w : Work) → IsEndFor s m t w → IsUncommitted w
tidied_ends s (command.Split path) (tidied.Split e) w works = tells w (event.Split s path e) works
tidied_ends s command.Collect (tidied.Collected c) w works = tells w (event.Collected s c) works
tidied_ends s m t w works = absurd works

module _ (law : JcrLaw) (p : Shown) (run : SessionRun) where
  reads : (o : Option Fetch) → IsReading p.work o → IsUncommitted p.work
  reads None h = idles p.work h
  reads (Some (fetch.Tree (need.Node path))) h = starts p.work (task.Load path) h
  reads (Some (fetch.Tree (need.Children path))) h = starts p.work (task.List path) h
  reads (Some (fetch.Tree (need.Subtree path))) h = absurd h
  reads (Some (fetch.Tree need.All)) h = absurd h
  reads (Some (fetch.Changes v)) h = starts p.work (task.Changes v) h

  uncommitted_at : (f : Phase) → is_committing f ≡ false → StandsAt law p run f → IsUncommitted p.work
  uncommitted_at phase.Outside h at = idles p.work at.idle
  uncommitted_at phase.Between h at = reads run.fetch at.1.reads
  uncommitted_at (phase.Moved v) h at = idles p.work at.1.idle
  uncommitted_at phase.Detaching h at = detaches p.work at.1.vector at.1.works
  uncommitted_at (phase.Committing a) h at = absurd (false≢true (sym h))
  uncommitted_at (phase.Committed e a) h at = idles p.work at.1.idle
  uncommitted_at (phase.Working e) h at = errands p.history p.session at.1.call at.1.command p.work at.1.works
  uncommitted_at (phase.Told t) h at = idles p.work at.1.idle
  uncommitted_at phase.Tidying h at = tidies at.1.command p.work at.1.works
  uncommitted_at (phase.Tidied t) h at = tidied_ends p.session at.1.command t p.work at.1.works
  uncommitted_at phase.Over h at = idles p.work at.idle

  -- where the session doesn't commit no commit is at work
  pub uncommitted : Stands law p run → is_committing run.phase ≡ false → IsUncommitted p.work
  uncommitted stands apart = uncommitted_at run.phase apart stands.at
