-- Between the turns of a session its base has moved for a refresh, an attach or a detach, or behind its commit.
use Rattle.std.proofs.Common.{◌≡◌, inl, inr, ℕ, true, false, Some, refl, sym, ap, ◌∙◌}
use Rattle.std.specs.Prelude.{slice_get}
use mathlib.Core.Bool.{false≢true}
use Rattle.oak_machine.specs.History.{Past}
use Rattle.oak_machine.specs.Sessions.{has_left, has_login}
use Rattle.oak_port.specs.Ports.{Awaiting, Collecting, Deciding, Detaching, Idle, Learning, Passing, Publishing, Shown, Starting, Sweeping, Telling, Undoing, Work, Writing}
use Rattle.oak_commit.specs.declared.outcome.CommitEnd.{CommitEnd}
use Rattle.oak_commit.specs.declared.outcome.CommitEnd.TheVariants as commit
use Rattle.jcr_trans.specs.declared.command.Command.{Command}
use Rattle.jcr_trans.specs.declared.command.Command.TheVariants as command
use Rattle.jcr_law.specs.declared.law.JcrLaw.{JcrLaw}
use Rattle.jcr_law.specs.Since.{is_unmoved}
use Rattle.jcr_law.specs.State.{Call}
use Rattle.jcr_run.specs.declared.run.Phase.{Phase}
use Rattle.jcr_run.specs.declared.run.Phase.TheVariants as phase
use Rattle.jcr_run.specs.declared.run.SessionRun.{SessionRun}
use Rattle.jcr_run.specs.Standing.{HasCommitted, IsCommitting, MovesBase, Stands, StandsAt, due_by, due_for, is_move, is_moving}
use Rattle.jcr_run.proofs.Lawful.{moving_due}
use Rattle.jcr_run.proofs.Nexts.{due_at}
use Rattle.jcr_run.proofs.Stages.{next_is}

-- a command that is to move the base
moves_its_base : (run : SessionRun) (m : Command) → slice_get run.commands run.index ≡ Some m → is_moving (due_for run) ≡ true → is_move m ≡ true
moves_its_base run m next moves = by m (moving_due run.attached m (ap is_moving (sym (due_at run m next)) ∙ moves)).1
  where
    by : (m : Command) → is_moving (due_by m) ≡ true → is_move m ≡ true
    by (command.Refresh keep) h = refl
    by (command.Attach id) h = refl
    by command.Detach h = refl
    by m h = absurd (false≢true h)

-- a commit under way
still_there : (past : Past) (s : ℕ) (work : Work) → IsCommitting past s work → is_unmoved past s ≡ true
still_there past s (Writing r) h = h.0.unmoved
still_there past s (Undoing r e) h = h.0.unmoved
still_there past s (Deciding r) h = h.0.unmoved
still_there past s (Awaiting r) h = h.0.unmoved
still_there past s Idle h = absurd h
still_there past s (Starting t) h = absurd h
still_there past s (Publishing r) h = absurd h
still_there past s (Learning u) h = absurd h
still_there past s (Passing r) h = absurd h
still_there past s (Sweeping r) h = absurd h
still_there past s Collecting h = absurd h
still_there past s (Telling e) h = absurd h
still_there past s (Detaching v) h = absurd h

module _ (law : JcrLaw) (p : Shown) (run : SessionRun) (stands : Stands law p run) (login : has_login p.history.past p.session ≡ true) (stays : has_left p.history.past p.session ≡ false) (moved : is_unmoved p.history.past p.session ≡ false) where
  never : {A : Type 0} → is_unmoved p.history.past p.session ≡ true → A
  never unmoved = absurd (false≢true (sym moved ∙ unmoved))

  by_commit : (c : Call) (e : CommitEnd) → HasCommitted law p c e → MovesBase law p.history p.session
  by_commit c (commit.Committed r) h = inr (r, h.drawn, h.committed)
  by_commit c (commit.Clash item o) h = never h.2.unmade.unmoved
  by_commit c commit.Memory h = never h.2.unmoved

  by_phase : (f : Phase) → StandsAt law p run f → MovesBase law p.history p.session
  by_phase phase.Outside h = absurd (false≢true (sym h.out ∙ login))
  by_phase phase.Between h = never h.1.unmoved
  by_phase (phase.Moved v) h = inl (h.1.command, next_is law p run stands ∙ h.1.for.next, moves_its_base run h.1.command h.1.for.next h.1.moves)
  by_phase phase.Detaching h =
      inl (h.1.half.command, next_is law p run stands ∙ h.1.half.next, moves_its_base run h.1.half.command h.1.half.next (ap is_moving h.1.half.detaches))
  by_phase (phase.Committing a) h = never (still_there p.history.past p.session p.work h.1.commits)
  by_phase (phase.Committed e a) h = by_commit h.1.call e h.1.ended
  by_phase (phase.Working e) h = never h.1.unmoved
  by_phase (phase.Told t) h = never h.1.unmoved
  by_phase phase.Tidying h = never h.1.unmoved
  by_phase (phase.Tidied t) h = never h.1.unmoved
  by_phase phase.Over h = absurd (false≢true (sym stays ∙ h.left))

  pub base_moves : MovesBase law p.history p.session
  base_moves = by_phase run.phase stands.at
