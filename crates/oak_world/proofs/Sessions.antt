-- The sessions of a world stay.
use Rattle.std.proofs.Common.{◌≡◌, ℕ, true, Option, Result, Ok, Err, List, is_some, sym, ap, subst}
use Rattle.std.specs.Prelude.{OnErr, OnOk, slice_get}
use Rattle.std.specs.Borrow.{GName}
use Rattle.std.specs.declared.alloc.AllocError.{AllocError}
use Rattle.jr_path.specs.Lists.{Text}
use Rattle.jr_rev.specs.declared.vector.Pin.{Pin}
use Rattle.oak_machine.specs.History.{History}
use Rattle.oak_machine.specs.Laws.{Says, Starts}
use Rattle.oak_port.specs.declared.task.StepOut.{StepOut}
use Rattle.oak_port.specs.declared.task.Task.{Task}
use Rattle.oak_port.specs.Ports.{Steps as StepSeen}
use Rattle.oak_step.specs.declared.work.Work.{Work}
use Rattle.oak_world.specs.Seen.{shown_at}
use Rattle.oak_step.specs.Works.{Begins}
use Rattle.oak_world.specs.Worlds.{WorldOf, said_in, with_reply, with_work}

module _ {L : Type 0} (w u : WorldOf L) (s : ℕ) (there : is_some (slice_get w.history.sessions s) ≡ true) where
  stays : u.history.sessions ≡ w.history.sessions → is_some (slice_get u.history.sessions s) ≡ true
  stays same = subst (λ (ns : List ℕ). is_some (slice_get ns s) ≡ true) (sym same) there

  pub start_there : (r : Result Unit AllocError) (n : ℕ) (pin : Option Pin) (t : Task) → OnOk r ((v : Work) × Begins n pin t v × (u ≡ with_work w s v)) → OnErr r (u ≡ w) → is_some (slice_get u.history.sessions s) ≡ true
  start_there (Ok x) n pin t ok err = stays (ap (λ (x : WorldOf L). x.history.sessions) ok.2)
  start_there (Err x) n pin t ok err = stays (ap (λ (x : WorldOf L). x.history.sessions) err)

  pub reserve_there : (r : Result Unit AllocError) (room : Option ℕ) → OnOk r (u ≡ with_reply w s room) → OnErr r (u ≡ w) → is_some (slice_get u.history.sessions s) ≡ true
  reserve_there (Ok x) room ok err = stays (ap (λ (x : WorldOf L). x.history.sessions) ok)
  reserve_there (Err x) room ok err = stays (ap (λ (x : WorldOf L). x.history.sessions) err)

  pub say_there : (i : ℕ) (text : Text) → u ≡ said_in w s i text → is_some (slice_get u.history.sessions s) ≡ true
  say_there i text e = stays (ap (λ (x : WorldOf L). x.history.sessions) e)

  pub step_there : (starts : Starts) (says : Says) (name : GName) (o : StepOut) → StepSeen starts says (shown_at name w s) (shown_at name u s) o → is_some (slice_get u.history.sessions s) ≡ true
  step_there starts says name o seen = stays (ap (λ (h : History). h.sessions) seen.grows.grown)
