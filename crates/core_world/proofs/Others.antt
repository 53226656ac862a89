-- The steps of one session leave the committers and the readers of the others.
use Rattle.std.proofs.Common.{◌≡◌, ℕ, false, cond, Option, Ok, Err, Result, List, refl, ap}
use Rattle.std.specs.Prelude.{◌==◌}
use Rattle.jr_path.specs.declared.path.Path.{Path}
use Rattle.jr_path.specs.Lists.{Text}
use Rattle.jr_rev.specs.declared.revision.Revision.{Revision}
use Rattle.jr_rev.specs.declared.vector.Pin.{Pin}
use Rattle.jr_rev.specs.declared.vector.RevVec.{RevVec}
use Rattle.jr_tree.specs.declared.edit.Edit.{Edit}
use Rattle.oak_clash.specs.declared.mark.MarkAt.{MarkAt}
use Rattle.oak_commit.specs.Clashing.{Met}
use Rattle.oak_doc.specs.declared.document.Document.{Document}
use Rattle.oak_doc.specs.declared.update.Change.{Change}
use Rattle.oak_doc.specs.declared.update.OpFault.{OpFault}
use Rattle.oak_doc.specs.declared.update.OpFault.TheVariants as fault
use Rattle.oak_doc.specs.declared.update.Kept.TheVariants as kept
use Rattle.oak_machine.specs.declared.event.StepKind.{StepKind}
use Rattle.oak_read.specs.declared.reader.Reader.{Reader}
use Rattle.core_clash.specs.Sessions.{Running}
use Rattle.core_world.specs.States.{State, with_session}
use Rattle.oak_machine.specs.declared.event.Event.{Event}
use Rattle.core_world.specs.Steps.{LeavesOthers, after_draw, after_finish, after_last, after_leave, after_login, after_mark, after_observe, after_refresh, after_said, after_task_end, after_undoing, after_want, after_went, after_write, after_write_in_want, lasted_by, marked_by, with_reader, after_attach, after_unfound, after_back, after_checkpoint, after_detach, after_release, after_learn, after_learn_swept, after_out, after_pending, after_sweep, with_observer}
use Rattle.oak_changes.specs.declared.changes.ChangesReader.{ChangesReader}

-- the others have what they had
pub session_other : {X : Type 0} (has : ℕ → Option X) (s : ℕ) (x : Option X) (q : ℕ) → (q == s) ≡ false → with_session has s x q ≡ has q
session_other has s x q h = ap (λ b. cond b x (has q)) h

pub login_others : (w : State) (s : ℕ) → LeavesOthers s w (after_login w s)
login_others w s q h = (refl, refl, refl)

pub refresh_others : (w : State) (s : ℕ) → LeavesOthers s w (after_refresh w s)
refresh_others w s q h = (refl, refl, refl)

pub leave_others : (w : State) (s : ℕ) → LeavesOthers s w (after_leave w s)
leave_others w s q h = (refl, refl, refl)

pub observe_others : (w : State) (s : ℕ) (pin : Pin) → LeavesOthers s w (after_observe w s pin)
observe_others w s pin q h = (refl, refl, refl)

pub said_others : (w : State) (s i : ℕ) (text : Text) → LeavesOthers s w (after_said w s i text)
said_others w s i text q h = (refl, refl, refl)

pub task_end_others : (w : State) (s : ℕ) (e : Event) → LeavesOthers s w (after_task_end w e)
task_end_others w s e q h = (refl, refl, refl)

pub went_others : (w : State) (s : ℕ) (k : StepKind) → LeavesOthers s w (after_went w s k)
went_others w s k q h = (refl, refl, refl)

pub reader_others : (w : State) (s : ℕ) (r : Option Reader) → LeavesOthers s w (with_reader w s r)
reader_others w s r q h = (refl, session_other w.reading s r q h, refl)

pub observer_others : (w : State) (s : ℕ) (r : Option ChangesReader) → LeavesOthers s w (with_observer w s r)
observer_others w s r q h = (refl, refl, session_other w.observing s r q h)

pub draw_others : (w : State) (s : ℕ) (edit : Edit) (marks : List MarkAt) (paths : List Path) → LeavesOthers s w (after_draw w s edit marks paths)
draw_others w s edit marks paths q h = (session_other w.running s _ q h, refl, refl)

pub write_others : (w : State) (s : ℕ) (x : Running) (p : Path) (rest : List Path) → LeavesOthers s w (after_write w s x p rest)
write_others w s x p rest q h = (session_other w.running s _ q h, refl, refl)

pub write_in_want_others : (w : State) (s : ℕ) (x : Running) (p : Path) (rest : List Path) → LeavesOthers s w (after_write_in_want w s x p rest)
write_in_want_others w s x p rest q h = (session_other w.running s _ q h, refl, refl)

marked_others : (w : State) (s : ℕ) (x : Running) (f : Met) (rest : List Met) (o : Result Document OpFault) → LeavesOthers s w (marked_by w s x f rest o)
marked_others w s x f rest (Ok d) q h = (session_other w.running s _ q h, refl, refl)
marked_others w s x f rest (Err g) q h = (session_other w.running s _ q h, refl, refl)

pub mark_others : (w : State) (s : ℕ) (x : Running) (f : Met) (rest : List Met) → LeavesOthers s w (after_mark w s x f rest)
mark_others w s x f rest = marked_others w s x f rest _

lasted_others : (w : State) (s : ℕ) (x : Running) (o : Result Document OpFault) → LeavesOthers s w (lasted_by w s x o)
lasted_others w s x (Ok d) q h = (session_other w.running s _ q h, refl, refl)
lasted_others w s x (Err (fault.Unmet c (kept.Entry o item))) q h = (session_other w.running s _ q h, refl, refl)
lasted_others w s x (Err (fault.Unmet c (kept.Number n))) q h = (refl, refl, refl)
lasted_others w s x (Err (fault.Unmet c kept.Nothing)) q h = (refl, refl, refl)
lasted_others w s x (Err fault.Absent) q h = (refl, refl, refl)
lasted_others w s x (Err fault.Memory) q h = (refl, refl, refl)

pub last_others : (w : State) (s : ℕ) (x : Running) → LeavesOthers s w (after_last w s x)
last_others w s x = lasted_others w s x _

pub want_others : (w : State) (s : ℕ) (x : Running) → LeavesOthers s w (after_want w s x)
want_others w s x q h = (session_other w.running s _ q h, refl, refl)

pub undo_others : (w : State) (s : ℕ) (x : Running) (p : Path) (rest : List Path) → LeavesOthers s w (after_undoing w s x p rest)
undo_others w s x p rest q h = (session_other w.running s _ q h, refl, refl)

pub finish_others : (w : State) (s : ℕ) (x : Running) → LeavesOthers s w (after_finish w s x)
finish_others w s x q h = (session_other w.running s _ q h, refl, refl)

pub pending_others : (w : State) (s : ℕ) → LeavesOthers s w (after_pending w s)
pending_others w s q h = (refl, refl, refl)

pub back_others : (w : State) (s : ℕ) (p : Path) (r : Revision) → LeavesOthers s w (after_back w s p r)
back_others w s p r q h = (refl, refl, refl)

pub out_others : (w : State) (s : ℕ) (r : Revision) → LeavesOthers s w (after_out w s r)
out_others w s r q h = (refl, refl, refl)

pub swept_others : (w : State) (s : ℕ) (r : Revision) → LeavesOthers s w (after_sweep w s r)
swept_others w s r q h = (refl, refl, refl)

pub learn_others : (w : State) (s : ℕ) (last sweep : RevVec) → LeavesOthers s w (after_learn w s last sweep)
learn_others w s last sweep q h = (refl, refl, refl)

pub checkpoint_others : (w : State) (s : ℕ) (i : Text) (pin : Pin) → LeavesOthers s w (after_checkpoint w s i pin)
checkpoint_others w s i pin q h = (refl, refl, refl)

pub release_others : (w : State) (s : ℕ) (i : Text) → LeavesOthers s w (after_release w i)
release_others w s i q h = (refl, refl, refl)

pub attach_others : (w : State) (s : ℕ) (i : Text) → LeavesOthers s w (after_attach w s i)
attach_others w s i q h = (refl, refl, refl)

pub detach_others : (w : State) (s : ℕ) → LeavesOthers s w (after_detach w s)
detach_others w s q h = (refl, refl, refl)

pub unfound_others : (w : State) (s : ℕ) (c : Change) → LeavesOthers s w (after_unfound w s c)
unfound_others w s c q h = (refl, refl, refl)

pub learn_swept_others : (w : State) (s : ℕ) (r : Revision) → LeavesOthers s w (after_learn_swept w s r)
learn_swept_others w s r q h = (refl, refl, refl)
