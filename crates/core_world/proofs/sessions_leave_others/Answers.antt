-- By the form of the steps.
use Rattle.core_world.proofs.sessions_leave_others.Goals as goal
use Rattle.core_world.proofs.Others.{learn_swept_others, task_end_others, unfound_others, attach_others, checkpoint_others, detach_others, release_others, pending_others, back_others, out_others, swept_others, learn_others, draw_others, finish_others, last_others, leave_others, login_others, mark_others, observe_others, reader_others, observer_others, refresh_others, said_others, undo_others, want_others, went_others, write_in_want_others, write_others}

pub returns-clause-login : goal.returns-clause-login
returns-clause-login c = login_others

pub returns-clause-refresh : goal.returns-clause-refresh
returns-clause-refresh c = refresh_others

pub returns-clause-leave : goal.returns-clause-leave
returns-clause-leave c = leave_others

pub returns-clause-observe : goal.returns-clause-observe
returns-clause-observe c = observe_others

pub returns-clause-said : goal.returns-clause-said
returns-clause-said c = said_others

pub returns-clause-went : goal.returns-clause-went
returns-clause-went c = went_others

pub returns-clause-reader : goal.returns-clause-reader
returns-clause-reader c = reader_others

pub returns-clause-observer : goal.returns-clause-observer
returns-clause-observer c = observer_others

pub returns-clause-draw : goal.returns-clause-draw
returns-clause-draw c = draw_others

pub returns-clause-write : goal.returns-clause-write
returns-clause-write c = write_others

pub returns-clause-write_in_want : goal.returns-clause-write_in_want
returns-clause-write_in_want c = write_in_want_others

pub returns-clause-mark : goal.returns-clause-mark
returns-clause-mark c = mark_others

pub returns-clause-last : goal.returns-clause-last
returns-clause-last c = last_others

pub returns-clause-want : goal.returns-clause-want
returns-clause-want c = want_others

pub returns-clause-undo : goal.returns-clause-undo
returns-clause-undo c = undo_others

pub returns-clause-finish : goal.returns-clause-finish
returns-clause-finish c = finish_others

pub returns-clause-pending : goal.returns-clause-pending
returns-clause-pending c = pending_others

pub returns-clause-back : goal.returns-clause-back
returns-clause-back c = back_others

pub returns-clause-out : goal.returns-clause-out
returns-clause-out c = out_others

pub returns-clause-swept : goal.returns-clause-swept
returns-clause-swept c = swept_others

pub returns-clause-learn : goal.returns-clause-learn
returns-clause-learn c = learn_others

pub returns-clause-checkpoint : goal.returns-clause-checkpoint
returns-clause-checkpoint c = checkpoint_others

pub returns-clause-release : goal.returns-clause-release
returns-clause-release c = release_others

pub returns-clause-attach : goal.returns-clause-attach
returns-clause-attach c = attach_others

pub returns-clause-detach : goal.returns-clause-detach
returns-clause-detach c = detach_others

pub returns-clause-unfound : goal.returns-clause-unfound
returns-clause-unfound c = unfound_others

pub returns-clause-learn_swept : goal.returns-clause-learn_swept
returns-clause-learn_swept c = learn_swept_others

pub returns-clause-task_end : goal.returns-clause-task_end
returns-clause-task_end c = task_end_others
