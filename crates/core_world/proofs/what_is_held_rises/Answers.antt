-- Each step by its lemma.
use Rattle.core_world.proofs.what_is_held_rises.Goals as goal
use Rattle.core_world.specs.Held.{holding_in}
use Rattle.core_world.proofs.Held.{still_holding}
use Rattle.core_world.proofs.Whole.{base_above, bound_keeps, layers_of}
use Rattle.core_world.proofs.Rising.{attach_rises, attach_unfound_rises, back_rises, checkpoint_rises, detach_rises, draw_rises, finish_rises, last_rises, learn_rises, learn_swept_rises, leave_rises, login_rises, mark_rises, observe_rises, out_rises, pending_rises, refresh_rises, task_end_rises, release_rises, release_unfound_rises, said_rises, sweep_rises, undo_rises, went_rises, write_in_want_rises, write_rises}

pub returns-clause-login : goal.returns-clause-login
returns-clause-login g c = λ w s kept on there first. login_rises (g.L.Law.may_start c.args.law.now) (g.L.Law.may_say c.args.law.now) (g.L.Law.proper c.args.law.now) w (layers_of (g.L.Law.may_start c.args.law.now) (g.L.Law.may_say c.args.law.now) w kept) s on there first

pub returns-clause-refresh : goal.returns-clause-refresh
returns-clause-refresh g c = λ w s kept on login stays none unread unobserved. refresh_rises (g.L.Law.may_start c.args.law.now) (g.L.Law.may_say c.args.law.now) (g.L.Law.proper c.args.law.now) w (layers_of (g.L.Law.may_start c.args.law.now) (g.L.Law.may_say c.args.law.now) w kept) s login on stays none unread unobserved

pub returns-clause-leave : goal.returns-clause-leave
returns-clause-leave g c = λ w s kept on few login stays none unread unobserved. leave_rises (g.L.Law.may_start c.args.law.now) (g.L.Law.may_say c.args.law.now) (g.L.Law.proper c.args.law.now) w (layers_of (g.L.Law.may_start c.args.law.now) (g.L.Law.may_say c.args.law.now) w kept) s login on few stays none unread unobserved

pub returns-clause-observe : goal.returns-clause-observe
returns-clause-observe g c = λ w s pin kept few login stays unread unobserved has. observe_rises (g.L.Law.may_start c.args.law.now) (g.L.Law.may_say c.args.law.now) (g.L.Law.proper c.args.law.now) w (layers_of (g.L.Law.may_start c.args.law.now) (g.L.Law.may_say c.args.law.now) w kept) s login pin few stays unread unobserved has

pub returns-clause-said : goal.returns-clause-said
returns-clause-said g c = λ w s i text kept next lawful. said_rises (g.L.Law.may_start c.args.law.now) (g.L.Law.may_say c.args.law.now) (g.L.Law.proper c.args.law.now) w (layers_of (g.L.Law.may_start c.args.law.now) (g.L.Law.may_say c.args.law.now) w kept) s i text next lawful

pub returns-clause-went : goal.returns-clause-went
returns-clause-went g c = λ w s k kept other apart login stays. went_rises (g.L.Law.may_start c.args.law.now) (g.L.Law.may_say c.args.law.now) (g.L.Law.proper c.args.law.now) w (layers_of (g.L.Law.may_start c.args.law.now) (g.L.Law.may_say c.args.law.now) w kept) s login k other apart stays

pub returns-clause-reader : goal.returns-clause-reader
returns-clause-reader g c = λ w s r. still_holding (holding_in w)

pub returns-clause-draw : goal.returns-clause-draw
returns-clause-draw g c = λ w s edit marks kept on login stays detached none lawful. draw_rises (g.L.Law.may_start c.args.law.now) (g.L.Law.may_say c.args.law.now) (g.L.Law.proper c.args.law.now) w (layers_of (g.L.Law.may_start c.args.law.now) (g.L.Law.may_say c.args.law.now) w kept) s edit marks on login stays detached none lawful (base_above (g.L.Law.may_start c.args.law.now) (g.L.Law.may_say c.args.law.now) (g.L.Law.proper c.args.law.now) w kept s on login stays)

pub returns-clause-write : goal.returns-clause-write
returns-clause-write g c = λ w s x p rest kept here uncommitted going unmet next. write_rises (g.L.Law.may_start c.args.law.now) (g.L.Law.may_say c.args.law.now) (g.L.Law.proper c.args.law.now) w (layers_of (g.L.Law.may_start c.args.law.now) (g.L.Law.may_say c.args.law.now) w kept) s x here uncommitted going p rest unmet next

pub returns-clause-write_in_want : goal.returns-clause-write_in_want
returns-clause-write_in_want g c = λ w s x p rest kept here uncommitted going unmet next. write_in_want_rises (g.L.Law.may_start c.args.law.now) (g.L.Law.may_say c.args.law.now) (g.L.Law.proper c.args.law.now) w (layers_of (g.L.Law.may_start c.args.law.now) (g.L.Law.may_say c.args.law.now) w kept) s x here uncommitted going p rest unmet next

pub returns-clause-mark : goal.returns-clause-mark
returns-clause-mark g c = λ w s x f rest kept here uncommitted going next. mark_rises (g.L.Law.may_start c.args.law.now) (g.L.Law.may_say c.args.law.now) (g.L.Law.proper c.args.law.now) w (layers_of (g.L.Law.may_start c.args.law.now) (g.L.Law.may_say c.args.law.now) w kept) s x here uncommitted going f rest next

pub returns-clause-last : goal.returns-clause-last
returns-clause-last g c = λ w s x kept here uncommitted going unmet none_left. last_rises (g.L.Law.may_start c.args.law.now) (g.L.Law.may_say c.args.law.now) (g.L.Law.proper c.args.law.now) w (layers_of (g.L.Law.may_start c.args.law.now) (g.L.Law.may_say c.args.law.now) w kept) s x here uncommitted going unmet none_left

pub returns-clause-want : goal.returns-clause-want
returns-clause-want g c = λ w s x. still_holding (holding_in w)

pub returns-clause-undo : goal.returns-clause-undo
returns-clause-undo g c = λ w s x p rest kept here uncommitted undoing next. undo_rises (g.L.Law.may_start c.args.law.now) (g.L.Law.may_say c.args.law.now) (g.L.Law.proper c.args.law.now) w (layers_of (g.L.Law.may_start c.args.law.now) (g.L.Law.may_say c.args.law.now) w kept) s x here p rest uncommitted undoing next

pub returns-clause-finish : goal.returns-clause-finish
returns-clause-finish g c = λ w s x kept here through. finish_rises (g.L.Law.may_start c.args.law.now) (g.L.Law.may_say c.args.law.now) (g.L.Law.proper c.args.law.now) w (layers_of (g.L.Law.may_start c.args.law.now) (g.L.Law.may_say c.args.law.now) w kept) s x here through

pub returns-clause-pending : goal.returns-clause-pending
returns-clause-pending g c = λ w s kept login stays. pending_rises (g.L.Law.may_start c.args.law.now) (g.L.Law.may_say c.args.law.now) (g.L.Law.proper c.args.law.now) w (layers_of (g.L.Law.may_start c.args.law.now) (g.L.Law.may_say c.args.law.now) w kept) s login stays

pub returns-clause-back : goal.returns-clause-back
returns-clause-back g c = λ w s p r kept login stays other. back_rises (g.L.Law.may_start c.args.law.now) (g.L.Law.may_say c.args.law.now) (g.L.Law.proper c.args.law.now) w (layers_of (g.L.Law.may_start c.args.law.now) (g.L.Law.may_say c.args.law.now) w kept) s login p r stays other

pub returns-clause-out : goal.returns-clause-out
returns-clause-out g c = λ w s r kept login of low. out_rises (g.L.Law.may_start c.args.law.now) (g.L.Law.may_say c.args.law.now) (g.L.Law.proper c.args.law.now) w (layers_of (g.L.Law.may_start c.args.law.now) (g.L.Law.may_say c.args.law.now) w kept) s login r of low

pub returns-clause-learn : goal.returns-clause-learn
returns-clause-learn g c = λ w s last sweep kept on login were. learn_rises (g.L.Law.may_start c.args.law.now) (g.L.Law.may_say c.args.law.now) (g.L.Law.proper c.args.law.now) w (layers_of (g.L.Law.may_start c.args.law.now) (g.L.Law.may_say c.args.law.now) w kept) s login on last sweep were

pub returns-clause-swept : goal.returns-clause-swept
returns-clause-swept g c = λ w s r kept login of low. sweep_rises (g.L.Law.may_start c.args.law.now) (g.L.Law.may_say c.args.law.now) (g.L.Law.proper c.args.law.now) w (layers_of (g.L.Law.may_start c.args.law.now) (g.L.Law.may_say c.args.law.now) w kept) s login r of low

pub returns-clause-learn_swept : goal.returns-clause-learn_swept
returns-clause-learn_swept g c = λ w s r kept login stays of low. learn_swept_rises (g.L.Law.may_start c.args.law.now) (g.L.Law.may_say c.args.law.now) (g.L.Law.proper c.args.law.now) w (layers_of (g.L.Law.may_start c.args.law.now) (g.L.Law.may_say c.args.law.now) w kept) s login r stays of low

pub returns-clause-checkpoint : goal.returns-clause-checkpoint
returns-clause-checkpoint g c = λ w s i pin kept on login stays detached has. checkpoint_rises (g.L.Law.may_start c.args.law.now) (g.L.Law.may_say c.args.law.now) (g.L.Law.proper c.args.law.now) w (layers_of (g.L.Law.may_start c.args.law.now) (g.L.Law.may_say c.args.law.now) w kept) s login i pin on stays detached has

pub returns-clause-release : goal.returns-clause-release
returns-clause-release g c = λ w i kept has. release_rises (g.L.Law.may_start c.args.law.now) (g.L.Law.may_say c.args.law.now) (g.L.Law.proper c.args.law.now) w (layers_of (g.L.Law.may_start c.args.law.now) (g.L.Law.may_say c.args.law.now) w kept) i has

pub returns-clause-attach : goal.returns-clause-attach
returns-clause-attach g c = λ w s i v kept on login stays detached unread has. attach_rises (g.L.Law.may_start c.args.law.now) (g.L.Law.may_say c.args.law.now) (g.L.Law.proper c.args.law.now) w (layers_of (g.L.Law.may_start c.args.law.now) (g.L.Law.may_say c.args.law.now) w kept) s login i v on stays detached unread has

pub returns-clause-detach : goal.returns-clause-detach
returns-clause-detach g c = λ w s kept login stays detached reads. detach_rises (g.L.Law.may_start c.args.law.now) (g.L.Law.may_say c.args.law.now) (g.L.Law.proper c.args.law.now) w (layers_of (g.L.Law.may_start c.args.law.now) (g.L.Law.may_say c.args.law.now) w kept) s login stays detached reads

pub returns-clause-attach_unfound : goal.returns-clause-attach_unfound
returns-clause-attach_unfound g c = λ w s i kept login stays none. attach_unfound_rises (g.L.Law.may_start c.args.law.now) (g.L.Law.may_say c.args.law.now) (g.L.Law.proper c.args.law.now) w (layers_of (g.L.Law.may_start c.args.law.now) (g.L.Law.may_say c.args.law.now) w kept) s login i stays none

pub returns-clause-release_unfound : goal.returns-clause-release_unfound
returns-clause-release_unfound g c = λ w s i kept login stays none. release_unfound_rises (g.L.Law.may_start c.args.law.now) (g.L.Law.may_say c.args.law.now) (g.L.Law.proper c.args.law.now) w (layers_of (g.L.Law.may_start c.args.law.now) (g.L.Law.may_say c.args.law.now) w kept) s login i stays none

pub returns-clause-bound : goal.returns-clause-bound
returns-clause-bound g c = λ w m t. still_holding (holding_in w)

pub returns-clause-bound_kept : goal.returns-clause-bound_kept
returns-clause-bound_kept g c = λ w m t kept takes. bound_keeps (g.L.Law.may_start c.args.law.now) (g.L.Law.may_say c.args.law.now) (g.L.Law.proper c.args.law.now) w kept m t takes

pub returns-clause-task_end : goal.returns-clause-task_end
returns-clause-task_end g c = λ w s e kept own may. task_end_rises (g.L.Law.may_start c.args.law.now) (g.L.Law.may_say c.args.law.now) (g.L.Law.proper c.args.law.now) w (layers_of (g.L.Law.may_start c.args.law.now) (g.L.Law.may_say c.args.law.now) w kept) s e own may
