use Rattle.std.proofs.Common.{Some, ap, false, length}
use Rattle.jcr_law.specs.Lasting.{says_of, starts_of}
use Rattle.jcr_run.proofs.Calling.{forgo_behind_place, forgone_behind_place, settle_behind_place}
use Rattle.jcr_run.proofs.Lawful.{settle_answers}
use Rattle.jcr_run.proofs.Saying.{replied_like, room_kept, room_stays}
use Rattle.jcr_steps.specs.declared.limits.TheConstants.{COMMIT_REPLY_BYTES}
use Rattle.jcr_run.specs.declared.run.SessionRun.{SessionRun}
use Rattle.jcr_session.proofs.Tidying.{settles_unviewed}
use Rattle.jcr_session.proofs.tidy.show_text.Goals as goal

pub settle-requires : goal.settle-requires
settle-requires g c = settles_unviewed (g.P.Port.law c.args.port.now) (g.P.Port.shown c.args.port.now) c.args.run.now c.args.text.now c.requires.settles

pub say_kept-requires-clause-answer : goal.say_kept-requires-clause-answer
say_kept-requires-clause-answer g c =
    settle_answers (g.P.Port.law c.reserve_say.new.self) (g.P.Port.shown c.reserve_say.new.self) c.args.run.now c.settle.new.self c.args.text.now
    (settle_behind_place (g.P.Port.law c.args.port.now) (g.P.Port.law c.reserve_say.new.self) c.in-Ok.ensures.law (g.P.Port.shown c.args.port.now) (g.P.Port.shown c.reserve_say.new.self) c.args.run.now false c.requires.forgoes
    (Some (length c.args.text.now)) c.in-Ok.ensures.ok c.args.text.now c.requires.settles) c.settle.ensures

pub say_kept-requires-clause-room : goal.say_kept-requires-clause-room
say_kept-requires-clause-room g c =
    room_kept (starts_of (g.P.Port.law c.args.port.now)) (says_of (g.P.Port.law c.args.port.now)) (g.P.Port.shown c.args.port.now) (g.P.Port.shown c.reserve_say.new.self) (g.P.Port.shown c.args.port.now).work (length c.args.text.now) c.in-Ok.ensures.ok

pub returns-in-Ok-clause-turned : goal.returns-in-Ok-clause-turned
returns-in-Ok-clause-turned g c =
    forgone_behind_place (g.P.Port.law c.args.port.now) (g.P.Port.law c.reserve_say.new.self) c.in-Ok.ensures.law (g.P.Port.shown c.args.port.now) (g.P.Port.shown c.reserve_say.new.self) c.args.run.now false c.requires.forgoes
    (Some (length c.args.text.now)) c.in-Ok.ensures.ok (g.P.Port.shown c.say_kept.new.port) c.say_kept.new.self c.say_kept.result
    (replied_like (g.P.Port.law c.reserve_say.new.self) (g.P.Port.shown c.reserve_say.new.self) (g.P.Port.shown c.say_kept.new.port) c.args.run.now c.settle.new.self c.say_kept.new.self c.say_kept.result
    (ap (λ (r : SessionRun). r.session) c.settle.ensures.same) (ap (λ (r : SessionRun). r.commands) c.settle.ensures.same) (ap (λ (r : SessionRun). r.index) c.settle.ensures.same)
    c.say_kept.ensures.said c.say_kept.ensures.turned)

-- there is the place that was kept before
pub forgo-requires-clause-forgoes : goal.forgo-requires-clause-forgoes
forgo-requires-clause-forgoes g c =
    forgo_behind_place (g.P.Port.law c.args.port.now) (g.P.Port.law c.reserve_say.new.self) c.in-Err.ensures.law (g.P.Port.shown c.args.port.now) (g.P.Port.shown c.reserve_say.new.self) c.args.run.now false c.requires.forgoes
    (g.P.Port.shown c.args.port.now).room c.in-Err.ensures.err

pub forgo-requires-clause-room : goal.forgo-requires-clause-room
forgo-requires-clause-room g c =
    room_stays (starts_of (g.P.Port.law c.args.port.now)) (says_of (g.P.Port.law c.args.port.now)) (g.P.Port.shown c.args.port.now) (g.P.Port.shown c.reserve_say.new.self) (g.P.Port.shown c.args.port.now).work COMMIT_REPLY_BYTES c.in-Err.ensures.err c.requires.room

pub returns-in-Err-clause-turned : goal.returns-in-Err-clause-turned
returns-in-Err-clause-turned g c =
    forgone_behind_place (g.P.Port.law c.args.port.now) (g.P.Port.law c.reserve_say.new.self) c.in-Err.ensures.law (g.P.Port.shown c.args.port.now) (g.P.Port.shown c.reserve_say.new.self) c.args.run.now false c.requires.forgoes
    (g.P.Port.shown c.args.port.now).room c.in-Err.ensures.err (g.P.Port.shown c.forgo.new.port) c.forgo.new.self c.forgo.result c.forgo.ensures.turned
