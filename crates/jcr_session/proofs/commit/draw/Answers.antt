use Rattle.std.proofs.Common.{subst, sym, ◌∙◌, false}
use Rattle.oak_port.specs.Ports.{HasRoom, Idle}
use Rattle.oak_port.specs.declared.task.StepOut.{StepOut}
use Rattle.oak_port.specs.declared.task.Task.TheVariants as task
use Rattle.oak_port.specs.Ports.{Steps}
use Rattle.jcr_law.specs.Lasting.{says_of, starts_of}
use Rattle.jcr_session.proofs.Asking.{commit_asked}
use Rattle.jcr_run.proofs.Calling.{busy_by, forgo_behind, steps_law, turned_idle}
use Rattle.jcr_run.proofs.Coming.{draw_comes, undrawn_is, went_is}
use Rattle.jcr_session.proofs.Drawing.{draw_begins, draw_forgoes, draw_turns, draw_stops}
use Rattle.jcr_run.proofs.Waiting.{by_waits}
use Rattle.jcr_session.proofs.Nearer.{reply_stays}
use Rattle.jcr_session.proofs.commit.draw.Goals as goal

pub start-requires-clause-may : goal.start-requires-clause-may
start-requires-clause-may g c = draw_begins (g.P.Port.law c.args.port.now) (g.P.Port.shown c.args.port.now) c.args.run.now c.args.plan c.requires.draws

pub start-requires-clause-asked : goal.start-requires-clause-asked
start-requires-clause-asked g c = commit_asked (g.P.Port.law c.args.port.now) (g.P.Port.shown c.args.port.now) c.args.run.now c.args.plan c.requires.draws

pub step-requires : goal.step-requires
step-requires g c = record { busy = λ idle. busy_by (g.P.Port.shown c.start.new.self).work (task.Commit c.args.plan.edit c.args.plan.marks) c.in-Ok.ensures.ok.work_is idle }

pub has_went-requires : goal.has_went-requires
has_went-requires g c =
    let law = g.P.Port.law c.start.new.self in
    draw_comes (starts_of law) (says_of law) (g.P.Port.shown c.start.new.self) (g.P.Port.shown c.step.new.self) c.step.result c.step.ensures.steps c.args.plan.edit c.args.plan.marks c.in-Ok.ensures.ok.work_is

-- it draws
pub returns-then-has_went-clause-turned : goal.returns-then-has_went-clause-turned
returns-then-has_went-clause-turned g c =
    let w = went_is c.step.result (sym c.has_went.ensures ∙ c.if-has_went.true) in
    draw_turns (g.P.Port.law c.args.port.now) (g.P.Port.shown c.args.port.now) c.args.run.now c.args.plan c.requires.draws (g.P.Port.shown c.start.new.self) (g.P.Port.shown c.step.new.self) c.in-Ok.ensures.ok w.0
    (subst (λ (a : StepOut). Steps (starts_of (g.P.Port.law c.args.port.now)) (says_of (g.P.Port.law c.args.port.now)) (g.P.Port.shown c.start.new.self) (g.P.Port.shown c.step.new.self) a) w.1
    (steps_law (g.P.Port.law c.args.port.now) (g.P.Port.law c.start.new.self) c.in-Ok.ensures.law (g.P.Port.shown c.start.new.self) (g.P.Port.shown c.step.new.self) c.step.result c.step.ensures.steps))

-- memory was refused for its draw
pub forgo-requires-clause-forgoes : goal.forgo-requires-clause-forgoes
forgo-requires-clause-forgoes g c =
    let law = g.P.Port.law c.start.new.self in
    let begun = g.P.Port.shown c.start.new.self in
    let new = g.P.Port.shown c.step.new.self in
    let is = undrawn_is c.step.result (draw_comes (starts_of law) (says_of law) begun new c.step.result c.step.ensures.steps c.args.plan.edit c.args.plan.marks c.in-Ok.ensures.ok.work_is) (sym c.has_went.ensures ∙ c.if-has_went.false) in
    let stops = draw_stops (g.P.Port.law c.args.port.now) (g.P.Port.shown c.args.port.now) c.args.run.now c.args.plan c.requires.draws begun new c.in-Ok.ensures.ok c.step.result (steps_law (g.P.Port.law c.args.port.now) law c.in-Ok.ensures.law begun new c.step.result c.step.ensures.steps) is in
    forgo_behind (g.P.Port.law c.args.port.now) (g.P.Port.law c.step.new.self) (c.step.ensures.law ∙ c.in-Ok.ensures.law) (g.P.Port.shown c.args.port.now) new stops.beside stops.idle c.args.run.now false (draw_forgoes (g.P.Port.law c.args.port.now) (g.P.Port.shown c.args.port.now) c.args.run.now c.args.plan c.requires.draws)

pub forgo-requires-clause-room : goal.forgo-requires-clause-room
forgo-requires-clause-room g c =
    let law = g.P.Port.law c.start.new.self in
    let begun = g.P.Port.shown c.start.new.self in
    let new = g.P.Port.shown c.step.new.self in
    let is = undrawn_is c.step.result (draw_comes (starts_of law) (says_of law) begun new c.step.result c.step.ensures.steps c.args.plan.edit c.args.plan.marks c.in-Ok.ensures.ok.work_is) (sym c.has_went.ensures ∙ c.if-has_went.false) in
    (draw_stops (g.P.Port.law c.args.port.now) (g.P.Port.shown c.args.port.now) c.args.run.now c.args.plan c.requires.draws begun new c.in-Ok.ensures.ok c.step.result (steps_law (g.P.Port.law c.args.port.now) law c.in-Ok.ensures.law begun new c.step.result c.step.ensures.steps) is).room

pub returns-else-has_went-clause-turned : goal.returns-else-has_went-clause-turned
returns-else-has_went-clause-turned g c =
    let law = g.P.Port.law c.start.new.self in
    let begun = g.P.Port.shown c.start.new.self in
    let new = g.P.Port.shown c.step.new.self in
    let is = undrawn_is c.step.result (draw_comes (starts_of law) (says_of law) begun new c.step.result c.step.ensures.steps c.args.plan.edit c.args.plan.marks c.in-Ok.ensures.ok.work_is) (sym c.has_went.ensures ∙ c.if-has_went.false) in
    let stops = draw_stops (g.P.Port.law c.args.port.now) (g.P.Port.shown c.args.port.now) c.args.run.now c.args.plan c.requires.draws begun new c.in-Ok.ensures.ok c.step.result (steps_law (g.P.Port.law c.args.port.now) law c.in-Ok.ensures.law begun new c.step.result c.step.ensures.steps) is in
    turned_idle (g.P.Port.law c.args.port.now) (g.P.Port.law c.step.new.self) (c.step.ensures.law ∙ c.in-Ok.ensures.law) (g.P.Port.shown c.args.port.now) new stops.beside stops.idle c.args.run.now false (draw_forgoes (g.P.Port.law c.args.port.now) (g.P.Port.shown c.args.port.now) c.args.run.now c.args.plan c.requires.draws)
    (g.P.Port.shown c.forgo.new.port) c.forgo.new.self c.forgo.result c.forgo.ensures.turned

-- it isn't begun
pub forgo-requires-in-Err-clause-forgoes : goal.forgo-requires-in-Err-clause-forgoes
forgo-requires-in-Err-clause-forgoes g c =
    forgo_behind (g.P.Port.law c.args.port.now) (g.P.Port.law c.start.new.self) c.in-Err.ensures.law (g.P.Port.shown c.args.port.now) (g.P.Port.shown c.start.new.self) (by_waits (g.P.Port.law c.args.port.now) (g.P.Port.shown c.args.port.now) (g.P.Port.shown c.start.new.self) Idle (g.P.Port.shown c.args.port.now).room c.in-Err.ensures.err) c.in-Err.ensures.err.work_is c.args.run.now false (draw_forgoes (g.P.Port.law c.args.port.now) (g.P.Port.shown c.args.port.now) c.args.run.now c.args.plan c.requires.draws)

pub forgo-requires-in-Err-clause-room : goal.forgo-requires-in-Err-clause-room
forgo-requires-in-Err-clause-room g c =
    subst (λ room. HasRoom room 40) (sym c.in-Err.ensures.err.room_is) c.requires.draws.place.told

pub returns-in-Err-clause-turned : goal.returns-in-Err-clause-turned
returns-in-Err-clause-turned g c =
    turned_idle (g.P.Port.law c.args.port.now) (g.P.Port.law c.start.new.self) c.in-Err.ensures.law (g.P.Port.shown c.args.port.now) (g.P.Port.shown c.start.new.self) (by_waits (g.P.Port.law c.args.port.now) (g.P.Port.shown c.args.port.now) (g.P.Port.shown c.start.new.self) Idle (g.P.Port.shown c.args.port.now).room c.in-Err.ensures.err) c.in-Err.ensures.err.work_is c.args.run.now false (draw_forgoes (g.P.Port.law c.args.port.now) (g.P.Port.shown c.args.port.now) c.args.run.now c.args.plan c.requires.draws)
    (g.P.Port.shown c.forgo-in-Err.new.port) c.forgo-in-Err.new.self c.forgo-in-Err.result c.forgo-in-Err.ensures.turned

pub returns-else-has_went-clause-stays : goal.returns-else-has_went-clause-stays
returns-else-has_went-clause-stays g c = reply_stays _ _ c.forgo.result c.forgo.ensures.said

pub returns-in-Err-clause-stays : goal.returns-in-Err-clause-stays
returns-in-Err-clause-stays g c = reply_stays _ _ c.forgo-in-Err.result c.forgo-in-Err.ensures.said
