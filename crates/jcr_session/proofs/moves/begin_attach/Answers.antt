use Rattle.std.proofs.Common.{ap, refl, false, subst, ◌∙◌, ◌<◌, arith}
use Rattle.oak_port.specs.Ports.{Idle, Steps}
use Rattle.oak_port.specs.declared.task.StepOut.{StepOut}
use Rattle.oak_port.specs.declared.task.Task.TheVariants as task
use Rattle.oak_machine.specs.declared.event.StepKind.TheVariants as kind
use Rattle.jcr_law.specs.Lasting.{says_of, starts_of}
use Rattle.jcr_run.specs.declared.next.Due.TheVariants as due
use Rattle.jcr_steps.specs.declared.errand.Told.TheVariants as told
use Rattle.jcr_run.specs.declared.run.Phase.TheVariants as phase
use Rattle.jcr_run.proofs.Calling.{busy_by, forgo_behind, steps_law, turned_idle}
use Rattle.jcr_run.proofs.Coming.{attach_comes, attached_is, missed_is, unattached_is}
use Rattle.jcr_run.proofs.Lawful.{at_between, between_forgoes, idle_by}
use Rattle.jcr_session.proofs.Moved.{attach_asked, attach_begins, attaches, misses}
use Rattle.jcr_session.proofs.Nearer.{further, reply_steps}
use Rattle.jcr_run.proofs.Nexts.{next_due}
use Rattle.jcr_run.proofs.Saying.{refused_room}
use Rattle.jcr_run.proofs.Starting.{step_stops}
use Rattle.jcr_run.proofs.Waiting.{by_waits}
use Rattle.jcr_run.proofs.Readying.{ready_by}
use Rattle.jcr_run.specs.Standing.{is_events, reads_for}
use Rattle.jcr_session.proofs.moves.begin_attach.Goals as goal

pub start-requires-clause-idle : goal.start-requires-clause-idle
start-requires-clause-idle g c = idle_by (g.P.Port.law c.args.port.now) (g.P.Port.shown c.args.port.now) c.args.run.now c.requires.stands c.requires.between c.requires.ready.done

pub start-requires-clause-may : goal.start-requires-clause-may
start-requires-clause-may g c = attach_begins (g.P.Port.law c.args.port.now) (g.P.Port.shown c.args.port.now) c.args.run.now c.requires.stands c.requires.between c.args.target.id c.requires.next

pub start-requires-clause-asked : goal.start-requires-clause-asked
start-requires-clause-asked g c = attach_asked (g.P.Port.law c.args.port.now) (g.P.Port.shown c.args.port.now) c.args.run.now c.requires.stands c.args.target c.requires.target

pub step-requires : goal.step-requires
step-requires g c = record { busy = λ idle. busy_by (g.P.Port.shown c.start.new.self).work (task.Attach c.args.target.id) c.in-Ok.ensures.ok.work_is idle }

pub attach_came-requires : goal.attach_came-requires
attach_came-requires g c =
    let law = g.P.Port.law c.start.new.self in
    attach_comes (starts_of law) (says_of law) (g.P.Port.shown c.start.new.self) (g.P.Port.shown c.step.new.self) c.step.result c.step.ensures.steps c.args.target.id c.in-Ok.ensures.ok.work_is

-- memory was refused for the task
pub forgo-requires-clause-forgoes : goal.forgo-requires-clause-forgoes
forgo-requires-clause-forgoes g c =
    let m = next_due c.args.run.now due.Attach c.requires.next refl in
    let mid = g.P.Port.shown c.start.new.self in
    forgo_behind (g.P.Port.law c.args.port.now) (g.P.Port.law c.start.new.self) c.in-Err.ensures.law (g.P.Port.shown c.args.port.now) mid (by_waits (g.P.Port.law c.args.port.now) (g.P.Port.shown c.args.port.now) mid Idle (g.P.Port.shown c.args.port.now).room c.in-Err.ensures.err) c.in-Err.ensures.err.work_is c.args.run.now false
    (between_forgoes (g.P.Port.law c.args.port.now) (g.P.Port.shown c.args.port.now) c.args.run.now c.requires.stands c.requires.between m.0 m.1 c.requires.ready.done)

pub forgo-requires-clause-room : goal.forgo-requires-clause-room
forgo-requires-clause-room g c = refused_room (g.P.Port.shown c.args.port.now).room (g.P.Port.shown c.start.new.self).room c.in-Err.ensures.err.room_is c.requires.place.told

pub returns-in-Err-clause-turned : goal.returns-in-Err-clause-turned
returns-in-Err-clause-turned g c =
    let m = next_due c.args.run.now due.Attach c.requires.next refl in
    let mid = g.P.Port.shown c.start.new.self in
    turned_idle (g.P.Port.law c.args.port.now) (g.P.Port.law c.start.new.self) c.in-Err.ensures.law (g.P.Port.shown c.args.port.now) mid (by_waits (g.P.Port.law c.args.port.now) (g.P.Port.shown c.args.port.now) mid Idle (g.P.Port.shown c.args.port.now).room c.in-Err.ensures.err) c.in-Err.ensures.err.work_is c.args.run.now false
    (between_forgoes (g.P.Port.law c.args.port.now) (g.P.Port.shown c.args.port.now) c.args.run.now c.requires.stands c.requires.between m.0 m.1 c.requires.ready.done) (g.P.Port.shown c.forgo.new.port) c.forgo.new.self c.forgo.result c.forgo.ensures.turned

-- memory was refused for the step
pub forgo-requires-in-Refused-clause-forgoes : goal.forgo-requires-in-Refused-clause-forgoes
forgo-requires-in-Refused-clause-forgoes g c =
    let m = next_due c.args.run.now due.Attach c.requires.next refl in
    let law = g.P.Port.law c.start.new.self in
    let mid = g.P.Port.shown c.start.new.self in
    let new = g.P.Port.shown c.step.new.self in
    let stops = step_stops (g.P.Port.law c.args.port.now) (g.P.Port.shown c.args.port.now) mid new (task.Attach c.args.target.id) (g.P.Port.shown c.args.port.now).room c.step.result (λ h n own w made. made) (at_between (g.P.Port.law c.args.port.now) (g.P.Port.shown c.args.port.now) c.args.run.now c.requires.stands c.requires.between).0.nodes c.in-Ok.ensures.ok (steps_law (g.P.Port.law c.args.port.now) law c.in-Ok.ensures.law mid new c.step.result c.step.ensures.steps)
    (unattached_is c.step.result (attach_comes (starts_of law) (says_of law) mid new c.step.result c.step.ensures.steps c.args.target.id c.in-Ok.ensures.ok.work_is) c.in-Refused.ensures) in
    forgo_behind (g.P.Port.law c.args.port.now) (g.P.Port.law c.step.new.self) (c.step.ensures.law ∙ c.in-Ok.ensures.law) (g.P.Port.shown c.args.port.now) new stops.0 stops.1 c.args.run.now false (between_forgoes (g.P.Port.law c.args.port.now) (g.P.Port.shown c.args.port.now) c.args.run.now c.requires.stands c.requires.between m.0 m.1 c.requires.ready.done)

pub forgo-requires-in-Refused-clause-room : goal.forgo-requires-in-Refused-clause-room
forgo-requires-in-Refused-clause-room g c = refused_room (g.P.Port.shown c.args.port.now).room (g.P.Port.shown c.step.new.self).room (c.step.ensures.steps.room ∙ c.in-Ok.ensures.ok.room_is) c.requires.place.told

pub returns-in-Refused-clause-turned : goal.returns-in-Refused-clause-turned
returns-in-Refused-clause-turned g c =
    let m = next_due c.args.run.now due.Attach c.requires.next refl in
    let law = g.P.Port.law c.start.new.self in
    let mid = g.P.Port.shown c.start.new.self in
    let new = g.P.Port.shown c.step.new.self in
    let stops = step_stops (g.P.Port.law c.args.port.now) (g.P.Port.shown c.args.port.now) mid new (task.Attach c.args.target.id) (g.P.Port.shown c.args.port.now).room c.step.result (λ h n own w made. made) (at_between (g.P.Port.law c.args.port.now) (g.P.Port.shown c.args.port.now) c.args.run.now c.requires.stands c.requires.between).0.nodes c.in-Ok.ensures.ok (steps_law (g.P.Port.law c.args.port.now) law c.in-Ok.ensures.law mid new c.step.result c.step.ensures.steps)
    (unattached_is c.step.result (attach_comes (starts_of law) (says_of law) mid new c.step.result c.step.ensures.steps c.args.target.id c.in-Ok.ensures.ok.work_is) c.in-Refused.ensures) in
    turned_idle (g.P.Port.law c.args.port.now) (g.P.Port.law c.step.new.self) (c.step.ensures.law ∙ c.in-Ok.ensures.law) (g.P.Port.shown c.args.port.now) new stops.0 stops.1 c.args.run.now false (between_forgoes (g.P.Port.law c.args.port.now) (g.P.Port.shown c.args.port.now) c.args.run.now c.requires.stands c.requires.between m.0 m.1 c.requires.ready.done)
    (g.P.Port.shown c.forgo-in-Refused.new.port) c.forgo-in-Refused.new.self c.forgo-in-Refused.result c.forgo-in-Refused.ensures.turned

pub returns-in-Err-clause-steps : goal.returns-in-Err-clause-steps
returns-in-Err-clause-steps g c = reply_steps _ _ _ c.forgo.result c.forgo.ensures.said

pub returns-in-Refused-clause-steps : goal.returns-in-Refused-clause-steps
returns-in-Refused-clause-steps g c = reply_steps _ _ _ c.forgo-in-Refused.result c.forgo-in-Refused.ensures.said

-- the base moves
pub returns-in-To-clause-turned : goal.returns-in-To-clause-turned
returns-in-To-clause-turned g c =
    let m = next_due c.args.run.now due.Attach c.requires.next refl in
    let law = g.P.Port.law c.start.new.self in
    let mid = g.P.Port.shown c.start.new.self in
    let new = g.P.Port.shown c.step.new.self in
    attaches (g.P.Port.law c.args.port.now) (g.P.Port.shown c.args.port.now) mid new (g.P.Port.shown c.args.port.now).room c.args.run.now c.requires.stands c.requires.between c.requires.ready.done
    c.args.target c.requires.target c.requires.next c.requires.place c.in-Ok.ensures.ok c.in-To.pin
    (subst (λ (a : StepOut). Steps (starts_of (g.P.Port.law c.args.port.now)) (says_of (g.P.Port.law c.args.port.now)) mid new a)
    (attached_is c.step.result c.in-To.pin (attach_comes (starts_of law) (says_of law) mid new c.step.result c.step.ensures.steps c.args.target.id c.in-Ok.ensures.ok.work_is) c.in-To.ensures)
    (steps_law (g.P.Port.law c.args.port.now) law c.in-Ok.ensures.law mid new c.step.result c.step.ensures.steps))
    c.move_to.new.self (λ x t holds is. c.move_to.ensures.moved x t holds (ready_by c.args.run.now m.0 m.1 (ap reads_for c.requires.next) (ap is_events c.requires.next) c.requires.ready.ready).settled is)

pub returns-in-To-clause-steps : goal.returns-in-To-clause-steps
returns-in-To-clause-steps g c =
    further c.args.run.now (record c.args.run.now { held = c.move_to.new.self; phase = phase.Moved c.in-To.pin.base }) kind.Settings phase.Between c.requires.between refl refl (let lt : 1 < 3 = omega arith in lt)

-- there is no such checkpoint
pub returns-in-Missed-clause-turned : goal.returns-in-Missed-clause-turned
returns-in-Missed-clause-turned g c =
    let law = g.P.Port.law c.start.new.self in
    let mid = g.P.Port.shown c.start.new.self in
    let new = g.P.Port.shown c.step.new.self in
    misses (g.P.Port.law c.args.port.now) (g.P.Port.shown c.args.port.now) mid new (g.P.Port.shown c.args.port.now).room c.args.run.now c.requires.stands c.requires.between c.requires.ready.done
    c.args.target c.requires.target c.requires.next c.requires.place c.in-Ok.ensures.ok
    (subst (λ (a : StepOut). Steps (starts_of (g.P.Port.law c.args.port.now)) (says_of (g.P.Port.law c.args.port.now)) mid new a)
    (missed_is c.step.result (attach_comes (starts_of law) (says_of law) mid new c.step.result c.step.ensures.steps c.args.target.id c.in-Ok.ensures.ok.work_is) c.in-Missed.ensures)
    (steps_law (g.P.Port.law c.args.port.now) law c.in-Ok.ensures.law mid new c.step.result c.step.ensures.steps))

pub returns-in-Missed-clause-steps : goal.returns-in-Missed-clause-steps
returns-in-Missed-clause-steps g c =
    further c.args.run.now (record c.args.run.now { phase = phase.Told (told.Text c.args.target.missing) }) kind.Settings phase.Between c.requires.between refl refl (let lt : 1 < 3 = omega arith in lt)
