use Rattle.std.proofs.Common.{refl, sym, ap, subst, ◌∙◌, ◌<◌, arith}
use Rattle.oak_port.specs.Ports.{Steps}
use Rattle.oak_port.specs.declared.task.StepOut.{StepOut}
use Rattle.oak_port.specs.declared.task.Task.TheVariants as task
use Rattle.jcr_law.specs.Lasting.{says_of, starts_of}
use Rattle.jcr_run.specs.Standing.{reads_for}
use Rattle.jcr_session.proofs.Asking.{leave_asked}
use Rattle.jcr_run.proofs.Calling.{busy_by, steps_law}
use Rattle.jcr_run.proofs.Coming.{ended_is, leave_comes}
use Rattle.jcr_run.proofs.Lawful.{idle_by, unread_by}
use Rattle.jcr_run.proofs.Starting.{leave_begins, left}
use Rattle.jcr_session.proofs.Nearer.{further}
use Rattle.oak_machine.specs.declared.event.StepKind.TheVariants as kind
use Rattle.jcr_run.specs.declared.run.Phase.TheVariants as phase
use Rattle.jcr_session.proofs.turns.leave.Goals as goal

pub start-requires-clause-idle : goal.start-requires-clause-idle
start-requires-clause-idle g c = idle_by (g.P.Port.law c.args.port.now) (g.P.Port.shown c.args.port.now) c.args.run.now c.requires.stands c.requires.between (unread_by (g.P.Port.law c.args.port.now) (g.P.Port.shown c.args.port.now) c.args.run.now c.requires.stands c.requires.between (ap reads_for c.requires.next))

pub start-requires-clause-may : goal.start-requires-clause-may
start-requires-clause-may g c = leave_begins (g.P.Port.law c.args.port.now) (g.P.Port.shown c.args.port.now) c.args.run.now c.requires.stands c.requires.between

pub start-requires-clause-asked : goal.start-requires-clause-asked
start-requires-clause-asked g c = leave_asked (g.P.Port.law c.args.port.now) (g.P.Port.shown c.args.port.now) c.args.run.now c.requires.stands c.requires.next

pub step-requires : goal.step-requires
step-requires g c = record { busy = λ idle. busy_by (g.P.Port.shown c.start.new.self).work task.End c.in-Ok.ensures.ok.work_is idle }

-- it has left
pub returns-clause-turned : goal.returns-clause-turned
returns-clause-turned g c =
    let mid = g.P.Port.shown c.start.new.self in
    let new = g.P.Port.shown c.step.new.self in
    left (g.P.Port.law c.args.port.now) (g.P.Port.shown c.args.port.now) mid new (g.P.Port.shown c.args.port.now).room c.args.run.now c.requires.stands c.requires.between (unread_by (g.P.Port.law c.args.port.now) (g.P.Port.shown c.args.port.now) c.args.run.now c.requires.stands c.requires.between (ap reads_for c.requires.next)) _ _ c.requires.next c.in-Ok.ensures.ok
    (subst (λ (a : StepOut). Steps (starts_of (g.P.Port.law c.args.port.now)) (says_of (g.P.Port.law c.args.port.now)) mid new a) (ended_is c.step.result (sym c.has_ended.ensures ∙ c.if-not-has_ended.false)) (steps_law (g.P.Port.law c.args.port.now) (g.P.Port.law c.start.new.self) c.in-Ok.ensures.law mid new c.step.result c.step.ensures.steps)) refl refl

pub returns-clause-law : goal.returns-clause-law
returns-clause-law g c = c.step.ensures.law ∙ c.in-Ok.ensures.law

pub returns-then-not-has_ended-clause-law : goal.returns-then-not-has_ended-clause-law
returns-then-not-has_ended-clause-law g c = c.step.ensures.law ∙ c.in-Ok.ensures.law

-- memory was refused else
pub has_ended-requires : goal.has_ended-requires
has_ended-requires g c =
    let law = g.P.Port.law c.start.new.self in
    leave_comes (starts_of law) (says_of law) (g.P.Port.shown c.start.new.self) (g.P.Port.shown c.step.new.self) c.step.result c.step.ensures.steps c.in-Ok.ensures.ok.work_is

pub returns-clause-steps : goal.returns-clause-steps
returns-clause-steps g c =
    further c.args.run.now (record c.args.run.now { phase = phase.Over }) kind.End phase.Between c.requires.between refl refl (let lt : 0 < 3 = omega arith in lt)
