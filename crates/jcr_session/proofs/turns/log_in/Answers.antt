use Rattle.std.proofs.Common.{refl, sym, subst, ◌∙◌, ◌<◌, arith}
use Rattle.oak_port.specs.Ports.{Steps}
use Rattle.oak_port.specs.declared.task.StepOut.{StepOut}
use Rattle.oak_port.specs.declared.task.Task.TheVariants as task
use Rattle.jcr_law.specs.Lasting.{says_of, starts_of}
use Rattle.jcr_session.proofs.Asking.{login_asked}
use Rattle.jcr_run.proofs.Calling.{busy_by, steps_law}
use Rattle.jcr_run.proofs.Coming.{login_comes, pinned_is}
use Rattle.jcr_session.proofs.Living.{logged_in, outside_begins, outside_idle}
use Rattle.jcr_session.proofs.Nearer.{further}
use Rattle.oak_machine.specs.declared.event.StepKind.TheVariants as kind
use Rattle.jcr_run.specs.declared.run.Phase.TheVariants as phase
use Rattle.jcr_session.proofs.turns.log_in.Goals as goal

pub start-requires-clause-idle : goal.start-requires-clause-idle
start-requires-clause-idle g c = outside_idle (g.P.Port.law c.args.port.now) (g.P.Port.shown c.args.port.now) c.args.run.now c.requires.stands c.requires.outside

pub start-requires-clause-may : goal.start-requires-clause-may
start-requires-clause-may g c = outside_begins (g.P.Port.law c.args.port.now) (g.P.Port.shown c.args.port.now) c.args.run.now c.requires.stands c.requires.outside

pub start-requires-clause-asked : goal.start-requires-clause-asked
start-requires-clause-asked g c = login_asked (g.P.Port.law c.args.port.now) (g.P.Port.shown c.args.port.now) c.args.run.now c.requires.stands c.requires.outside

pub step-requires : goal.step-requires
step-requires g c = record { busy = λ idle. busy_by (g.P.Port.shown c.start.new.self).work task.Login c.in-Ok.ensures.ok.work_is idle }

-- it is logged in
pub returns-in-Some-clause-turned : goal.returns-in-Some-clause-turned
returns-in-Some-clause-turned g c =
    let mid = g.P.Port.shown c.start.new.self in
    let new = g.P.Port.shown c.step.new.self in
    logged_in (g.P.Port.law c.args.port.now) (g.P.Port.shown c.args.port.now) mid new c.args.run.now c.requires.stands c.requires.outside (g.P.Port.shown c.args.port.now).room c.in-Ok.ensures.ok c.in-Some.pin
    (subst (λ (a : StepOut). Steps (starts_of (g.P.Port.law c.args.port.now)) (says_of (g.P.Port.law c.args.port.now)) mid new a) (pinned_is c.step.result c.in-Some.pin (sym c.in-Some.ensures)) (steps_law (g.P.Port.law c.args.port.now) (g.P.Port.law c.start.new.self) c.in-Ok.ensures.law mid new c.step.result c.step.ensures.steps))
    c.move_to.new.self c.move_to.ensures.begins _ _ refl refl

pub returns-in-Some-clause-law : goal.returns-in-Some-clause-law
returns-in-Some-clause-law g c = c.step.ensures.law ∙ c.in-Ok.ensures.law

pub returns-in-None-clause-law : goal.returns-in-None-clause-law
returns-in-None-clause-law g c = c.step.ensures.law ∙ c.in-Ok.ensures.law

-- memory was refused else
pub pinned-requires : goal.pinned-requires
pinned-requires g c =
    let law = g.P.Port.law c.start.new.self in
    login_comes (starts_of law) (says_of law) (g.P.Port.shown c.start.new.self) (g.P.Port.shown c.step.new.self) c.step.result c.step.ensures.steps c.in-Ok.ensures.ok.work_is

pub returns-in-Some-clause-steps : goal.returns-in-Some-clause-steps
returns-in-Some-clause-steps g c =
    further c.args.run.now (record c.args.run.now { held = c.move_to.new.self; phase = phase.Between }) kind.Login phase.Outside c.requires.outside refl refl (let lt : 3 < 4 = omega arith in lt)
