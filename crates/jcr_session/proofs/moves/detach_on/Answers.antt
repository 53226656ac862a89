use Rattle.std.proofs.Common.{refl, sym, subst, arith, ◌<◌}
use Rattle.oak_machine.specs.declared.event.StepKind.TheVariants as kind
use Rattle.jcr_law.specs.declared.law.JcrLaw.{JcrLaw}
use Rattle.jcr_run.specs.declared.run.Phase.TheVariants as phase
use Rattle.jcr_session.specs.Begins.{MayStayHalf}
use Rattle.jcr_session.proofs.Moved.{detach_comes, detaching_busy, detaching_settled, half_turns, leaves_checkpoint, stays_half}
use Rattle.jcr_run.proofs.Coming.{detaching_by, pinned_is, unpinned_is}
use Rattle.jcr_session.proofs.Nearer.{further, reply_steps}
use Rattle.jcr_session.proofs.moves.detach_on.Goals as goal

pub step-requires : goal.step-requires
step-requires g c = record { busy = detaching_busy (g.P.Port.law c.args.port.now) (g.P.Port.shown c.args.port.now) c.args.run.now c.requires.stands (detaching_by c.args.run.now.phase c.requires.detaches) }

pub pinned-requires : goal.pinned-requires
pinned-requires g c = detach_comes (g.P.Port.law c.args.port.now) (g.P.Port.shown c.args.port.now) (g.P.Port.shown c.step.new.self) c.step.result c.args.run.now c.requires.stands (detaching_by c.args.run.now.phase c.requires.detaches) c.step.ensures.steps

-- it is made
pub returns-in-Some-clause-turned : goal.returns-in-Some-clause-turned
returns-in-Some-clause-turned g c =
    let law = g.P.Port.law c.args.port.now in
    let old = g.P.Port.shown c.args.port.now in
    let new = g.P.Port.shown c.step.new.self in
    let at = detaching_by c.args.run.now.phase c.requires.detaches in
    leaves_checkpoint law old new c.step.result c.args.run.now c.requires.stands at c.step.ensures.steps c.in-Some.pin (pinned_is c.step.result c.in-Some.pin (sym c.in-Some.ensures))
    c.move_to.new.self (λ x t holds is. c.move_to.ensures.moved x t holds (detaching_settled law old new c.step.result c.args.run.now c.requires.stands at c.step.ensures.steps) is)

pub returns-in-Some-clause-steps : goal.returns-in-Some-clause-steps
returns-in-Some-clause-steps g c =
    further c.args.run.now (record c.args.run.now { held = c.move_to.new.self; phase = phase.Moved c.in-Some.pin.base }) kind.Settings phase.Detaching (detaching_by c.args.run.now.phase c.requires.detaches) refl refl (let lt : 1 < 2 = omega arith in lt)

-- memory was refused for it
pub stay_half-requires : goal.stay_half-requires
stay_half-requires g c =
    let law = g.P.Port.law c.args.port.now in
    let old = g.P.Port.shown c.args.port.now in
    let new = g.P.Port.shown c.step.new.self in
    let at = detaching_by c.args.run.now.phase c.requires.detaches in
    let memory = unpinned_is c.step.result (detach_comes law old new c.step.result c.args.run.now c.requires.stands at c.step.ensures.steps) (sym c.in-None.ensures) in
    record { half = subst (λ (l : JcrLaw). MayStayHalf l new c.args.run.now) (sym c.step.ensures.law) (stays_half law old new c.step.result c.args.run.now c.requires.stands at c.step.ensures.steps memory) }

pub returns-in-None-clause-turned : goal.returns-in-None-clause-turned
returns-in-None-clause-turned g c =
    let law = g.P.Port.law c.args.port.now in
    let old = g.P.Port.shown c.args.port.now in
    let new = g.P.Port.shown c.step.new.self in
    let at = detaching_by c.args.run.now.phase c.requires.detaches in
    let memory = unpinned_is c.step.result (detach_comes law old new c.step.result c.args.run.now c.requires.stands at c.step.ensures.steps) (sym c.in-None.ensures) in
    half_turns law old new c.step.result c.args.run.now c.requires.stands at c.step.ensures.steps memory (g.P.Port.law c.step.new.self) c.step.ensures.law (g.P.Port.shown c.stay_half.new.port) c.stay_half.new.run c.stay_half.result c.stay_half.ensures.said c.stay_half.ensures.turned

pub returns-in-None-clause-steps : goal.returns-in-None-clause-steps
returns-in-None-clause-steps g c = reply_steps _ _ _ c.stay_half.result c.stay_half.ensures.said
