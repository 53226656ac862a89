use Rattle.std.proofs.Common.{false, sym, ◌∙◌}
use Rattle.jcr_law.specs.Lasting.{says_of, starts_of}
use Rattle.jcr_run.specs.declared.run.Phase.TheVariants as phase
use Rattle.jcr_run.specs.Nearing.{EndsSooner}
use Rattle.jcr_run.proofs.Calling.{forgo_law}
use Rattle.jcr_session.proofs.Errands.{errand_busy, errand_comes, errand_may, errand_turned, memory_is, refused_forgoes, refused_room, refused_turns}
use Rattle.jcr_session.proofs.Nearer.{nears_by, reply_ends, unwaiting}
use Rattle.jcr_run.proofs.Nearing.{sooner_by}
use Rattle.jcr_session.proofs.errand.work.Goals as goal

pub step-requires : goal.step-requires
step-requires g c = record
    { busy = errand_busy (g.P.Port.law c.args.port.now) (g.P.Port.shown c.args.port.now) c.args.run.now c.args.errand c.requires.stands }

pub errand_came-requires : goal.errand_came-requires
errand_came-requires g c = errand_comes (g.P.Port.law c.args.port.now) (g.P.Port.shown c.args.port.now) (g.P.Port.shown c.step.new.self)
    c.step.result c.args.run.now c.args.errand c.requires.stands c.step.ensures.steps

-- memory was refused
pub forgo-requires-clause-forgoes : goal.forgo-requires-clause-forgoes
forgo-requires-clause-forgoes g c =
    let law = g.P.Port.law c.args.port.now in
    let old = g.P.Port.shown c.args.port.now in
    let new = g.P.Port.shown c.step.new.self in
    let comes = errand_comes law old new c.step.result c.args.run.now c.args.errand c.requires.stands c.step.ensures.steps in
    forgo_law law (g.P.Port.law c.step.new.self) c.step.ensures.law new c.args.run.now false
    (refused_forgoes law old new c.step.result c.args.run.now c.args.errand c.requires.stands c.step.ensures.steps
    (memory_is c.step.result comes (sym c.errand_came.ensures ∙ c.in-Refused.is)))

pub forgo-requires-clause-room : goal.forgo-requires-clause-room
forgo-requires-clause-room g c = refused_room (g.P.Port.law c.args.port.now) (g.P.Port.shown c.args.port.now)
    (g.P.Port.shown c.step.new.self) c.step.result c.args.run.now c.args.errand c.requires.stands c.step.ensures.steps

pub returns-in-Refused-clause-turned : goal.returns-in-Refused-clause-turned
returns-in-Refused-clause-turned g c =
    let law = g.P.Port.law c.args.port.now in
    let old = g.P.Port.shown c.args.port.now in
    let new = g.P.Port.shown c.step.new.self in
    let comes = errand_comes law old new c.step.result c.args.run.now c.args.errand c.requires.stands c.step.ensures.steps in
    refused_turns law old new c.step.result c.args.run.now c.args.errand c.requires.stands c.step.ensures.steps
    (g.P.Port.law c.step.new.self) c.step.ensures.law (g.P.Port.shown c.forgo.new.port) c.forgo.new.self c.forgo.result
    (memory_is c.step.result comes (sym c.errand_came.ensures ∙ c.in-Refused.is)) c.forgo.ensures.said c.forgo.ensures.turned

pub returns-in-Refused-clause-stays : goal.returns-in-Refused-clause-stays
returns-in-Refused-clause-stays g c = reply_ends
    (EndsSooner (g.P.Port.left c.args.port.now) (g.P.Port.left c.forgo.new.port) (g.P.Port.shown c.args.port.now))
    (record c.args.run.now { phase = phase.Working c.args.errand }) c.forgo.new.self c.forgo.result c.forgo.ensures.said

-- it goes on, or has ended
pub come_on-requires : goal.come_on-requires
come_on-requires g c = record {
  comes = errand_may (g.P.Port.law c.args.port.now) (g.P.Port.shown c.args.port.now) (g.P.Port.shown c.step.new.self) c.step.result
      c.args.run.now c.args.errand c.requires.stands c.step.ensures.steps c.errand_came.result c.errand_came.ensures
      c.in_default.not-Refused;
}

pub returns-in_default-clause-turned : goal.returns-in_default-clause-turned
returns-in_default-clause-turned g c =
    errand_turned (g.P.Port.law c.args.port.now) (g.P.Port.shown c.args.port.now) (g.P.Port.shown c.step.new.self) c.step.result
    c.args.run.now c.args.errand c.requires.stands c.step.ensures.steps
    c.errand_came.result c.errand_came.ensures c.in_default.not-Refused c.come_on.new.run c.come_on.ensures.run c.come_on.result
    c.come_on.ensures.turn

pub returns-in_default-clause-stays : goal.returns-in_default-clause-stays
returns-in_default-clause-stays g c =
    let law = g.P.Port.law c.args.port.now in
    let old = g.P.Port.shown c.args.port.now in
    let new = g.P.Port.shown c.step.new.self in
    nears_by c.args.run.now c.args.errand _ c.errand_came.result c.come_on.new.run c.come_on.result c.come_on.ensures.run
    c.come_on.ensures.turn
    (unwaiting c.step.result _
    (errand_comes law old new c.step.result c.args.run.now c.args.errand c.requires.stands c.step.ensures.steps)
    (sooner_by (starts_of law) (says_of law) old new c.step.result c.step.ensures.steps (g.P.Port.left c.args.port.now)
    (g.P.Port.left c.step.new.self) c.step.ensures.lowers))
