use Rattle.std.proofs.Common.{false, refl, sym, ◌∙◌}
use Rattle.jcr_law.specs.Lasting.{says_of, starts_of}
use Rattle.jcr_run.specs.declared.run.Phase.TheVariants as phase
use Rattle.jcr_run.proofs.Calling.{forgo_law}
use Rattle.jcr_run.proofs.Nearing.{sooner_by}
use Rattle.jcr_session.proofs.Nearer.{counted_turns, reply_steps}
use Rattle.jcr_session.proofs.Tidying.{reply_reads, tidy_busy, tidy_comes, tidy_memory_is, tidy_nears_by, tidy_reads_by, tidy_refused, tidy_refused_room, tidy_refused_turns, tidy_turned, tidy_unwaiting}
use Rattle.jcr_session.proofs.tidy.tidy_once.Goals as goal

pub step-requires : goal.step-requires
step-requires g c = record { busy = tidy_busy (g.P.Port.law c.args.port.now) (g.P.Port.shown c.args.port.now) c.args.run.now c.requires.stands }

pub tidy_came-requires : goal.tidy_came-requires
tidy_came-requires g c = tidy_comes (g.P.Port.law c.args.port.now) (g.P.Port.shown c.args.port.now) (g.P.Port.shown c.step.new.self) c.step.result c.args.run.now c.requires.stands c.step.ensures.steps

-- memory was refused
pub forgo-requires-clause-forgoes : goal.forgo-requires-clause-forgoes
forgo-requires-clause-forgoes g c =
    forgo_law (g.P.Port.law c.args.port.now) (g.P.Port.law c.step.new.self) c.step.ensures.law (g.P.Port.shown c.step.new.self) c.args.run.now false
    (tidy_refused (g.P.Port.law c.args.port.now) (g.P.Port.shown c.args.port.now) (g.P.Port.shown c.step.new.self) c.step.result c.args.run.now c.requires.stands c.step.ensures.steps
    (tidy_memory_is c.step.result (tidy_comes (g.P.Port.law c.args.port.now) (g.P.Port.shown c.args.port.now) (g.P.Port.shown c.step.new.self) c.step.result c.args.run.now c.requires.stands c.step.ensures.steps) (sym c.tidy_came.ensures ∙ c.in-Refused.is)))

pub forgo-requires-clause-room : goal.forgo-requires-clause-room
forgo-requires-clause-room g c = tidy_refused_room (g.P.Port.law c.args.port.now) (g.P.Port.shown c.args.port.now) (g.P.Port.shown c.step.new.self) c.step.result c.args.run.now c.requires.stands c.step.ensures.steps

pub returns-in-Refused-clause-turned : goal.returns-in-Refused-clause-turned
returns-in-Refused-clause-turned g c =
    counted_turns (g.P.Port.law c.args.port.now) (g.P.Port.shown c.args.port.now) (g.P.Port.shown c.forgo.new.port) (record c.args.run.now { phase = phase.Tidying }) c.forgo.new.self c.forgo.result
    (tidy_refused_turns (g.P.Port.law c.args.port.now) (g.P.Port.shown c.args.port.now) (g.P.Port.shown c.step.new.self) c.step.result c.args.run.now c.requires.stands c.step.ensures.steps
    (g.P.Port.law c.step.new.self) c.step.ensures.law (g.P.Port.shown c.forgo.new.port) c.forgo.new.self c.forgo.result
    (tidy_memory_is c.step.result (tidy_comes (g.P.Port.law c.args.port.now) (g.P.Port.shown c.args.port.now) (g.P.Port.shown c.step.new.self) c.step.result c.args.run.now c.requires.stands c.step.ensures.steps) (sym c.tidy_came.ensures ∙ c.in-Refused.is)) c.forgo.ensures.said c.forgo.ensures.turned)

pub returns-in-Refused-clause-steps : goal.returns-in-Refused-clause-steps
returns-in-Refused-clause-steps g c = reply_steps _ _ _ c.forgo.result c.forgo.ensures.said

pub returns-in-Refused-clause-reads : goal.returns-in-Refused-clause-reads
returns-in-Refused-clause-reads g c = reply_reads _ (g.P.Port.law c.args.port.now) (g.P.Port.shown c.args.port.now) (record c.args.run.now { phase = phase.Tidying }) c.forgo.new.self c.forgo.result c.forgo.ensures.said

-- it goes on, or has ended
pub come_on-requires : goal.come_on-requires
come_on-requires g c = record { made = c.in_default.not-Refused }

pub returns-in_default-clause-turned : goal.returns-in_default-clause-turned
returns-in_default-clause-turned g c =
    tidy_turned (g.P.Port.law c.args.port.now) (g.P.Port.shown c.args.port.now) (g.P.Port.shown c.step.new.self) c.step.result c.args.run.now c.requires.stands c.step.ensures.steps c.args.reads c.requires.due c.tidy_came.result c.tidy_came.ensures c.in_default.not-Refused
    c.come_on.new.run c.come_on.ensures.run c.come_on.result c.come_on.ensures.turn

pub returns-in_default-clause-steps : goal.returns-in_default-clause-steps
returns-in_default-clause-steps g c =
    let law = g.P.Port.law c.args.port.now in
    tidy_nears_by law (g.P.Port.shown c.args.port.now) c.args.run.now c.args.reads _ c.tidy_came.result c.come_on.new.run c.come_on.result c.come_on.ensures.run c.come_on.ensures.turn (
      refl,
      tidy_unwaiting c.step.result _ (tidy_comes (g.P.Port.law c.args.port.now) (g.P.Port.shown c.args.port.now) (g.P.Port.shown c.step.new.self) c.step.result c.args.run.now c.requires.stands c.step.ensures.steps)
          (sooner_by (starts_of law) (says_of law) (g.P.Port.shown c.args.port.now) (g.P.Port.shown c.step.new.self) c.step.result c.step.ensures.steps (g.P.Port.left c.args.port.now)
          (g.P.Port.left c.step.new.self) c.step.ensures.lowers),
    )

pub returns-in_default-clause-reads : goal.returns-in_default-clause-reads
returns-in_default-clause-reads g c =
    let law = g.P.Port.law c.args.port.now in
    tidy_reads_by law (g.P.Port.shown c.args.port.now) c.args.run.now c.args.reads _ c.tidy_came.result c.come_on.new.run c.come_on.result c.come_on.ensures.run c.come_on.ensures.turn
    (tidy_unwaiting c.step.result _ (tidy_comes (g.P.Port.law c.args.port.now) (g.P.Port.shown c.args.port.now) (g.P.Port.shown c.step.new.self) c.step.result c.args.run.now c.requires.stands c.step.ensures.steps)
    (sooner_by (starts_of law) (says_of law) (g.P.Port.shown c.args.port.now) (g.P.Port.shown c.step.new.self) c.step.result c.step.ensures.steps (g.P.Port.left c.args.port.now)
    (g.P.Port.left c.step.new.self) c.step.ensures.lowers))
