use Rattle.std.proofs.Common.{ap, ◌∙◌}
use Rattle.oak_machine.specs.declared.event.StepKind.TheVariants as kind
use Rattle.oak_port.specs.Ports.{is_due}
use Rattle.jcr_run.specs.declared.run.Phase.TheVariants as phase
use Rattle.jcr_run.proofs.Calling.{stands_law}
use Rattle.jcr_run.proofs.Staying.{stands_waits}
use Rattle.jcr_session.proofs.Tidying.{wait_reads, wait_steps, wait_turned}
use Rattle.jcr_session.proofs.tidy.tidy.Goals as goal

pub tidy_once-requires-clause-stands : goal.tidy_once-requires-clause-stands
tidy_once-requires-clause-stands g c =
    stands_law (g.P.Port.law c.args.port.now) (g.P.Port.law c.due.new.self) c.due.ensures.law (g.P.Port.shown c.due.new.self) (record c.args.run.now { phase = phase.Tidying })
    (stands_waits (g.P.Port.law c.args.port.now) (g.P.Port.shown c.args.port.now) (g.P.Port.shown c.due.new.self) (record c.args.run.now { phase = phase.Tidying }) c.requires.stands c.due.ensures.same)

pub tidy_once-requires-clause-due : goal.tidy_once-requires-clause-due
tidy_once-requires-clause-due g c = c.is_read-reads.ensures ∙ ap (is_due kind.Read) c.due.ensures.due

pub returns-clause-turned : goal.returns-clause-turned
returns-clause-turned g c =
    wait_turned (g.P.Port.law c.args.port.now) (g.P.Port.shown c.args.port.now) (g.P.Port.shown c.due.new.self) (g.P.Port.shown c.tidy_once.new.port) c.args.run.now c.tidy_once.new.run c.requires.stands c.due.ensures.same
    (g.P.Port.law c.due.new.self) c.due.ensures.law c.tidy_once.result c.tidy_once.ensures.turned

pub returns-clause-steps : goal.returns-clause-steps
returns-clause-steps g c =
    wait_steps (g.P.Port.law c.args.port.now) (g.P.Port.shown c.args.port.now) (g.P.Port.shown c.due.new.self) (g.P.Port.shown c.tidy_once.new.port) c.args.run.now c.tidy_once.new.run c.requires.stands c.due.ensures.same
    (g.P.Port.left c.args.port.now) (g.P.Port.left c.due.new.self) (g.P.Port.left c.tidy_once.new.port) c.due.ensures.left c.tidy_once.result c.tidy_once.ensures.steps

pub returns-clause-reads : goal.returns-clause-reads
returns-clause-reads g c =
    wait_reads (g.P.Port.law c.args.port.now) (g.P.Port.shown c.args.port.now) (g.P.Port.shown c.due.new.self) (g.P.Port.shown c.tidy_once.new.port) c.args.run.now c.tidy_once.new.run c.requires.stands c.due.ensures.same
    (g.P.Port.law c.due.new.self) (g.P.Port.left c.args.port.now) (g.P.Port.left c.due.new.self) (g.P.Port.left c.tidy_once.new.port) c.due.ensures.left c.tidy_once.result c.tidy_once.ensures.reads
