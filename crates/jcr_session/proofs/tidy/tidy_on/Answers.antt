use Rattle.std.proofs.Common.{subst, sym}
use Rattle.jcr_run.specs.declared.run.Phase.{Phase}
use Rattle.jcr_run.specs.Nearing.{EndsSooner, ReadsOn, StepsOn, WorksSooner, turns_left}
use Rattle.jcr_run.specs.Standing.{HasTurned, Stands}
use Rattle.jcr_session.proofs.Tidying.{tidying_is}
use Rattle.jcr_session.proofs.tidy.tidy_on.Goals as goal

pub tidy-requires : goal.tidy-requires
tidy-requires g c = record {
  stands = subst (λ (f : Phase). Stands (g.P.Port.law c.args.port.now) (g.P.Port.shown c.args.port.now) (record c.args.run.now { phase = f })) (tidying_is c.args.run.now.phase c.requires.tidies) c.requires.stands;
}

pub returns-clause-turned : goal.returns-clause-turned
returns-clause-turned g c =
    subst (λ (f : Phase). HasTurned (g.P.Port.law c.args.port.now) (g.P.Port.shown c.args.port.now) (g.P.Port.shown c.tidy.new.port) (record c.args.run.now { phase = f }) c.tidy.new.run c.tidy.result)
    (sym (tidying_is c.args.run.now.phase c.requires.tidies)) c.tidy.ensures.turned

pub returns-clause-steps : goal.returns-clause-steps
returns-clause-steps g c =
    subst (λ (f : Phase). StepsOn (WorksSooner (g.P.Port.left c.args.port.now) (g.P.Port.left c.tidy.new.port) (g.P.Port.shown c.args.port.now) (record c.args.run.now { phase = f }))
    (turns_left (record c.args.run.now { phase = f })) (turns_left c.tidy.new.run) c.tidy.result)
    (sym (tidying_is c.args.run.now.phase c.requires.tidies)) c.tidy.ensures.steps

pub returns-clause-reads : goal.returns-clause-reads
returns-clause-reads g c =
    subst (λ (f : Phase). ReadsOn (EndsSooner (g.P.Port.left c.args.port.now) (g.P.Port.left c.tidy.new.port) (g.P.Port.shown c.args.port.now)) (g.P.Port.law c.args.port.now) (g.P.Port.shown c.args.port.now) (record c.args.run.now { phase = f }) c.tidy.new.run c.tidy.result)
    (sym (tidying_is c.args.run.now.phase c.requires.tidies)) c.tidy.ensures.reads
