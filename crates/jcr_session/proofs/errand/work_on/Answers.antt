use Rattle.std.proofs.Common.{subst, sym}
use Rattle.jcr_run.specs.declared.run.Phase.{Phase}
use Rattle.jcr_run.specs.Nearing.{EndsOrStays, EndsSooner}
use Rattle.jcr_run.specs.Standing.{HasCounted, Stands}
use Rattle.jcr_session.proofs.Nearer.{worked_steps}
use Rattle.jcr_session.proofs.errand.work_on.Goals as goal

pub work-requires : goal.work-requires
work-requires g c = record {
  stands = subst
      (λ (f : Phase). Stands (g.P.Port.law c.args.port.now) (g.P.Port.shown c.args.port.now) (record c.args.run.now { phase = f }))
      (sym c.in-Working.ensures.value) c.requires.stands;
}

pub returns-clause-turned : goal.returns-clause-turned
returns-clause-turned g c = subst
    (λ (f : Phase). HasCounted (g.P.Port.law c.args.port.now) (g.P.Port.shown c.args.port.now) (g.P.Port.shown c.work.new.port)
    (record c.args.run.now { phase = f }) c.work.new.run c.work.result) c.in-Working.ensures.value c.work.ensures.turned

pub returns-clause-steps : goal.returns-clause-steps
returns-clause-steps g c =
    worked_steps (g.P.Port.left c.args.port.now) (g.P.Port.left c.work.new.port) (g.P.Port.shown c.args.port.now) c.args.run.now
    c.work.new.run c.work.result c.requires.works
    (subst (λ (f : Phase). EndsOrStays
    (EndsSooner (g.P.Port.left c.args.port.now) (g.P.Port.left c.work.new.port) (g.P.Port.shown c.args.port.now))
    (record c.args.run.now { phase = f }) c.work.new.run c.work.result) c.in-Working.ensures.value c.work.ensures.stays)
