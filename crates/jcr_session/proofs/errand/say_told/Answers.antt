use Rattle.std.proofs.Common.{subst, sym, refl}
use Rattle.jcr_run.specs.declared.run.Phase.{Phase}
use Rattle.jcr_run.specs.Standing.{Stands}
use Rattle.jcr_session.proofs.Begun.{told_eight, told_place, told_tells}
use Rattle.jcr_run.proofs.Saying.{replied_like}
use Rattle.jcr_session.proofs.errand.say_told.Goals as goal

pub tell-requires-clause-tells : goal.tell-requires-clause-tells
tell-requires-clause-tells g c = told_tells (g.P.Port.law c.args.port.now) (g.P.Port.shown c.args.port.now)
    (record c.args.run.now { phase = c.replace.new.dest }) c.in-Told.told
    (subst (λ (f : Phase). Stands (g.P.Port.law c.args.port.now) (g.P.Port.shown c.args.port.now) (record c.args.run.now { phase = f }))
    (sym c.in-Told.ensures.value) c.requires.stands)

pub tell-requires-clause-place : goal.tell-requires-clause-place
tell-requires-clause-place g c = told_place (g.P.Port.law c.args.port.now) (g.P.Port.shown c.args.port.now)
    (record c.args.run.now { phase = c.replace.new.dest }) c.in-Told.told
    (subst (λ (f : Phase). Stands (g.P.Port.law c.args.port.now) (g.P.Port.shown c.args.port.now) (record c.args.run.now { phase = f }))
    (sym c.in-Told.ensures.value) c.requires.stands)

pub tell-requires-clause-eight : goal.tell-requires-clause-eight
tell-requires-clause-eight g c = told_eight (g.P.Port.law c.args.port.now) (g.P.Port.shown c.args.port.now)
    (record c.args.run.now { phase = c.replace.new.dest }) c.in-Told.told
    (subst (λ (f : Phase). Stands (g.P.Port.law c.args.port.now) (g.P.Port.shown c.args.port.now) (record c.args.run.now { phase = f }))
    (sym c.in-Told.ensures.value) c.requires.stands)

pub returns-clause-turned : goal.returns-clause-turned
returns-clause-turned g c =
    replied_like (g.P.Port.law c.args.port.now) (g.P.Port.shown c.args.port.now) (g.P.Port.shown c.tell.new.port) c.args.run.now
    (record c.args.run.now { phase = c.replace.new.dest }) c.tell.new.run c.tell.result refl refl refl c.tell.ensures.said
    c.tell.ensures.turned
