use Rattle.std.proofs.Common.{subst, sym, refl}
use Rattle.jcr_run.specs.declared.run.Phase.{Phase}
use Rattle.jcr_run.specs.Standing.{Stands}
use Rattle.jcr_run.proofs.Saying.{replied_like}
use Rattle.jcr_session.proofs.ends.say_end.Goals as goal

pub say_ended-requires : goal.say_ended-requires
say_ended-requires g c =
    record { stands = subst (λ (f : Phase). Stands (g.P.Port.law c.args.port.now) (g.P.Port.shown c.args.port.now) (record c.args.run.now { phase = f })) (sym c.in-Committed.ensures.value) c.requires.stands }

pub returns-clause-turned : goal.returns-clause-turned
returns-clause-turned g c =
    replied_like (g.P.Port.law c.args.port.now) (g.P.Port.shown c.args.port.now) (g.P.Port.shown c.say_ended.new.port) c.args.run.now (record c.args.run.now { phase = c.replace.new.dest }) c.say_ended.new.run c.say_ended.result refl refl refl c.say_ended.ensures.said c.say_ended.ensures.turned
