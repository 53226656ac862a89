use Rattle.std.proofs.Common.{subst, sym}
use Rattle.jcr_run.specs.declared.run.Phase.{Phase}
use Rattle.jcr_run.specs.Standing.{Stands}
use Rattle.jcr_session.proofs.tidy.say_tidied.Goals as goal

pub show-requires : goal.show-requires
show-requires g c = record {
  stands = subst (λ (f : Phase). Stands (g.P.Port.law c.args.port.now) (g.P.Port.shown c.args.port.now) (record c.args.run.now { phase = f })) (sym c.in-Tidied.ensures.value) c.requires.stands;
}
