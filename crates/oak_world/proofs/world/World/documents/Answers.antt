use Rattle.core_world.proofs.Truths.{leaves_nothing}
use Rattle.oak_world.specs.Worlds.{state_of, with_formers}
use Rattle.oak_world.proofs.Seats.{world_is}
use Rattle.oak_world.proofs.world.World.documents.Goals as goal

pub returns-clause-kept : goal.returns-clause-kept
returns-clause-kept g c =
    let is = world_is g.L.Law.may_start g.L.Law.may_say _ c.args.self.now c.self.view_is c.self.invariant.0.0 in
    (is.formers, is.kept)

pub returns-clause-undone : goal.returns-clause-undone
returns-clause-undone g c = λ r p d ended uncommitted is.
    leaves_nothing (g.L.Law.may_start c.args.self.now.law) (g.L.Law.may_say c.args.self.now.law) (g.L.Law.proper c.args.self.now.law) (with_formers (state_of c.args.self.now) (returns-clause-kept g c).0) (returns-clause-kept g c).1.sessions r ended uncommitted p d is
