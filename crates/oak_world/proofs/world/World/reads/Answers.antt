use Rattle.std.proofs.Common.{arith}
use Rattle.oak_world.proofs.Seats.{actor_within, reads_there, there_by}
use Rattle.oak_world.proofs.world.World.reads.Goals as goal

pub index-seat-requires : goal.index-seat-requires
index-seat-requires g c =
    let within = actor_within (g.L.Law.may_start c.self.inside.law.value) (g.L.Law.may_say c.self.inside.law.value) (g.L.Law.proper c.self.inside.law.value) c.self.inside.law.value c.self.inside.journal c.self.inside.table c.self.inside.memories.items c.self.inside.actors.items c.self.invariant.0.0
    c.args.actor (there_by _ c.args.self.now c.args.actor c.self.view_is c.requires) in
    omega (arith, within, c.self.inside.actors.ok.0)

pub returns : goal.returns
returns g c =
    let within = actor_within (g.L.Law.may_start c.self.inside.law.value) (g.L.Law.may_say c.self.inside.law.value) (g.L.Law.proper c.self.inside.law.value) c.self.inside.law.value c.self.inside.journal c.self.inside.table c.self.inside.memories.items c.self.inside.actors.items c.self.invariant.0.0
    c.args.actor (there_by _ c.args.self.now c.args.actor c.self.view_is c.requires) in
    reads_there c.self.inside.law.value c.self.inside.journal c.self.inside.table c.self.inside.memories.items c.self.inside.actors.items c.args.self.now c.self.view_is c.args.actor c.index-seat.result.now c.index-seat.result.now within c.index-seat.ensures
