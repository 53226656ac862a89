use Rattle.std.proofs.Common.{◌<◌, ◌^◌, length, subst, List, arith}
use Rattle.oak_machine.specs.declared.event.Event.{Event}
use Rattle.oak_world.proofs.Calling.{seat_placed, seat_places, step_can, step_made, step_shown, step_stands}
use Rattle.oak_world.proofs.Left.{lowers}
use Rattle.oak_world.proofs.Seats.{actor_within, on_by, there_by, world_is}
use Rattle.oak_world.proofs.world.World.step.Goals as goal

pub index_mut-seat-requires : goal.index_mut-seat-requires
index_mut-seat-requires g c =
    let within = actor_within (g.L.Law.may_start c.self.inside.law.value) (g.L.Law.may_say c.self.inside.law.value) (g.L.Law.proper c.self.inside.law.value) c.self.inside.law.value c.self.inside.journal c.self.inside.table c.self.inside.memories.items c.self.inside.actors.items c.self.invariant.0.0 c.args.actor (there_by _ c.args.self.now c.args.actor c.self.view_is c.requires.there) in
    omega (arith, within, c.self.inside.actors.ok.0)

pub step_actor-requires-clause-can : goal.step_actor-requires-clause-can
step_actor-requires-clause-can g c = step_can (g.L.Law.may_start c.self.inside.law.value) (g.L.Law.may_say c.self.inside.law.value) (g.L.Law.proper c.self.inside.law.value) (g.L.Law.writes c.self.inside.law.value) (g.L.Law.starts_last c.self.inside.law.value) c.self.inside.law.value c.self.inside.journal c.self.inside.table c.self.inside.memories.items c.self.inside.actors.items c.self.invariant.0.0 c.self.invariant.0.1 c.args.actor c.node-node.result (on_by _ c.args.self.now c.args.actor c.node-node.result c.self.view_is c.node-node.ensures.node) c.index_mut-seat.result.now c.index_mut-seat.ensures.value (rw (← c.self.view_is) at c.requires.busy) (subst (λ (es : List Event). length es < 2 ^ 63) c.as_slice.ensures c.are_few.ensures)

pub step_actor-requires-clause-table : goal.step_actor-requires-clause-table
step_actor-requires-clause-table g c = c.self.invariant.0.0.table

pub step_actor-requires-clause-placed : goal.step_actor-requires-clause-placed
step_actor-requires-clause-placed g c = seat_placed (g.L.Law.may_start c.self.inside.law.value) (g.L.Law.may_say c.self.inside.law.value) (g.L.Law.proper c.self.inside.law.value) (g.L.Law.writes c.self.inside.law.value) (g.L.Law.starts_last c.self.inside.law.value) c.self.inside.law.value c.self.inside.journal c.self.inside.table c.self.inside.memories.items c.self.inside.actors.items c.self.invariant.0.0 c.self.invariant.0.1 c.args.actor c.node-node.result (on_by _ c.args.self.now c.args.actor c.node-node.result c.self.view_is c.node-node.ensures.node) c.index_mut-seat.result.now c.index_mut-seat.ensures.value

pub step_actor-requires-clause-places : goal.step_actor-requires-clause-places
step_actor-requires-clause-places g c = seat_places (g.L.Law.may_start c.self.inside.law.value) (g.L.Law.may_say c.self.inside.law.value) (g.L.Law.proper c.self.inside.law.value) (g.L.Law.writes c.self.inside.law.value) (g.L.Law.starts_last c.self.inside.law.value) c.self.inside.law.value c.self.inside.journal c.self.inside.table c.self.inside.memories.items c.self.inside.actors.items c.self.invariant.0.0 c.self.invariant.0.1 c.args.actor c.node-node.result (on_by _ c.args.self.now c.args.actor c.node-node.result c.self.view_is c.node-node.ensures.node) c.index_mut-seat.result.now c.index_mut-seat.ensures.value

pub invariant_of-self : goal.invariant_of-self
invariant_of-self g c =
    let stands = step_stands (g.L.Law.may_start c.self.inside.law.value) (g.L.Law.may_say c.self.inside.law.value) (g.L.Law.proper c.self.inside.law.value) (g.L.Law.writes c.self.inside.law.value) (g.L.Law.starts_last c.self.inside.law.value) c.self.inside.law.value c.self.inside.journal c.self.inside.table c.self.inside.memories.items c.self.inside.actors.items c.self.invariant.0.0 c.self.invariant.0.1 c.args.actor c.node-node.result (on_by _ c.args.self.now c.args.actor c.node-node.result c.self.view_is c.node-node.ensures.node) c.index_mut-seat.result.now c.index_mut-seat.ensures.value c.step_actor.new.table c.step_actor.new.memories.items c.step_actor.new.events c.step_actor.new.actor c.step_actor.result c.step_actor.ensures.made c.step_actor.ensures.began c.step_actor.ensures.reply c.step_actor.ensures.reads c.step_actor.ensures.attached (g.L.Law.asks c.self.inside.law.value) c.self.invariant.2 c.step_actor.ensures.order c.step_actor.ensures.placed c.step_actor.ensures.places in
    (stands.0, c.self.invariant.1, stands.1)

pub returns-clause-made : goal.returns-clause-made
returns-clause-made g c = rw (← c.self.view_is) (step_made (g.L.Law.may_start c.self.inside.law.value) (g.L.Law.may_say c.self.inside.law.value) (g.L.Law.proper c.self.inside.law.value) (g.L.Law.writes c.self.inside.law.value) (g.L.Law.starts_last c.self.inside.law.value) c.self.inside.law.value c.self.inside.journal c.self.inside.table c.self.inside.memories.items c.self.inside.actors.items c.self.invariant.0.0 c.self.invariant.0.1 c.args.actor c.node-node.result (on_by _ c.args.self.now c.args.actor c.node-node.result c.self.view_is c.node-node.ensures.node) c.index_mut-seat.result.now c.index_mut-seat.ensures.value c.step_actor.new.table c.step_actor.new.memories.items c.step_actor.new.events c.step_actor.new.actor c.step_actor.result c.step_actor.ensures.made c.step_actor.ensures.began c.step_actor.ensures.reply c.step_actor.ensures.reads c.step_actor.ensures.attached)

pub returns-clause-seen : goal.returns-clause-seen
returns-clause-seen g c = rw (← c.self.view_is) (step_shown (g.L.Law.may_start c.self.inside.law.value) (g.L.Law.may_say c.self.inside.law.value) (g.L.Law.proper c.self.inside.law.value) (g.L.Law.writes c.self.inside.law.value) (g.L.Law.starts_last c.self.inside.law.value) c.self.inside.law.value c.self.inside.journal c.self.inside.table c.self.inside.memories.items c.self.inside.actors.items c.self.invariant.0.0 c.self.invariant.0.1 c.args.actor c.node-node.result (on_by _ c.args.self.now c.args.actor c.node-node.result c.self.view_is c.node-node.ensures.node) c.index_mut-seat.result.now c.index_mut-seat.ensures.value c.step_actor.new.table c.step_actor.new.memories.items c.step_actor.new.events c.step_actor.new.actor c.step_actor.result c.step_actor.ensures.made c.step_actor.ensures.began c.step_actor.ensures.reply c.step_actor.ensures.reads c.step_actor.ensures.attached)

pub returns-clause-lowers : goal.returns-clause-lowers
returns-clause-lowers g c =
    lowers (g.L.Law.may_start c.args.self.now.law) (g.L.Law.may_say c.args.self.now.law) _ _ c.args.actor _
    (world_is g.L.Law.may_start g.L.Law.may_say _ c.args.self.now c.self.view_is c.self.invariant.0.0) (returns-clause-made g c)
