use Rattle.std.proofs.Common.{arith}
use Rattle.oak_world.specs.Worlds.{node_in, shown_world}
use Rattle.oak_world.proofs.Calling.{say_stands, saying_is, seat_placed, seat_places, seat_reply, seat_rests}
use Rattle.oak_world.proofs.Seats.{actor_within, session_on, there_by}
use Rattle.oak_world.proofs.world.World.say.Goals as goal

pub index_mut-seat-requires : goal.index_mut-seat-requires
index_mut-seat-requires g c =
    let within = actor_within (g.L.Law.may_start c.self.inside.law.value) (g.L.Law.may_say c.self.inside.law.value) (g.L.Law.proper c.self.inside.law.value) c.self.inside.law.value c.self.inside.journal c.self.inside.table c.self.inside.memories.items c.self.inside.actors.items c.self.invariant.0.0 c.args.actor (there_by _ c.args.self.now c.args.actor c.self.view_is c.requires.rest.there) in
    omega (arith, within, c.self.inside.actors.ok.0)

pub say-requires-clause-rest : goal.say-requires-clause-rest
say-requires-clause-rest g c = seat_rests (g.L.Law.may_start c.self.inside.law.value) (g.L.Law.may_say c.self.inside.law.value) (g.L.Law.proper c.self.inside.law.value) (g.L.Law.writes c.self.inside.law.value) (g.L.Law.starts_last c.self.inside.law.value) c.self.inside.law.value c.self.inside.journal c.self.inside.table c.self.inside.memories.items c.self.inside.actors.items c.self.invariant.0.0 c.self.invariant.0.1 c.args.actor (node_in (shown_world c.self.inside.law.value c.self.inside.journal c.self.inside.table c.self.inside.memories.items c.self.inside.actors.items).history c.args.actor) (session_on (g.L.Law.may_start c.self.inside.law.value) (g.L.Law.may_say c.self.inside.law.value) (g.L.Law.proper c.self.inside.law.value) c.self.inside.law.value c.self.inside.journal c.self.inside.table c.self.inside.memories.items c.self.inside.actors.items c.self.invariant.0.0 c.args.actor (there_by _ c.args.self.now c.args.actor c.self.view_is c.requires.rest.there)) c.index_mut-seat.result.now c.index_mut-seat.ensures.value (rw (← c.self.view_is) at c.requires.rest.rest)

pub say-requires-clause-room : goal.say-requires-clause-room
say-requires-clause-room g c = seat_reply (g.L.Law.may_start c.self.inside.law.value) (g.L.Law.may_say c.self.inside.law.value) (g.L.Law.proper c.self.inside.law.value) (g.L.Law.writes c.self.inside.law.value) (g.L.Law.starts_last c.self.inside.law.value) c.self.inside.law.value c.self.inside.journal c.self.inside.table c.self.inside.memories.items c.self.inside.actors.items c.self.invariant.0.0 c.self.invariant.0.1 c.args.actor (node_in (shown_world c.self.inside.law.value c.self.inside.journal c.self.inside.table c.self.inside.memories.items c.self.inside.actors.items).history c.args.actor) (session_on (g.L.Law.may_start c.self.inside.law.value) (g.L.Law.may_say c.self.inside.law.value) (g.L.Law.proper c.self.inside.law.value) c.self.inside.law.value c.self.inside.journal c.self.inside.table c.self.inside.memories.items c.self.inside.actors.items c.self.invariant.0.0 c.args.actor (there_by _ c.args.self.now c.args.actor c.self.view_is c.requires.rest.there)) c.index_mut-seat.result.now c.index_mut-seat.ensures.value c.args.text.now (rw (← c.self.view_is) at c.requires.may.room)

pub say-requires-clause-placed : goal.say-requires-clause-placed
say-requires-clause-placed g c = seat_placed (g.L.Law.may_start c.self.inside.law.value) (g.L.Law.may_say c.self.inside.law.value) (g.L.Law.proper c.self.inside.law.value) (g.L.Law.writes c.self.inside.law.value) (g.L.Law.starts_last c.self.inside.law.value) c.self.inside.law.value c.self.inside.journal c.self.inside.table c.self.inside.memories.items c.self.inside.actors.items c.self.invariant.0.0 c.self.invariant.0.1 c.args.actor (node_in (shown_world c.self.inside.law.value c.self.inside.journal c.self.inside.table c.self.inside.memories.items c.self.inside.actors.items).history c.args.actor) (session_on (g.L.Law.may_start c.self.inside.law.value) (g.L.Law.may_say c.self.inside.law.value) (g.L.Law.proper c.self.inside.law.value) c.self.inside.law.value c.self.inside.journal c.self.inside.table c.self.inside.memories.items c.self.inside.actors.items c.self.invariant.0.0 c.args.actor (there_by _ c.args.self.now c.args.actor c.self.view_is c.requires.rest.there)) c.index_mut-seat.result.now c.index_mut-seat.ensures.value

pub say-requires-clause-places : goal.say-requires-clause-places
say-requires-clause-places g c = seat_places (g.L.Law.may_start c.self.inside.law.value) (g.L.Law.may_say c.self.inside.law.value) (g.L.Law.proper c.self.inside.law.value) (g.L.Law.writes c.self.inside.law.value) (g.L.Law.starts_last c.self.inside.law.value) c.self.inside.law.value c.self.inside.journal c.self.inside.table c.self.inside.memories.items c.self.inside.actors.items c.self.invariant.0.0 c.self.invariant.0.1 c.args.actor (node_in (shown_world c.self.inside.law.value c.self.inside.journal c.self.inside.table c.self.inside.memories.items c.self.inside.actors.items).history c.args.actor) (session_on (g.L.Law.may_start c.self.inside.law.value) (g.L.Law.may_say c.self.inside.law.value) (g.L.Law.proper c.self.inside.law.value) c.self.inside.law.value c.self.inside.journal c.self.inside.table c.self.inside.memories.items c.self.inside.actors.items c.self.invariant.0.0 c.args.actor (there_by _ c.args.self.now c.args.actor c.self.view_is c.requires.rest.there)) c.index_mut-seat.result.now c.index_mut-seat.ensures.value

pub invariant_of-self : goal.invariant_of-self
invariant_of-self g c =
    let stands = say_stands (g.L.Law.may_start c.self.inside.law.value) (g.L.Law.may_say c.self.inside.law.value) (g.L.Law.proper c.self.inside.law.value) (g.L.Law.writes c.self.inside.law.value) (g.L.Law.starts_last c.self.inside.law.value) c.self.inside.law.value c.self.inside.journal c.self.inside.table c.self.inside.memories.items c.self.inside.actors.items c.self.invariant.0.0 c.self.invariant.0.1 c.args.actor (node_in (shown_world c.self.inside.law.value c.self.inside.journal c.self.inside.table c.self.inside.memories.items c.self.inside.actors.items).history c.args.actor) (session_on (g.L.Law.may_start c.self.inside.law.value) (g.L.Law.may_say c.self.inside.law.value) (g.L.Law.proper c.self.inside.law.value) c.self.inside.law.value c.self.inside.journal c.self.inside.table c.self.inside.memories.items c.self.inside.actors.items c.self.invariant.0.0 c.args.actor (there_by _ c.args.self.now c.args.actor c.self.view_is c.requires.rest.there)) c.index_mut-seat.result.now c.index_mut-seat.ensures.value c.say.new.self c.say.new.events c.say.ensures.placed c.say.ensures.places c.args.index c.args.text.now c.say.ensures.actor c.say.ensures.list (g.L.Law.asks c.self.inside.law.value) c.self.invariant.2 (rw (← c.self.view_is) at c.requires.rest.rest) (rw (← c.self.view_is) at c.requires.may.next) (rw (← c.self.view_is) at c.requires.may.lawful) in
    (stands.0, c.self.invariant.1, stands.1)

pub returns : goal.returns
returns g c = rw (← c.self.view_is) (saying_is (g.L.Law.may_start c.self.inside.law.value) (g.L.Law.may_say c.self.inside.law.value) (g.L.Law.proper c.self.inside.law.value) (g.L.Law.writes c.self.inside.law.value) (g.L.Law.starts_last c.self.inside.law.value) c.self.inside.law.value c.self.inside.journal c.self.inside.table c.self.inside.memories.items c.self.inside.actors.items c.self.invariant.0.0 c.self.invariant.0.1 c.args.actor (node_in (shown_world c.self.inside.law.value c.self.inside.journal c.self.inside.table c.self.inside.memories.items c.self.inside.actors.items).history c.args.actor) (session_on (g.L.Law.may_start c.self.inside.law.value) (g.L.Law.may_say c.self.inside.law.value) (g.L.Law.proper c.self.inside.law.value) c.self.inside.law.value c.self.inside.journal c.self.inside.table c.self.inside.memories.items c.self.inside.actors.items c.self.invariant.0.0 c.args.actor (there_by _ c.args.self.now c.args.actor c.self.view_is c.requires.rest.there)) c.index_mut-seat.result.now c.index_mut-seat.ensures.value c.say.new.self c.say.new.events c.say.ensures.placed c.say.ensures.places c.args.index c.args.text.now c.say.ensures.actor c.say.ensures.list)
