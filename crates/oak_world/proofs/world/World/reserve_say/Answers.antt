use Rattle.std.proofs.Common.{◌≡◌, ℕ, Some, subst, arith}
use Rattle.std.specs.Prelude.{OnOk}
use Rattle.std.proofs.lemmas.Result.{on_err_weaker, on_ok_weaker}
use Rattle.oak_world.specs.Worlds.{node_in, shown_actor, shown_world}
use Rattle.oak_world.proofs.Calling.{reserve_stands, reserved_is, seat_placed, seat_places, unchanged_is}
use Rattle.oak_world.proofs.Seats.{actor_within, session_on, there_by}
use Rattle.oak_world.proofs.world.World.reserve_say.Goals as goal

pub index_mut-seat-requires : goal.index_mut-seat-requires
index_mut-seat-requires g c =
    let within = actor_within (g.L.Law.may_start c.self.inside.law.value) (g.L.Law.may_say c.self.inside.law.value) (g.L.Law.proper c.self.inside.law.value) c.self.inside.law.value c.self.inside.journal c.self.inside.table c.self.inside.memories.items c.self.inside.actors.items c.self.invariant.0.0 c.args.actor (there_by _ c.args.self.now c.args.actor c.self.view_is c.requires) in
    omega (arith, within, c.self.inside.actors.ok.0)

pub reserve-requires-clause-placed : goal.reserve-requires-clause-placed
reserve-requires-clause-placed g c = seat_placed (g.L.Law.may_start c.self.inside.law.value) (g.L.Law.may_say c.self.inside.law.value) (g.L.Law.proper c.self.inside.law.value) (g.L.Law.writes c.self.inside.law.value) (g.L.Law.starts_last c.self.inside.law.value) c.self.inside.law.value c.self.inside.journal c.self.inside.table c.self.inside.memories.items c.self.inside.actors.items c.self.invariant.0.0 c.self.invariant.0.1 c.args.actor (node_in (shown_world c.self.inside.law.value c.self.inside.journal c.self.inside.table c.self.inside.memories.items c.self.inside.actors.items).history c.args.actor) (session_on (g.L.Law.may_start c.self.inside.law.value) (g.L.Law.may_say c.self.inside.law.value) (g.L.Law.proper c.self.inside.law.value) c.self.inside.law.value c.self.inside.journal c.self.inside.table c.self.inside.memories.items c.self.inside.actors.items c.self.invariant.0.0 c.args.actor (there_by _ c.args.self.now c.args.actor c.self.view_is c.requires)) c.index_mut-seat.result.now c.index_mut-seat.ensures.value

pub reserve-requires-clause-places : goal.reserve-requires-clause-places
reserve-requires-clause-places g c = seat_places (g.L.Law.may_start c.self.inside.law.value) (g.L.Law.may_say c.self.inside.law.value) (g.L.Law.proper c.self.inside.law.value) (g.L.Law.writes c.self.inside.law.value) (g.L.Law.starts_last c.self.inside.law.value) c.self.inside.law.value c.self.inside.journal c.self.inside.table c.self.inside.memories.items c.self.inside.actors.items c.self.invariant.0.0 c.self.invariant.0.1 c.args.actor (node_in (shown_world c.self.inside.law.value c.self.inside.journal c.self.inside.table c.self.inside.memories.items c.self.inside.actors.items).history c.args.actor) (session_on (g.L.Law.may_start c.self.inside.law.value) (g.L.Law.may_say c.self.inside.law.value) (g.L.Law.proper c.self.inside.law.value) c.self.inside.law.value c.self.inside.journal c.self.inside.table c.self.inside.memories.items c.self.inside.actors.items c.self.invariant.0.0 c.args.actor (there_by _ c.args.self.now c.args.actor c.self.view_is c.requires)) c.index_mut-seat.result.now c.index_mut-seat.ensures.value

pub invariant_of-self : goal.invariant_of-self
invariant_of-self g c =
    let stands = reserve_stands (g.L.Law.may_start c.self.inside.law.value) (g.L.Law.may_say c.self.inside.law.value) (g.L.Law.proper c.self.inside.law.value) (g.L.Law.writes c.self.inside.law.value) (g.L.Law.starts_last c.self.inside.law.value) c.self.inside.law.value c.self.inside.journal c.self.inside.table c.self.inside.memories.items c.self.inside.actors.items c.self.invariant.0.0 c.self.invariant.0.1 c.args.actor (node_in (shown_world c.self.inside.law.value c.self.inside.journal c.self.inside.table c.self.inside.memories.items c.self.inside.actors.items).history c.args.actor) (session_on (g.L.Law.may_start c.self.inside.law.value) (g.L.Law.may_say c.self.inside.law.value) (g.L.Law.proper c.self.inside.law.value) c.self.inside.law.value c.self.inside.journal c.self.inside.table c.self.inside.memories.items c.self.inside.actors.items c.self.invariant.0.0 c.args.actor (there_by _ c.args.self.now c.args.actor c.self.view_is c.requires)) c.index_mut-seat.result.now c.index_mut-seat.ensures.value c.reserve.new.self c.reserve.new.events c.reserve.ensures.placed c.reserve.ensures.places c.reserve.ensures.list (g.L.Law.asks c.self.inside.law.value) c.self.invariant.2 c.reserve.result c.args.bytes
    (subst (λ (n : ℕ). OnOk c.reserve.result (shown_actor c.reserve.new.self ≡ record (shown_actor c.index_mut-seat.result.now) { reply = Some n })) c.in_ok-room.ensures c.reserve.ensures.ok) c.reserve.ensures.err in
    (stands.0, c.self.invariant.1, stands.1)

pub returns-clause-ok : goal.returns-clause-ok
returns-clause-ok g c =
    on_ok_weaker c.reserve.result (λ shown. rw (← c.self.view_is) (reserved_is (g.L.Law.may_start c.self.inside.law.value) (g.L.Law.may_say c.self.inside.law.value) (g.L.Law.proper c.self.inside.law.value) (g.L.Law.writes c.self.inside.law.value) (g.L.Law.starts_last c.self.inside.law.value) c.self.inside.law.value c.self.inside.journal c.self.inside.table c.self.inside.memories.items c.self.inside.actors.items c.self.invariant.0.0 c.self.invariant.0.1 c.args.actor (node_in (shown_world c.self.inside.law.value c.self.inside.journal c.self.inside.table c.self.inside.memories.items c.self.inside.actors.items).history c.args.actor) (session_on (g.L.Law.may_start c.self.inside.law.value) (g.L.Law.may_say c.self.inside.law.value) (g.L.Law.proper c.self.inside.law.value) c.self.inside.law.value c.self.inside.journal c.self.inside.table c.self.inside.memories.items c.self.inside.actors.items c.self.invariant.0.0 c.args.actor (there_by _ c.args.self.now c.args.actor c.self.view_is c.requires)) c.index_mut-seat.result.now c.index_mut-seat.ensures.value c.reserve.new.self c.reserve.new.events c.reserve.ensures.placed c.reserve.ensures.places c.reserve.ensures.list (Some c.args.bytes) shown)) (subst (λ (n : ℕ). OnOk c.reserve.result (shown_actor c.reserve.new.self ≡ record (shown_actor c.index_mut-seat.result.now) { reply = Some n })) c.in_ok-room.ensures c.reserve.ensures.ok)

pub returns-clause-err : goal.returns-clause-err
returns-clause-err g c =
    on_err_weaker c.reserve.result (λ shown. rw (← c.self.view_is) (unchanged_is (g.L.Law.may_start c.self.inside.law.value) (g.L.Law.may_say c.self.inside.law.value) (g.L.Law.proper c.self.inside.law.value) (g.L.Law.writes c.self.inside.law.value) (g.L.Law.starts_last c.self.inside.law.value) c.self.inside.law.value c.self.inside.journal c.self.inside.table c.self.inside.memories.items c.self.inside.actors.items c.self.invariant.0.0 c.self.invariant.0.1 c.args.actor (node_in (shown_world c.self.inside.law.value c.self.inside.journal c.self.inside.table c.self.inside.memories.items c.self.inside.actors.items).history c.args.actor) (session_on (g.L.Law.may_start c.self.inside.law.value) (g.L.Law.may_say c.self.inside.law.value) (g.L.Law.proper c.self.inside.law.value) c.self.inside.law.value c.self.inside.journal c.self.inside.table c.self.inside.memories.items c.self.inside.actors.items c.self.invariant.0.0 c.args.actor (there_by _ c.args.self.now c.args.actor c.self.view_is c.requires)) c.index_mut-seat.result.now c.index_mut-seat.ensures.value c.reserve.new.self c.reserve.new.events c.reserve.ensures.placed c.reserve.ensures.places c.reserve.ensures.list shown)) c.reserve.ensures.err
