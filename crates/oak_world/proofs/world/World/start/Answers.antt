use Rattle.std.proofs.Common.{◌∙◌, ap, refl, sym, subst, Option, arith}
use Rattle.std.proofs.lemmas.Result.{on_err_weaker, on_ok_weaker}
use Rattle.jr_rev.specs.declared.vector.Pin.{Pin}
use Rattle.core_world.specs.States.{actor_pin}
use Rattle.oak_step.specs.Works.{Begins, CanBegin}
use Rattle.oak_world.specs.Worlds.{WorldOf, node_in, shown_world, state_of}
use Rattle.oak_world.proofs.Calling.{begins_needs, seat_placed, seat_places, start_stands, starting_is, unchanged_is}
use Rattle.oak_world.proofs.Keeping.{can_begin}
use Rattle.oak_world.proofs.Seats.{actor_within, clusters_by, session_on, there_by, world_is}
use Rattle.oak_world.proofs.world.World.start.Goals as goal

pub index_mut-seat-requires : goal.index_mut-seat-requires
index_mut-seat-requires g c =
    let within = actor_within (g.L.Law.may_start c.self.inside.law.value) (g.L.Law.may_say c.self.inside.law.value) (g.L.Law.proper c.self.inside.law.value) c.self.inside.law.value c.self.inside.journal c.self.inside.table c.self.inside.memories.items c.self.inside.actors.items c.self.invariant.0.0 c.args.actor (there_by _ c.args.self.now c.args.actor c.self.view_is c.requires.idle.there) in
    omega (arith, within, c.self.inside.actors.ok.0)

pub of-requires : goal.of-requires
of-requires g c =
    subst (λ (p : Option Pin). CanBegin p c.args.task) (sym c.pin-pin.ensures.pin)
    (can_begin (g.L.Law.may_start c.args.self.now.law) (g.L.Law.may_say c.args.self.now.law) (g.L.Law.proper c.args.self.now.law) (g.L.Law.writes c.args.self.now.law) (g.L.Law.starts_last c.args.self.now.law) c.args.self.now (world_is g.L.Law.may_start g.L.Law.may_say _ c.args.self.now c.self.view_is c.self.invariant.0.0) c.args.actor c.requires.idle.there c.args.task c.requires.may)

pub begin-requires-clause-needed : goal.begin-requires-clause-needed
begin-requires-clause-needed g c = begins_needs c.self.inside.journal.clusters c.pin-pin.result c.args.task c.in_ok-work.work c.in_ok-work.ensures

pub begin-requires-clause-placed : goal.begin-requires-clause-placed
begin-requires-clause-placed g c = seat_placed (g.L.Law.may_start c.self.inside.law.value) (g.L.Law.may_say c.self.inside.law.value) (g.L.Law.proper c.self.inside.law.value) (g.L.Law.writes c.self.inside.law.value) (g.L.Law.starts_last c.self.inside.law.value) c.self.inside.law.value c.self.inside.journal c.self.inside.table c.self.inside.memories.items c.self.inside.actors.items c.self.invariant.0.0 c.self.invariant.0.1 c.args.actor (node_in (shown_world c.self.inside.law.value c.self.inside.journal c.self.inside.table c.self.inside.memories.items c.self.inside.actors.items).history c.args.actor) (session_on (g.L.Law.may_start c.self.inside.law.value) (g.L.Law.may_say c.self.inside.law.value) (g.L.Law.proper c.self.inside.law.value) c.self.inside.law.value c.self.inside.journal c.self.inside.table c.self.inside.memories.items c.self.inside.actors.items c.self.invariant.0.0 c.args.actor (there_by _ c.args.self.now c.args.actor c.self.view_is c.requires.idle.there)) c.index_mut-seat.result.now c.index_mut-seat.ensures.value

pub begin-requires-clause-places : goal.begin-requires-clause-places
begin-requires-clause-places g c = seat_places (g.L.Law.may_start c.self.inside.law.value) (g.L.Law.may_say c.self.inside.law.value) (g.L.Law.proper c.self.inside.law.value) (g.L.Law.writes c.self.inside.law.value) (g.L.Law.starts_last c.self.inside.law.value) c.self.inside.law.value c.self.inside.journal c.self.inside.table c.self.inside.memories.items c.self.inside.actors.items c.self.invariant.0.0 c.self.invariant.0.1 c.args.actor (node_in (shown_world c.self.inside.law.value c.self.inside.journal c.self.inside.table c.self.inside.memories.items c.self.inside.actors.items).history c.args.actor) (session_on (g.L.Law.may_start c.self.inside.law.value) (g.L.Law.may_say c.self.inside.law.value) (g.L.Law.proper c.self.inside.law.value) c.self.inside.law.value c.self.inside.journal c.self.inside.table c.self.inside.memories.items c.self.inside.actors.items c.self.invariant.0.0 c.args.actor (there_by _ c.args.self.now c.args.actor c.self.view_is c.requires.idle.there)) c.index_mut-seat.result.now c.index_mut-seat.ensures.value

pub invariant_of-self : goal.invariant_of-self
invariant_of-self g c =
    let stands = start_stands (g.L.Law.may_start c.self.inside.law.value) (g.L.Law.may_say c.self.inside.law.value) (g.L.Law.proper c.self.inside.law.value) (g.L.Law.writes c.self.inside.law.value) (g.L.Law.starts_last c.self.inside.law.value) c.self.inside.law.value c.self.inside.journal c.self.inside.table c.self.inside.memories.items c.self.inside.actors.items c.self.invariant.0.0 c.self.invariant.0.1 c.args.actor (node_in (shown_world c.self.inside.law.value c.self.inside.journal c.self.inside.table c.self.inside.memories.items c.self.inside.actors.items).history c.args.actor) (session_on (g.L.Law.may_start c.self.inside.law.value) (g.L.Law.may_say c.self.inside.law.value) (g.L.Law.proper c.self.inside.law.value) c.self.inside.law.value c.self.inside.journal c.self.inside.table c.self.inside.memories.items c.self.inside.actors.items c.self.invariant.0.0 c.args.actor (there_by _ c.args.self.now c.args.actor c.self.view_is c.requires.idle.there)) c.index_mut-seat.result.now c.index_mut-seat.ensures.value c.begin.new.self c.begin.new.events c.begin.ensures.placed c.begin.ensures.places c.self.inside.journal.clusters c.pin-pin.result c.args.task c.in_ok-work.work c.in_ok-work.ensures refl c.begin.ensures.list (g.L.Law.asks c.self.inside.law.value) c.self.invariant.2 (rw (← c.self.view_is) at c.requires.asked) (rw (← c.self.view_is) at c.requires.idle.idle) (rw (← c.self.view_is) at c.requires.may)
    (c.pin-pin.ensures.pin ∙ sym (ap (λ (w : WorldOf _). actor_pin (state_of w) c.args.actor) c.self.view_is)) c.begin.result c.begin.ensures.ok c.begin.ensures.err in
    (stands.0, c.self.invariant.1, stands.1)

pub returns-clause-ok : goal.returns-clause-ok
returns-clause-ok g c =
    on_ok_weaker c.begin.result (λ shown. (
      c.in_ok-work.work,
      clusters_by _ c.args.self.now c.self.view_is (actor_pin (state_of c.args.self.now) c.args.actor) c.args.task c.in_ok-work.work (subst (λ (p : Option Pin). Begins c.self.inside.journal.clusters p c.args.task c.in_ok-work.work) c.pin-pin.ensures.pin c.in_ok-work.ensures),
      rw (← c.self.view_is) (starting_is (g.L.Law.may_start c.self.inside.law.value) (g.L.Law.may_say c.self.inside.law.value) (g.L.Law.proper c.self.inside.law.value) (g.L.Law.writes c.self.inside.law.value) (g.L.Law.starts_last c.self.inside.law.value) c.self.inside.law.value c.self.inside.journal c.self.inside.table c.self.inside.memories.items c.self.inside.actors.items c.self.invariant.0.0 c.self.invariant.0.1 c.args.actor (node_in (shown_world c.self.inside.law.value c.self.inside.journal c.self.inside.table c.self.inside.memories.items c.self.inside.actors.items).history c.args.actor) (session_on (g.L.Law.may_start c.self.inside.law.value) (g.L.Law.may_say c.self.inside.law.value) (g.L.Law.proper c.self.inside.law.value) c.self.inside.law.value c.self.inside.journal c.self.inside.table c.self.inside.memories.items c.self.inside.actors.items c.self.invariant.0.0 c.args.actor (there_by _ c.args.self.now c.args.actor c.self.view_is c.requires.idle.there)) c.index_mut-seat.result.now c.index_mut-seat.ensures.value c.begin.new.self c.begin.new.events c.begin.ensures.placed c.begin.ensures.places c.self.inside.journal.clusters c.pin-pin.result c.args.task c.in_ok-work.work c.in_ok-work.ensures refl c.begin.ensures.list shown),
    )) c.begin.ensures.ok

pub returns-clause-err : goal.returns-clause-err
returns-clause-err g c = on_err_weaker c.begin.result (λ shown. rw (← c.self.view_is) (unchanged_is (g.L.Law.may_start c.self.inside.law.value) (g.L.Law.may_say c.self.inside.law.value) (g.L.Law.proper c.self.inside.law.value) (g.L.Law.writes c.self.inside.law.value) (g.L.Law.starts_last c.self.inside.law.value) c.self.inside.law.value c.self.inside.journal c.self.inside.table c.self.inside.memories.items c.self.inside.actors.items c.self.invariant.0.0 c.self.invariant.0.1 c.args.actor (node_in (shown_world c.self.inside.law.value c.self.inside.journal c.self.inside.table c.self.inside.memories.items c.self.inside.actors.items).history c.args.actor) (session_on (g.L.Law.may_start c.self.inside.law.value) (g.L.Law.may_say c.self.inside.law.value) (g.L.Law.proper c.self.inside.law.value) c.self.inside.law.value c.self.inside.journal c.self.inside.table c.self.inside.memories.items c.self.inside.actors.items c.self.invariant.0.0 c.args.actor (there_by _ c.args.self.now c.args.actor c.self.view_is c.requires.idle.there)) c.index_mut-seat.result.now c.index_mut-seat.ensures.value c.begin.new.self c.begin.new.events c.begin.ensures.placed c.begin.ensures.places c.begin.ensures.list shown)) c.begin.ensures.err
