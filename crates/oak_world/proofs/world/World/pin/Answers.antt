use Rattle.std.proofs.Common.{ap, sym, ◌∙◌, arith}
use Rattle.std.specs.Option.{option_map}
use Rattle.jr_rev.specs.declared.vector.Pin.{Pin}
use Rattle.oak_world.specs.Worlds.{state_of, with_formers}
use Rattle.oak_world.proofs.Pinning.{actor_base, actor_below, actor_closed, actor_settled, actor_shows}
use Rattle.oak_world.proofs.Seats.{memory_there, pin_is, seat_there, world_is}
use Rattle.oak_world.proofs.world.World.pin.Goals as goal

pub index-memory-requires : goal.index-memory-requires
index-memory-requires g c =
    let there = memory_there (g.L.Law.may_start c.self.inside.law.value) (g.L.Law.may_say c.self.inside.law.value) (g.L.Law.proper c.self.inside.law.value) c.self.inside.law.value c.self.inside.journal c.self.inside.table c.self.inside.memories.items c.self.inside.actors.items
    c.self.invariant.0.0 c.args.self.now c.self.view_is c.args.actor c.node-node.result c.node-node.ensures.node in
    omega (arith, there, c.self.inside.memories.ok.0)

pub index-seat-requires : goal.index-seat-requires
index-seat-requires g c =
    let there = seat_there (g.L.Law.may_start c.self.inside.law.value) (g.L.Law.may_say c.self.inside.law.value) (g.L.Law.proper c.self.inside.law.value) c.self.inside.law.value c.self.inside.journal c.self.inside.table c.self.inside.memories.items c.self.inside.actors.items
    c.self.invariant.0.0 c.args.self.now c.self.view_is c.args.actor c.node-node.result c.node-node.ensures.node in
    omega (arith, there, c.self.inside.actors.ok.0)

pub returns-clause-pin : goal.returns-clause-pin
returns-clause-pin g c =
    c.pin.ensures
    ∙ pin_is (g.L.Law.may_start c.self.inside.law.value) (g.L.Law.may_say c.self.inside.law.value) (g.L.Law.proper c.self.inside.law.value) c.self.inside.law.value c.self.inside.journal c.self.inside.table c.self.inside.memories.items c.self.inside.actors.items
    c.self.invariant.0.0 c.args.self.now c.self.view_is c.args.actor c.node-node.result c.node-node.ensures.node c.index-memory.result.now c.index-memory.ensures c.index-seat.result.now c.index-seat.ensures

pub returns-clause-base : goal.returns-clause-base
returns-clause-base g c = λ stays.
    ap (option_map (λ (p : Pin). p.base)) (returns-clause-pin g c)
    ∙ actor_base (g.L.Law.may_start c.args.self.now.law) (g.L.Law.may_say c.args.self.now.law) (g.L.Law.proper c.args.self.now.law) (with_formers (state_of c.args.self.now) (world_is g.L.Law.may_start g.L.Law.may_say _ c.args.self.now c.self.view_is c.self.invariant.0.0).formers) (world_is g.L.Law.may_start g.L.Law.may_say _ c.args.self.now c.self.view_is c.self.invariant.0.0).kept c.args.actor c.requires (world_is g.L.Law.may_start g.L.Law.may_say _ c.args.self.now c.self.view_is c.self.invariant.0.0).unstopped stays

pub returns-clause-below : goal.returns-clause-below
returns-clause-below g c = λ pin is.
    actor_below (g.L.Law.may_start c.args.self.now.law) (g.L.Law.may_say c.args.self.now.law) (g.L.Law.proper c.args.self.now.law) (with_formers (state_of c.args.self.now) (world_is g.L.Law.may_start g.L.Law.may_say _ c.args.self.now c.self.view_is c.self.invariant.0.0).formers) (world_is g.L.Law.may_start g.L.Law.may_say _ c.args.self.now c.self.view_is c.self.invariant.0.0).kept c.args.actor c.requires (world_is g.L.Law.may_start g.L.Law.may_say _ c.args.self.now c.self.view_is c.self.invariant.0.0).unstopped pin (sym (returns-clause-pin g c) ∙ is)

pub returns-clause-settled : goal.returns-clause-settled
returns-clause-settled g c = λ pin is.
    actor_settled (g.L.Law.may_start c.args.self.now.law) (g.L.Law.may_say c.args.self.now.law) (g.L.Law.proper c.args.self.now.law) (with_formers (state_of c.args.self.now) (world_is g.L.Law.may_start g.L.Law.may_say _ c.args.self.now c.self.view_is c.self.invariant.0.0).formers) (world_is g.L.Law.may_start g.L.Law.may_say _ c.args.self.now c.self.view_is c.self.invariant.0.0).kept c.args.actor c.requires (world_is g.L.Law.may_start g.L.Law.may_say _ c.args.self.now c.self.view_is c.self.invariant.0.0).unstopped pin (sym (returns-clause-pin g c) ∙ is)

pub returns-clause-closed : goal.returns-clause-closed
returns-clause-closed g c = λ pin is.
    actor_closed (g.L.Law.may_start c.args.self.now.law) (g.L.Law.may_say c.args.self.now.law) (g.L.Law.proper c.args.self.now.law) (with_formers (state_of c.args.self.now) (world_is g.L.Law.may_start g.L.Law.may_say _ c.args.self.now c.self.view_is c.self.invariant.0.0).formers) (world_is g.L.Law.may_start g.L.Law.may_say _ c.args.self.now c.self.view_is c.self.invariant.0.0).kept c.args.actor c.requires (world_is g.L.Law.may_start g.L.Law.may_say _ c.args.self.now c.self.view_is c.self.invariant.0.0).unstopped pin (sym (returns-clause-pin g c) ∙ is)

pub returns-clause-shown : goal.returns-clause-shown
returns-clause-shown g c = λ pin p is.
    actor_shows (g.L.Law.may_start c.args.self.now.law) (g.L.Law.may_say c.args.self.now.law) (g.L.Law.proper c.args.self.now.law) (with_formers (state_of c.args.self.now) (world_is g.L.Law.may_start g.L.Law.may_say _ c.args.self.now c.self.view_is c.self.invariant.0.0).formers) (world_is g.L.Law.may_start g.L.Law.may_say _ c.args.self.now c.self.view_is c.self.invariant.0.0).kept c.args.actor c.requires (world_is g.L.Law.may_start g.L.Law.may_say _ c.args.self.now c.self.view_is c.self.invariant.0.0).unstopped pin (sym (returns-clause-pin g c) ∙ is) p
