use Rattle.std.proofs.Common.{◌-◌, ◌<◌, ◌≤◌, length, subst, sym, List, ℕ}
use Rattle.std.specs.Prelude.{slice_index_or}
use Rattle.std.proofs.lemmas.List.{length-map}
use Rattle.oak_world.specs.Worlds.{WorldOf, shown_actor}
use Rattle.oak_world.proofs.Seats.{actor_within, index_there, memory_within, node_low, there_by}
use Rattle.oak_world.proofs.world.World.node.Goals as goal

pub returns-clause-low : goal.returns-clause-low
returns-clause-low g c =
    let there = there_by _ c.args.self.now c.args.actor c.self.view_is c.requires in
    subst (λ (xs : List ℕ). 1 ≤ slice_index_or xs c.args.actor 0) (sym c.as_slice-nodes.ensures)
    (node_low (g.L.Law.may_start c.self.inside.law.value) (g.L.Law.may_say c.self.inside.law.value) (g.L.Law.proper c.self.inside.law.value) c.self.inside.law.value c.self.inside.journal c.self.inside.table c.self.inside.memories.items c.self.inside.actors.items c.self.invariant.0.0 c.args.actor there (slice_index_or c.self.inside.journal.sessions c.args.actor 0) (index_there c.self.inside.journal.sessions c.args.actor there))

pub returns-clause-memory : goal.returns-clause-memory
returns-clause-memory g c =
    let there = there_by _ c.args.self.now c.args.actor c.self.view_is c.requires in
    subst (λ (xs : List ℕ). slice_index_or xs c.args.actor 0 - 1 < length c.args.self.now.memories) (sym c.as_slice-nodes.ensures)
    (subst (λ (w : WorldOf _). slice_index_or c.self.inside.journal.sessions c.args.actor 0 - 1 < length w.memories) c.self.view_is
    (memory_within (g.L.Law.may_start c.self.inside.law.value) (g.L.Law.may_say c.self.inside.law.value) (g.L.Law.proper c.self.inside.law.value) c.self.inside.law.value c.self.inside.journal c.self.inside.table c.self.inside.memories.items c.self.inside.actors.items c.self.invariant.0.0 c.args.actor there (slice_index_or c.self.inside.journal.sessions c.args.actor 0) (index_there c.self.inside.journal.sessions c.args.actor there)))

pub returns-clause-seat : goal.returns-clause-seat
returns-clause-seat g c =
    let there = there_by _ c.args.self.now c.args.actor c.self.view_is c.requires in
    subst (λ (w : WorldOf _). c.args.actor < length w.actors) c.self.view_is
    (subst (λ (n : ℕ). c.args.actor < n) (sym (length-map c.self.inside.actors.items shown_actor)) (actor_within (g.L.Law.may_start c.self.inside.law.value) (g.L.Law.may_say c.self.inside.law.value) (g.L.Law.proper c.self.inside.law.value) c.self.inside.law.value c.self.inside.journal c.self.inside.table c.self.inside.memories.items c.self.inside.actors.items c.self.invariant.0.0 c.args.actor there))
