use Rattle.std.proofs.Common.{length, map, refl, take_all, ap, ◌∙◌, rules}
use Rattle.oak_world.specs.Worlds.{start_world}
use Rattle.oak_world.proofs.Starting.{idle_actor, start_asks, start_call, start_is, start_stored, table_is}
use Rattle.oak_world.proofs.world.World.new.Goals as goal

pub of-requires : goal.of-requires
of-requires g c = start_stored c.in_ok-documents.documents.items c.args.clusters _ c.in_ok-documents.ensures

pub invariant_of-result : goal.invariant_of-result
invariant_of-result g c =
    let all = take_all c.loop-node.node-index c.args.sessions.now c.loop-node-test.false in
    let table = table_is c.in_ok-table.table c.in_ok-documents.documents.items c.args.clusters _ (length c.args.sessions.now) c.in_ok-table.ensures c.in_ok-documents.ensures (search rules) in (
      start_call c.of-2.result.value c.args.clusters c.args.sessions.now c.loop-node.numbers c.new-events.result c.in_ok-table.table c.in_ok-memories.memories.items c.loop-node.actors.items (c.loop-node.invariant.numbers ∙ all) c.new-events.ensures table c.in_ok-memories.ensures
          (c.loop-node.invariant.actors ∙ ap (map (λ k. idle_actor)) all) (g.L.Law.may_start c.of-2.result.value) (g.L.Law.may_say c.of-2.result.value) c.requires.sessions c.requires.nodes,
      refl,
      start_asks c.of-2.result.value c.args.clusters c.args.sessions.now c.loop-node.numbers c.new-events.result c.in_ok-table.table c.in_ok-memories.memories.items c.loop-node.actors.items (c.loop-node.invariant.numbers ∙ all) c.new-events.ensures table c.in_ok-memories.ensures
          (c.loop-node.invariant.actors ∙ ap (map (λ k. idle_actor)) all) (g.L.Law.asks c.of-2.result.value),
    )

pub returns : goal.returns
returns g c =
    let all = take_all c.loop-node.node-index c.args.sessions.now c.loop-node-test.false in
    let table = table_is c.in_ok-table.table c.in_ok-documents.documents.items c.args.clusters _ (length c.args.sessions.now) c.in_ok-table.ensures c.in_ok-documents.ensures (search rules) in
    start_is c.of-2.result.value c.args.clusters c.args.sessions.now c.loop-node.numbers c.new-events.result c.in_ok-table.table c.in_ok-memories.memories.items c.loop-node.actors.items (c.loop-node.invariant.numbers ∙ all) c.new-events.ensures table c.in_ok-memories.ensures
    (c.loop-node.invariant.actors ∙ ap (map (λ k. idle_actor)) all)
    ∙ ap (λ law. start_world law c.args.clusters c.args.sessions.now) c.of-2.ensures
