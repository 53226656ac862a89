use Rattle.std.proofs.Common.{subst, sym, ◌∙◌}
use Rattle.std.proofs.lemmas.Result.{IfOk-weaker}
use Rattle.oak_node.specs.Memory.{NodeState}
use Rattle.oak_world.specs.Changes.{IsToldUpTo}
use Rattle.oak_world.specs.Worlds.{state_of, with_formers}
use Rattle.oak_world.proofs.Seats.{its_memory, world_is}
use Rattle.oak_world.proofs.Since.{changes_told, if_told, told_is}
use Rattle.oak_world.proofs.world.World.changed.Goals as goal

pub returns-in-Some-clause-told : goal.returns-in-Some-clause-told
returns-in-Some-clause-told g c =
    let memory = its_memory (g.L.Law.may_start c.self.inside.law.value) (g.L.Law.may_say c.self.inside.law.value) (g.L.Law.proper c.self.inside.law.value) c.self.inside.law.value c.self.inside.journal c.self.inside.table c.self.inside.memories.items c.self.inside.actors.items
    c.self.invariant.0.0 c.args.self.now c.self.view_is c.args.actor c.node-node.result c.node-node.ensures.node c.index-memory.result.now c.index-memory.ensures in
    IfOk-weaker c.changed_up_to.result _ _
    (λ told is. if_told told
    (λ paths some. changes_told (g.L.Law.may_start c.args.self.now.law) (g.L.Law.may_say c.args.self.now.law) (g.L.Law.proper c.args.self.now.law) (with_formers (state_of c.args.self.now) (world_is g.L.Law.may_start g.L.Law.may_say _ c.args.self.now c.self.view_is c.self.invariant.0.0).formers) (world_is g.L.Law.may_start g.L.Law.may_say _ c.args.self.now c.self.view_is c.self.invariant.0.0).kept c.args.actor c.requires (world_is g.L.Law.may_start g.L.Law.may_say _ c.args.self.now c.self.view_is c.self.invariant.0.0).unstopped c.in-Some.pin (sym c.pin.ensures.pin ∙ c.in-Some.is) c.args.since.now paths
    (subst (λ (m : NodeState). IsToldUpTo m c.args.since.now c.in-Some.pin.base paths) memory
    (told_is c.index-memory.result.now c.args.since.now c.in-Some.pin.base paths (sym is ∙ some)))))
    c.changed_up_to.ensures
