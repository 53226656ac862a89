use Rattle.std.proofs.Common.{◌≡◌, ◌↔◌, true, Option, is_some, sym, subst, ◌∙◌, arith}
use Rattle.oak_machine.specs.declared.event.StepKind.{StepKind}
use Rattle.core_world.specs.States.{memory_of}
use Rattle.oak_world.specs.Kept.{scene}
use Rattle.oak_world.specs.Worlds.{IsAtRest, live, state_of, work_in}
use Rattle.oak_world.proofs.Left.{over}
use Rattle.oak_world.proofs.Keeping.{busy_due}
use Rattle.oak_world.proofs.Seats.{actor_within, due_there, there_by, world_is}
use Rattle.oak_world.proofs.world.World.due.Goals as goal

pub index-seat-requires : goal.index-seat-requires
index-seat-requires g c =
    let within = actor_within (g.L.Law.may_start c.self.inside.law.value) (g.L.Law.may_say c.self.inside.law.value) (g.L.Law.proper c.self.inside.law.value) c.self.inside.law.value c.self.inside.journal c.self.inside.table c.self.inside.memories.items c.self.inside.actors.items c.self.invariant.0.0
    c.args.actor (there_by _ c.args.self.now c.args.actor c.self.view_is c.requires) in
    omega (arith, within, c.self.inside.actors.ok.0)

pub returns-clause-due : goal.returns-clause-due
returns-clause-due g c =
    let within = actor_within (g.L.Law.may_start c.self.inside.law.value) (g.L.Law.may_say c.self.inside.law.value) (g.L.Law.proper c.self.inside.law.value) c.self.inside.law.value c.self.inside.journal c.self.inside.table c.self.inside.memories.items c.self.inside.actors.items c.self.invariant.0.0
    c.args.actor (there_by _ c.args.self.now c.args.actor c.self.view_is c.requires) in
    c.due.ensures ∙ due_there c.self.inside.law.value c.self.inside.journal c.self.inside.table c.self.inside.memories.items c.self.inside.actors.items c.args.self.now c.self.view_is c.args.actor c.index-seat.result.now c.index-seat.result.now within c.index-seat.ensures

pub returns-clause-busy : goal.returns-clause-busy
returns-clause-busy g c =
    subst (λ (o : Option StepKind). (is_some o ≡ true) ↔ (IsAtRest (work_in c.args.self.now.actors c.args.actor) → ⊥)) (sym (returns-clause-due g c))
    (busy_due (g.L.Law.may_start c.args.self.now.law) (scene c.args.self.now.table (world_is g.L.Law.may_start g.L.Law.may_say _ c.args.self.now c.self.view_is c.self.invariant.0.0).formers (live c.args.self.now.history)) c.args.actor (work_in c.args.self.now.actors c.args.actor)
    ((world_is g.L.Law.may_start g.L.Law.may_say _ c.args.self.now c.self.view_is c.self.invariant.0.0).may c.args.actor))

pub returns-clause-over : goal.returns-clause-over
returns-clause-over g c =
    over (g.L.Law.may_start c.args.self.now.law) (scene c.args.self.now.table (world_is g.L.Law.may_start g.L.Law.may_say _ c.args.self.now c.self.view_is c.self.invariant.0.0).formers (live c.args.self.now.history)) c.args.actor (memory_of (state_of c.args.self.now) c.args.actor) (work_in c.args.self.now.actors c.args.actor)
    ((world_is g.L.Law.may_start g.L.Law.may_say _ c.args.self.now c.self.view_is c.self.invariant.0.0).may c.args.actor)
