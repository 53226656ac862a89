use Rattle.std.proofs.Common.{ap, sym, subst, ◌∙◌}
use Rattle.std.specs.Prelude.{slice_get}
use Rattle.oak_node.specs.Memory.{NodeState}
use Rattle.oak_node.specs.Heads.{HasEnded, AwaitsEarlier}
use Rattle.oak_node.proofs.Waits.{waits}
use Rattle.oak_node.proofs.memory.NodeMem.awaits.Goals as goal

pub returns-in-Some : goal.returns-in-Some
returns-in-Some c =
    let ended = subst (λ (s : NodeState). HasEnded s c.args.r) (sym c.self.view_is) c.requires in
    subst (λ (s : NodeState). AwaitsEarlier s c.args.r c.in-Some.first.now.revision) c.self.view_is
    (waits _ c.args.r c.in-Some.first.now c.self.invariant ended (sym c.sees.ensures ∙ c.if-sees.false) (c.in-Some.ensures.value ∙ ap (λ ds. slice_get ds 0) c.deref.ensures.value))
