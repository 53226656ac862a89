use Rattle.std.proofs.Common.{ap, sym, ◌∙◌, arith, rules}
use Rattle.oak_node.specs.Fields.{memory_state}
use Rattle.oak_node.specs.Heads.{last_drawn}
use Rattle.oak_node.specs.Memory.{own_entry}
use Rattle.oak_node.specs.Stops.{with_recovery}
use Rattle.oak_node.proofs.Recovering.{last_node, recovered_memory, recovered_same}
use Rattle.oak_node.proofs.memory.NodeMem.recover.Goals as goal

pub set-requires-clause-low : goal.set-requires-clause-low
set-requires-clause-low c =
    let last = c.last-last.ensures ∙ (ap (λ ds. last_drawn c.own.result ds) c.deref.ensures.value ∙ ap (λ e. last_drawn e c.self.inside.above.items) (c.own.ensures ∙ ap own_entry (sym c.self.view_is))) in
    let node = ap (λ q. q.cluster) last ∙ last_node (memory_state c.self.inside) c.self.invariant in
    omega (arith, node, c.self.invariant.low)

pub set-requires-clause-high : goal.set-requires-clause-high
set-requires-clause-high c =
    let last = c.last-last.ensures ∙ (ap (λ ds. last_drawn c.own.result ds) c.deref.ensures.value ∙ ap (λ e. last_drawn e c.self.inside.above.items) (c.own.ensures ∙ ap own_entry (sym c.self.view_is))) in
    let node = ap (λ q. q.cluster) last ∙ last_node (memory_state c.self.inside) c.self.invariant in
    omega (arith, node, c.self.invariant.high)

pub invariant_of-self : goal.invariant_of-self
invariant_of-self c =
    let last = c.last-last.ensures ∙ (ap (λ ds. last_drawn c.own.result ds) c.deref.ensures.value ∙ ap (λ e. last_drawn e c.self.inside.above.items) (c.own.ensures ∙ ap own_entry (sym c.self.view_is))) in
    recovered_memory (memory_state c.self.inside) c.last-last.result _ _ _ c.self.invariant (ap (λ s. s.stopped) c.self.view_is ∙ c.requires) last c.set.ensures (search rules) (search rules)

pub returns : goal.returns
returns c =
    let last = c.last-last.ensures ∙ (ap (λ ds. last_drawn c.own.result ds) c.deref.ensures.value ∙ ap (λ e. last_drawn e c.self.inside.above.items) (c.own.ensures ∙ ap own_entry (sym c.self.view_is))) in
    recovered_same (memory_state c.self.inside) c.last-last.result _ _ _ c.self.invariant last c.set.ensures (search rules) (search rules) ∙ ap with_recovery c.self.view_is
