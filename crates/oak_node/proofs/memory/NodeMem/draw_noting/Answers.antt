use Rattle.std.proofs.Common.{◌≡◌, ◌+◌, ap, sym, ◌∙◌, arith}
use Rattle.oak_node.specs.Fields.{memory_state}
use Rattle.oak_node.specs.Heads.{known_time, next_draw}
use Rattle.oak_node.proofs.Kept.{draw_memory}
use Rattle.oak_node.proofs.Noting.{drawn_last, drawn_noting, noting_memory}
use Rattle.oak_node.proofs.memory.NodeMem.draw_noting.Goals as goal

pub invariant_of-self-2 : goal.invariant_of-self-2
invariant_of-self-2 c =
    let next = c.next_draw-revision.ensures ∙ ap next_draw (sym c.self.view_is) in
    let time : c.next_draw-revision.result.time ≡ known_time (memory_state c.self.inside) + 1 = ap (λ q. q.time) next in
    noting_memory _ c.next_draw-revision.result c.args.paths.now _ _ (draw_memory (memory_state c.self.inside) _ _ c.self.invariant (omega (arith, time)) (ap (λ q. q.cluster) next) c.in_ok-put_draw.ensures.drawn)
    (drawn_last (memory_state c.self.inside) c.next_draw-revision.result next) c.in_ok-put_draw.ensures.more

pub returns-clause-ok : goal.returns-clause-ok
returns-clause-ok c =
    let next = c.next_draw-revision.ensures ∙ ap next_draw (sym c.self.view_is) in
    rw (← c.self.view_is) (drawn_noting (memory_state c.self.inside) c.next_draw-revision.result c.args.paths.now _ _ _ next c.in_ok-put_draw.ensures.noted c.in_ok-put_draw.ensures.more c.in_ok-put_draw.ensures.drawn)
