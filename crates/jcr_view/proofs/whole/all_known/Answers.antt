use Rattle.std.proofs.Common.{[], ap, ◌∙◌}
use Rattle.jr_part.specs.Parts.{Knowledge}
use Rattle.jr_overlay.specs.Overlays.{known_view}
use Rattle.jcr_view.proofs.Known.{all_nodes, all_seen, known_whole}
use Rattle.jcr_view.proofs.whole.all_known.Goals as goal

pub returns-clause-nodes : goal.returns-clause-nodes
returns-clause-nodes c =
    ap (λ (k : Knowledge). k.nodes) (known_whole c.args.tree.now c.loop-path.part c.loop-path.path-iterator
    c.in-None.ensures.steps.0 c.loop-path.invariant)
    ∙ all_nodes c.args.tree.now c.len.ensures.sorted

pub returns-clause-seen : goal.returns-clause-seen
returns-clause-seen c =
    ap (λ (k : Knowledge). known_view k []) (known_whole c.args.tree.now c.loop-path.part c.loop-path.path-iterator
    c.in-None.ensures.steps.0 c.loop-path.invariant)
    ∙ all_seen c.args.tree.now c.len.ensures.sorted
