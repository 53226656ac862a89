use Rattle.std.proofs.Common.{sym, ◌∙◌, false}
use Rattle.oak_node.specs.declared.drawn.Drawn.{Drawn}
use Rattle.oak_node.proofs.Ends.{end_here, end_other}
use Rattle.oak_node.proofs.drawn.end.Goals as goal
use Rattle.oak_node.proofs.drawn.end.Goals.{then-eq, else-eq}

pub loop-d-preserved : goal.loop-d-preserved
loop-d-preserved c =
    let none : Drawn = record { revision = record { time = 0; counter = 0; cluster = 0 }; ended = false } in
    elim c.if-eq.branch [
      | then-eq w ↦
          w.drawn-is ∙ end_here c.args.r c.args.drawn.now c.loop-d.drawn c.loop-d.d-index none c.loop-d-test.true c.loop-d.invariant (sym c.eq.ensures ∙ w.if-eq.true)
      | else-eq w ↦
          w.drawn-is ∙ end_other c.args.r c.args.drawn.now c.loop-d.drawn c.loop-d.d-index none c.loop-d-test.true c.loop-d.invariant (sym c.eq.ensures ∙ w.if-eq.false)
    ]
