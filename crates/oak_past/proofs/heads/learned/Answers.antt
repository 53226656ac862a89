use Rattle.std.proofs.Common.{◌∙◌, ◌+◌, ◌==◌, ap, cond, reverse}
use Rattle.jr_rev.specs.Vectors.{raised}
use Rattle.oak_machine.specs.Heads.{published}
use Rattle.oak_machine.proofs.Ranges.{fold_further, unless_same, where_same}
use Rattle.oak_past.proofs.heads.learned.Goals as goal
use Rattle.oak_past.proofs.heads.learned.Goals.{then-other-cluster, else-other-cluster}

pub loop-other-preserved : goal.loop-other-preserved
loop-other-preserved c =
    fold_further (λ v m. cond (m == c.args.cluster) v (raised v (published c.args.journal.now.start (reverse c.args.earlier.now) m))) c.loop-other.other (c.args.journal.now.clusters + 1) c.loop-other.vector c.if-other-cluster.vector _ c.loop-other-test.true
    (elim c.if-other-cluster.branch [
      | then-other-cluster w ↦ w.vector-is ∙ (w.raise.ensures ∙ (ap (raised c.loop-other.vector) w.published.ensures ∙ unless_same c.loop-other.other c.args.cluster c.loop-other.vector _ w.if-other-cluster.true))
      | else-other-cluster w ↦ w.vector-is ∙ where_same c.loop-other.other c.args.cluster c.loop-other.vector _ w.if-other-cluster.false
    ])
    c.loop-other.invariant
