use Rattle.std.proofs.Common.{◌∙◌, ◌+◌, ◌==◌, ◌||◌, false, refl, reverse, arith}
use Rattle.std.specs.Option.{option_map_or}
use Rattle.jr_rev.specs.Revisions.{is_at_most}
use Rattle.jr_rev.specs.Vectors.{entry}
use Rattle.oak_machine.specs.Heads.{published}
use Rattle.jcr_past.proofs.Known.{all_further, and_else, and_then}
use Rattle.jcr_past.proofs.came.knows_published.Goals as goal
use Rattle.jcr_past.proofs.came.knows_published.Goals.{then-knows, else-knows}

pub loop-below-preserved : goal.loop-below-preserved
loop-below-preserved c =
    let below = c.loop-below-test.true in
    all_further (λ m. (m == c.args.cluster)
    || option_map_or
    (is_at_most (published c.args.journal.now.start (reverse c.args.before.now) m))
    (entry c.args.v.now m) false)
    (c.loop-below.below + 1) (c.args.journal.now.clusters + 1) c.loop-below.knows c.if-knows.knows _
    _ (omega arith) refl
    (elim c.if-knows.branch [
      | then-knows w ↦
          and_then c.loop-below.knows c.if-knows.knows _ w.if-knows.true
          (w.knows-is ∙ w.knows_one-knows.ensures)
      | else-knows w ↦
          and_else c.loop-below.knows c.if-knows.knows _ w.if-knows.false
          (w.knows-is ∙ w.if-knows.false)
    ])
    c.loop-below.invariant
