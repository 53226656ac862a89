use Rattle.std.proofs.Common.{ap, map, ◌∙◌}
use Rattle.std.specs.Map.Iter.{deref_pair}
use Rattle.sql_plan.proofs.Partners.{pairs_more}
use Rattle.sql_plan.proofs.join.add_pairs.Goals as goal

pub loop-tuple-preserved : goal.loop-tuple-preserved
loop-tuple-preserved c =
    pairs_more c.args.on.now c.args.left.now (map deref_pair c.args.right.now) c.loop-tuple.tuple-index c.tuple-item.result _ _ _ _ c.loop-tuple-test.true c.tuple-item.is c.in_ok-add_pairs_of.ensures (ap (map deref_pair) c.deref.ensures.value ∙ c.in_ok-spots.ensures) c.loop-tuple.invariant
