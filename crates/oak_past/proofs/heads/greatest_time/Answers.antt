use Rattle.std.proofs.Common.{◌∙◌, ap, max}
use Rattle.std.specs.Option.{option_map_or}
use Rattle.jr_rev.specs.Vectors.{entry}
use Rattle.oak_machine.proofs.Ranges.{fold_further, greater_number}
use Rattle.oak_past.proofs.heads.greatest_time.Goals as goal

pub loop-cluster-preserved : goal.loop-cluster-preserved
loop-cluster-preserved c =
    fold_further (λ t k. max t (option_map_or (λ r. r.time) (entry c.args.vector.now k) 0)) c.loop-cluster.cluster 9 c.loop-cluster.time c.max-time.result _ c.loop-cluster-test.true
    (c.max-time.ensures ∙ (greater_number _ _ ∙ ap (max c.loop-cluster.time) c.time_at.ensures)) c.loop-cluster.invariant
