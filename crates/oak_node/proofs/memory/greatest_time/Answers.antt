use Rattle.std.proofs.Common.{[], ◌∷◌, sym, ◌∙◌}
use Rattle.oak_node.proofs.Times.{time_some, time_none}
use Rattle.oak_node.proofs.memory.greatest_time.Goals as goal
use Rattle.oak_node.proofs.memory.greatest_time.Goals.{in-Some, in_default}

pub loop-cluster-preserved : goal.loop-cluster-preserved
loop-cluster-preserved c =
    elim c.match-get.branch [
      | in-Some w ↦
          time_some c.args.vector.now (1 ∷ 2 ∷ 3 ∷ 4 ∷ 5 ∷ 6 ∷ 7 ∷ 8 ∷ []) c.loop-cluster.cluster-index c.loop-cluster.time c.match-get.time w.in-Some.r c.loop-cluster-test.true c.loop-cluster.invariant w.in-Some.ensures (w.time-is ∙ w.max-time.ensures)
      | in_default w ↦
          time_none c.args.vector.now (1 ∷ 2 ∷ 3 ∷ 4 ∷ 5 ∷ 6 ∷ 7 ∷ 8 ∷ []) c.loop-cluster.cluster-index c.loop-cluster.time c.match-get.time c.loop-cluster-test.true c.loop-cluster.invariant (sym w.in_default.is ∙ c.get.ensures) w.time-is
    ]
