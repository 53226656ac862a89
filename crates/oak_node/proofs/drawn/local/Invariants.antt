use Rattle.std.proofs.Common.{◌≡◌, drop}
use Rattle.oak_node.specs.Heads.{local_from}
use Rattle.oak_node.proofs.Settling.{RisesFrom}
use Rattle.oak_node.proofs.drawn.local.Given as goal

-- what is left gives the answer
abbrev pub invariant-loop-d : goal.invariant-loop-d
invariant-loop-d l = record {
  rising : RisesFrom l.local (drop l.d-index l.drawn);
  same : local_from l.fn.own l.drawn ≡ local_from l.local (drop l.d-index l.drawn);
}
