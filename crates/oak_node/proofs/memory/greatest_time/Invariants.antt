use Rattle.std.proofs.Common.{◌≡◌, max, take, fold}
use Rattle.std.specs.Option.{option_map_or}
use Rattle.jr_rev.specs.Vectors.{entry}
use Rattle.oak_node.proofs.memory.greatest_time.Given as goal

abbrev pub invariant-loop-cluster : goal.invariant-loop-cluster
invariant-loop-cluster l = l.time ≡ fold (λ time k. max time (option_map_or (λ r. r.time) (entry l.vector k) 0)) 0 (take l.cluster-index l.cluster-items)
