use Rattle.std.proofs.Common.{◌≡◌, ◌-◌, max}
use Rattle.std.specs.Option.{option_map_or}
use Rattle.std.specs.List.{fold, range_with_len}
use Rattle.jr_rev.specs.Vectors.{entry}
use Rattle.oak_machine.specs.Heads.{greatest_time}
use Rattle.oak_past.proofs.heads.greatest_time.Given as goal

-- the greatest of what was passed and of what is left stays
abbrev pub invariant-loop-cluster : goal.invariant-loop-cluster
invariant-loop-cluster l = fold (λ t k. max t (option_map_or (λ r. r.time) (entry l.vector k) 0)) l.time (range_with_len l.cluster (9 - l.cluster)) ≡ greatest_time l.vector
