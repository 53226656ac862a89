use Rattle.std.proofs.Common.{◌≡◌, ◌++◌, take}
use Rattle.oak_changes.specs.Saying.{said_of}
use Rattle.std.proofs.Common.{filter, map, not}
use Rattle.std.specs.Map.{keys_of}
use Rattle.jr_rev.specs.Vectors.{sees}
use Rattle.oak_changes.proofs.said.add_changes.Given as goal

-- the changes of the states so far
abbrev pub invariant-loop-state : goal.invariant-loop-state
invariant-loop-state l = l.said ≡ l.initial.said ++ map (said_of l.from l.item l.states) (filter (λ r. not (sees l.from r)) (keys_of (take l.state-index l.states)))
