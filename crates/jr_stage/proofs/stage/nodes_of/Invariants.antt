use Rattle.std.proofs.Common.{◌≡◌, map, take}
use Rattle.jr_stage.proofs.stage.nodes_of.Given as goal

-- the cluster nodes of the sessions so far
abbrev pub invariant-loop-session : goal.invariant-loop-session
invariant-loop-session l = l.nodes.items ≡ map (λ s. s.cluster) (take l.session-index l.sessions)
