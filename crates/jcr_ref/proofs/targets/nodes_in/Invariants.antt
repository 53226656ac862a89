use Rattle.std.proofs.Common.{◌≡◌, take}
use Rattle.std.specs.List.{filter_map}
use Rattle.jcr_ref.specs.Targets.{node_by_text}
use Rattle.jcr_ref.proofs.targets.nodes_in.Given as goal

-- the nodes so far
abbrev pub invariant-loop-id : goal.invariant-loop-id
invariant-loop-id l = l.paths.items ≡ filter_map (node_by_text l.index) (take l.id-index l.ids)
