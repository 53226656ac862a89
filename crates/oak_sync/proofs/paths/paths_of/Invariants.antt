use Rattle.std.proofs.Common.{◌≡◌, ◌++◌}
use Rattle.std.specs.Map.{keys_of}
use Rattle.oak_sync.specs.Upward.{node_paths}
use Rattle.oak_sync.proofs.paths.paths_of.Given as goal

-- the paths so far, and those that are left
abbrev pub invariant-loop-id : goal.invariant-loop-id
invariant-loop-id l = l.paths.items ++ node_paths (keys_of l.id-iterator) ≡ node_paths (keys_of l.fn.ids)
