use Rattle.std.proofs.Common.{◌≡◌, ◌++◌, drop}
use Rattle.std.specs.List.{filter_map}
use Rattle.jcr_lock.specs.Locks.{frozen_by}
use Rattle.jcr_plan.proofs.changed.covers_frozen.Given as goal

-- what is left leads there
abbrev pub invariant-loop-path : goal.invariant-loop-path
invariant-loop-path l = l.covers.items ++ filter_map (frozen_by l.tree) (drop l.path-index l.paths) ≡ filter_map (frozen_by l.tree) l.paths
