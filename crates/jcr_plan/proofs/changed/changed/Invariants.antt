use Rattle.std.proofs.Common.{◌≡◌, take}
use Rattle.std.specs.List.{flat_map}
use Rattle.jcr_plan.specs.Plans.{changed_by}
use Rattle.jcr_plan.proofs.changed.changed.Given as goal

-- the nodes that the writes so far change
abbrev pub invariant-loop-write : goal.invariant-loop-write
invariant-loop-write l = l.paths.items ≡ flat_map changed_by (take l.write-index l.writes)
