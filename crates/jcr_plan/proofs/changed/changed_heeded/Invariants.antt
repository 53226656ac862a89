use Rattle.std.proofs.Common.{◌≡◌, not, take}
use Rattle.std.specs.List.{filter, flat_map}
use Rattle.jcr_plan.specs.Plans.{changed_by, is_ignored}
use Rattle.jcr_plan.proofs.changed.changed_heeded.Given as goal

-- the nodes that the writes so far change
abbrev pub invariant-loop-write : goal.invariant-loop-write
invariant-loop-write l = l.paths.items ≡ flat_map changed_by (filter (λ w. not (is_ignored l.types l.old l.new w)) (take l.write-index l.writes))
