use Rattle.std.proofs.Common.{◌≡◌, drop}
use Rattle.jcr_version.specs.Limits.{added_limit}
use Rattle.jcr_version.proofs.limits.check_added.Given as goal

-- the first of all that passes a limit is the first of those that are left
abbrev pub invariant-loop-write : goal.invariant-loop-write
invariant-loop-write l = added_limit l.writes ≡ added_limit (drop l.write-index l.writes)
