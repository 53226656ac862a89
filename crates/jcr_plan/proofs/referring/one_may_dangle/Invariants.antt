use Rattle.std.proofs.Common.{◌≡◌, drop}
use Rattle.std.specs.List.{list_any}
use Rattle.jcr_plan.specs.Checked.{may_dangle}
use Rattle.jcr_plan.proofs.referring.one_may_dangle.Given as goal

-- what is left decides
abbrev pub invariant-loop-write : goal.invariant-loop-write
invariant-loop-write l = list_any (may_dangle l.old l.new) (drop l.write-index l.writes) ≡ list_any (may_dangle l.old l.new) l.writes
