use Rattle.std.proofs.Common.{take}
use Rattle.jcr_call.specs.Unset.{AreUnset}
use Rattle.jcr_call.proofs.proper.unset_items.Given as goal

abbrev pub invariant-loop-write : goal.invariant-loop-write
invariant-loop-write l = AreUnset (take l.write-index l.writes) l.unset
