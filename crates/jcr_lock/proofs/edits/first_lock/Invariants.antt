use Rattle.std.proofs.Common.{◌≡◌, drop}
use Rattle.std.specs.List.{find}
use Rattle.std.specs.Map.{keys_of}
use Rattle.std.specs.Map.Iter.{deref_pair}
use Rattle.std.proofs.Common.{map}
use Rattle.jcr_lock.specs.Locks.{first_lock, is_lock}
use Rattle.jcr_lock.proofs.edits.first_lock.Given as goal

-- what is left decides
abbrev pub invariant-loop-at : goal.invariant-loop-at
invariant-loop-at l = find (is_lock l.tree) (keys_of (map deref_pair (drop l.at-index l.at-items))) ≡ first_lock l.tree l.path
