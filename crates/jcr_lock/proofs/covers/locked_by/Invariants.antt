use Rattle.std.proofs.Common.{◌≡◌, drop, map}
use Rattle.std.specs.List.{find}
use Rattle.std.specs.String.{string_bytes}
use Rattle.jcr_lock.specs.Locks.{bars}
use Rattle.jcr_lock.proofs.covers.locked_by.Given as goal

-- what is left decides
abbrev pub invariant-loop-at : goal.invariant-loop-at
invariant-loop-at l = find (bars l.tree l.path (map string_bytes l.tokens)) (drop l.at-index l.at-items) ≡ find (bars l.tree l.path (map string_bytes l.tokens)) l.at-items
