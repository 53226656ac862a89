use Rattle.std.proofs.Common.{◌≡◌, drop}
use Rattle.std.specs.List.{find}
use Rattle.jcr_lock.specs.Locks.{lock_covers}
use Rattle.jcr_lock.proofs.covers.covering_lock.Given as goal

-- what is left decides
abbrev pub invariant-loop-at : goal.invariant-loop-at
invariant-loop-at l = find (λ q. lock_covers l.tree q l.path) (drop l.at-index l.at-items) ≡ find (λ q. lock_covers l.tree q l.path) l.at-items
