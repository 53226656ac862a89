use Rattle.std.proofs.Common.{◌≡◌, reverse, take}
use Rattle.std.specs.List.{fold}
use Rattle.oak_machine.specs.Heads.{outs_of, greater_of, published}
use Rattle.oak_past.proofs.heads.published.Given as goal

-- the greatest of what was passed and of what is left stays
abbrev pub invariant-loop-at : goal.invariant-loop-at
invariant-loop-at l = fold greater_of l.published (outs_of (reverse (take l.at l.events)) l.cluster) ≡ published l.journal.start (reverse l.events) l.cluster
