use Rattle.std.proofs.Common.{◌≡◌, map, take}
use Rattle.oak_prev.specs.Moving.{entry_of, revisions_of}
use Rattle.oak_prev.proofs.moving.revisions_of.Given as goal

-- the revisions so far
abbrev pub invariant-loop-entry : goal.invariant-loop-entry
invariant-loop-entry l = l.revisions ≡ revisions_of (map entry_of (take l.entry-index l.moved))
