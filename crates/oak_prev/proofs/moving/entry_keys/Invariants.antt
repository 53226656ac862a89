use Rattle.std.proofs.Common.{◌≡◌, map, take}
use Rattle.oak_prev.specs.Moving.{entry_of, entry_key}
use Rattle.oak_prev.proofs.moving.entry_keys.Given as goal

-- the keys so far
abbrev pub invariant-loop-entry : goal.invariant-loop-entry
invariant-loop-entry l = l.keys ≡ map entry_key (map entry_of (take l.entry-index l.moved))
