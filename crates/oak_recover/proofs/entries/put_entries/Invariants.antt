use Rattle.std.proofs.Common.{◌≡◌}
use Rattle.std.specs.Map.{keys_of}
use Rattle.oak_recover.specs.Dead.{with_each}
use Rattle.oak_recover.proofs.entries.put_entries.Given as goal

-- those so far are put, and those that are left come to the same
abbrev pub invariant-loop-r : goal.invariant-loop-r
invariant-loop-r g l = with_each l.after.cluster l.after.last l.revisions (keys_of l.r-iterator) ≡ with_each l.after.cluster l.after.last l.initial.revisions (keys_of l.entries)
