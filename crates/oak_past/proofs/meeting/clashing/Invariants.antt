use Rattle.std.proofs.Common.{◌≡◌, ◌≤◌, drop, length}
use Rattle.oak_clash.specs.Clashes.{clashing}
use Rattle.oak_past.proofs.meeting.clashing.Given as goal

abbrev pub invariant-loop-at : goal.invariant-loop-at
invariant-loop-at l = (l.found ≡ clashing (drop l.at l.ours) l.others) × (l.at ≤ length l.ours)
