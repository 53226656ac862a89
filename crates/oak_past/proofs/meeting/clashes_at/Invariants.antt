use Rattle.std.proofs.Common.{◌≡◌, ◌≤◌, drop, length}
use Rattle.std.specs.List.{list_any}
use Rattle.oak_clash.specs.Clashes.{clash, marks_at}
use Rattle.oak_past.proofs.meeting.clashes_at.Given as goal

abbrev pub invariant-loop-at : goal.invariant-loop-at
invariant-loop-at l = (l.found ≡ list_any (clash l.mark) (marks_at l.path (drop l.at l.others))) × (l.at ≤ length l.others)
