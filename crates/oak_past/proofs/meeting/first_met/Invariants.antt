use Rattle.std.proofs.Common.{◌≡◌, ◌≤◌, drop, length}
use Rattle.std.specs.Option.{option_copied}
use Rattle.oak_machine.specs.Tests.{first_met}
use Rattle.oak_past.proofs.meeting.first_met.Given as goal

abbrev pub invariant-loop-at : goal.invariant-loop-at
invariant-loop-at l = (option_copied l.first ≡ first_met l.path (drop l.at l.ours) l.others) × (l.at ≤ length l.ours)
