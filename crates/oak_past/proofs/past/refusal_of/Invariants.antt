use Rattle.std.proofs.Common.{◌≡◌, take}
use Rattle.std.specs.Prelude.{reverse}
use Rattle.oak_machine.specs.Commits.{refusal_of}
use Rattle.std.specs.Prelude.{option_map}
use Rattle.std.specs.Map.Iter.{deref_pair}
use Rattle.oak_past.proofs.past.refusal_of.Given as goal

abbrev pub invariant-loop-event : goal.invariant-loop-event
invariant-loop-event l = option_map deref_pair l.refusal ≡ refusal_of (reverse (take l.event-index l.events)) l.r
