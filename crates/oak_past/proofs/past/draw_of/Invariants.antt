use Rattle.std.proofs.Common.{◌≡◌, reverse, take}
use Rattle.std.specs.Option.{option_copied}
use Rattle.oak_machine.specs.Commits.{draw_of}
use Rattle.oak_past.proofs.past.draw_of.Given as goal

abbrev pub invariant-loop-event : goal.invariant-loop-event
invariant-loop-event l = option_copied l.draw ≡ draw_of (reverse (take l.event-index l.events)) l.r
