use Rattle.std.proofs.Common.{◌≡◌, reverse, take}
use Rattle.oak_machine.specs.Heads.{last_draw_time}
use Rattle.oak_past.proofs.heads.last_draw_time.Given as goal

abbrev pub invariant-loop-event : goal.invariant-loop-event
invariant-loop-event l = l.time ≡ last_draw_time (reverse (take l.event-index l.events)) l.cluster
