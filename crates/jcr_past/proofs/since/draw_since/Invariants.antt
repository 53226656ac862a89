use Rattle.std.proofs.Common.{◌≡◌, take}
use Rattle.std.specs.Prelude.{reverse}
use Rattle.std.specs.Option.{option_copied}
use Rattle.jcr_law.specs.Since.{draw_since}
use Rattle.jcr_past.proofs.since.draw_since.Given as goal

abbrev pub invariant-loop-event : goal.invariant-loop-event
invariant-loop-event l =
    option_copied l.drawn ≡ draw_since (reverse (take l.event-index l.events)) l.session
