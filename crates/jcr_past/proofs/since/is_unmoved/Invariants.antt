use Rattle.std.proofs.Common.{◌≡◌, reverse, take}
use Rattle.std.specs.List.{list_any}
use Rattle.oak_machine.specs.Sessions.{since}
use Rattle.jcr_law.specs.Since.{is_move_of}
use Rattle.jcr_past.proofs.since.is_unmoved.Given as goal

abbrev pub invariant-loop-event : goal.invariant-loop-event
invariant-loop-event l =
    l.moved
    ≡ list_any (is_move_of l.session) (since (reverse (take l.event-index l.events)) l.session)
