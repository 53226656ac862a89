use Rattle.std.proofs.Common.{◌≡◌, reverse, take}
use Rattle.oak_machine.specs.Sessions.{refreshed_among, since}
use Rattle.jcr_law.specs.Since.{detached_among}
use Rattle.jcr_past.proofs.came.detached_since.Given as goal

abbrev pub invariant-loop-event : goal.invariant-loop-event
invariant-loop-event l =
    (l.refreshed
    ≡ refreshed_among (since (reverse (take l.event-index l.events)) l.session) l.session)
    × (l.detached
    ≡ detached_among (since (reverse (take l.event-index l.events)) l.session) l.session)
