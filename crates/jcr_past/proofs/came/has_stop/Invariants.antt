use Rattle.std.proofs.Common.{◌≡◌, reverse, take}
use Rattle.oak_machine.specs.Sessions.{is_stop_of}
use Rattle.jcr_law.specs.Since.{came}
use Rattle.jcr_past.proofs.came.has_stop.Given as goal

abbrev pub invariant-loop-at : goal.invariant-loop-at
invariant-loop-at l =
    l.stopped ≡ came l.session (λ earlier e. is_stop_of l.cluster e) (reverse (take l.at l.events))
