use Rattle.std.proofs.Common.{◌≡◌, reverse, take}
use Rattle.jcr_law.specs.Since.{came}
use Rattle.jcr_past.specs.Shown.{shows_recovery}
use Rattle.jcr_past.proofs.came.has_recovery.Given as goal

abbrev pub invariant-loop-at : goal.invariant-loop-at
invariant-loop-at l =
    l.shown ≡ came l.session (shows_recovery l.cluster l.text) (reverse (take l.at l.events))
