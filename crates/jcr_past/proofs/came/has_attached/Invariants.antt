use Rattle.std.proofs.Common.{◌≡◌, reverse, take}
use Rattle.jcr_law.specs.Since.{came}
use Rattle.jcr_past.specs.Shown.{attaches}
use Rattle.jcr_past.proofs.came.has_attached.Given as goal

abbrev pub invariant-loop-at : goal.invariant-loop-at
invariant-loop-at l =
    l.attached ≡ came l.session (λ earlier e. attaches l.session l.id e)
    (reverse (take l.at l.events))
