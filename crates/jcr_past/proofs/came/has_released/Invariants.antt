use Rattle.std.proofs.Common.{◌≡◌, reverse, take}
use Rattle.jcr_law.specs.Since.{came}
use Rattle.jcr_past.specs.Shown.{releases}
use Rattle.jcr_past.proofs.came.has_released.Given as goal

abbrev pub invariant-loop-at : goal.invariant-loop-at
invariant-loop-at l =
    l.released ≡ came l.session (λ earlier e. releases l.id e) (reverse (take l.at l.events))
