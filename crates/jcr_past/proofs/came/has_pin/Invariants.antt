use Rattle.std.proofs.Common.{◌≡◌, reverse, take}
use Rattle.jcr_law.specs.Since.{came, is_pinning}
use Rattle.jcr_past.proofs.came.has_pin.Given as goal

abbrev pub invariant-loop-at : goal.invariant-loop-at
invariant-loop-at l =
    l.pinned ≡ came l.session (λ earlier e. is_pinning l.session e) (reverse (take l.at l.events))
