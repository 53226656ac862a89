use Rattle.std.proofs.Common.{◌≡◌, reverse, take}
use Rattle.jcr_law.specs.Since.{came}
use Rattle.jcr_past.specs.Shown.{keeps}
use Rattle.jcr_past.proofs.came.has_kept.Given as goal

abbrev pub invariant-loop-at : goal.invariant-loop-at
invariant-loop-at l =
    l.kept ≡ came l.session (λ earlier e. keeps l.id l.v e) (reverse (take l.at l.events))
