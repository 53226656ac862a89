use Rattle.std.proofs.Common.{◌≡◌, reverse, take}
use Rattle.jcr_law.specs.Since.{came}
use Rattle.jcr_past.specs.Shown.{shows_collection}
use Rattle.jcr_past.proofs.came.has_collection.Given as goal

abbrev pub invariant-loop-at : goal.invariant-loop-at
invariant-loop-at l =
    l.shown ≡ came l.session (λ earlier e. shows_collection l.session l.text e)
    (reverse (take l.at l.events))
