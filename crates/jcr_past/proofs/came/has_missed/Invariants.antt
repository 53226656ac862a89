use Rattle.std.proofs.Common.{◌≡◌, reverse, take}
use Rattle.jcr_law.specs.Since.{came}
use Rattle.jcr_law.specs.Tasks.{misses}
use Rattle.jcr_past.proofs.came.has_missed.Given as goal

abbrev pub invariant-loop-at : goal.invariant-loop-at
invariant-loop-at l =
    l.missed ≡ came l.session (misses l.session l.id) (reverse (take l.at l.events))
