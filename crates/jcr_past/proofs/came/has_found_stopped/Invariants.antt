use Rattle.std.proofs.Common.{◌≡◌, reverse, take}
use Rattle.jcr_law.specs.Since.{came}
use Rattle.jcr_law.specs.Tasks.{finds_stopped}
use Rattle.jcr_past.proofs.came.has_found_stopped.Given as goal

abbrev pub invariant-loop-at : goal.invariant-loop-at
invariant-loop-at l =
    l.found ≡ came l.session (finds_stopped l.session l.cluster) (reverse (take l.at l.events))
