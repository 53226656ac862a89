use Rattle.std.proofs.Common.{◌≡◌, reverse, take}
use Rattle.jcr_law.specs.Since.{came}
use Rattle.jcr_past.specs.Shown.{shows_in}
use Rattle.jcr_past.proofs.came.has_in.Given as goal

abbrev pub invariant-loop-at : goal.invariant-loop-at
invariant-loop-at l =
    l.shown ≡ came l.session
    (λ earlier e. shows_in l.journal.clusters l.journal.start (reverse l.before) l.cluster
    l.text e) (reverse (take l.at l.events))
