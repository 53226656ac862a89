use Rattle.std.proofs.Common.{◌≡◌, take}
use Rattle.std.specs.Prelude.{reverse}
use Rattle.jcr_law.specs.Since.{stop_position}
use Rattle.jcr_past.proofs.since.stop_position.Given as goal

abbrev pub invariant-loop-at : goal.invariant-loop-at
invariant-loop-at l = l.position ≡ stop_position (reverse (take l.at l.events)) l.cluster
