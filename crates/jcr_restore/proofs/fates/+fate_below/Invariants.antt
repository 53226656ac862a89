use Rattle.std.specs.Prelude.{length}
use Rattle.jcr_restore.proofs.fates.+fate_below.Given as goal

abbrev pub decreases-fate_below : goal.decreases-fate_below
decreases-fate_below l = length l.names.now
