use Rattle.std.specs.Prelude.{length}
use Rattle.jcr_frozen.proofs.frozen.+is_frozen_down.Given as goal

abbrev pub decreases-is_frozen_down : goal.decreases-is_frozen_down
decreases-is_frozen_down l = length l.names.now
