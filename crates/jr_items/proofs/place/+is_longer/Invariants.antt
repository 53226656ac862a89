use Rattle.std.specs.Prelude.{length}
use Rattle.jr_items.proofs.place.+is_longer.Given as goal

abbrev pub decreases-is_longer : goal.decreases-is_longer
decreases-is_longer l = length l.names.now
