use Rattle.std.proofs.Common.{length}
use Rattle.content_rows.proofs.view.+rise.Given as goal

abbrev pub decreases-rise : goal.decreases-rise
decreases-rise l = length l.names.now
