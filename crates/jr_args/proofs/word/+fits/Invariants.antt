use Rattle.std.proofs.Common.{length}
use Rattle.jr_args.proofs.word.+fits.Given as goal

abbrev pub decreases-fits : goal.decreases-fits
decreases-fits l = length l.kinds.now
