use Rattle.std.proofs.Common.{length}
use Rattle.repo_top.proofs.words.+option_given.Given as goal

abbrev pub decreases-option_given : goal.decreases-option_given
decreases-option_given l = length l.words.now
