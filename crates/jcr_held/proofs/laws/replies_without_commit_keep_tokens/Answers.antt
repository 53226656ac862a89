use Rattle.jcr_held.proofs.Unwritten.{said_fits}
use Rattle.jcr_held.proofs.laws.replies_without_commit_keep_tokens.Goals as goal

pub returns : goal.returns
returns c = said_fits
