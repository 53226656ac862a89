use Rattle.oak_recover.proofs.Told.{all_tell}
use Rattle.oak_recover.proofs.laws.recoveries_tell_what_the_root_says.Goals as goal

pub returns : goal.returns
returns c = all_tell
