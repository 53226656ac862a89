use Rattle.jr_path.proofs.Parts.{below_is_prefix}
use Rattle.jr_path.proofs.laws.paths_below.Goals as goal

pub returns : goal.returns
returns c = below_is_prefix
