use Rattle.oak_recover.proofs.Ending.{recovers_all}
use Rattle.oak_recover.proofs.laws.recoveries_end_by_the_definition.Goals as goal

pub returns : goal.returns
returns c = recovers_all
