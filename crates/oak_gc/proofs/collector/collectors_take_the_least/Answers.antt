use Rattle.oak_gc.proofs.Bounding.{takes_the_least}
use Rattle.oak_gc.proofs.collector.collectors_take_the_least.Goals as goal

pub returns : goal.returns
returns c = takes_the_least
