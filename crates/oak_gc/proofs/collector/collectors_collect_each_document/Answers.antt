use Rattle.oak_gc.proofs.Resting.{collects_by_the_least, collects_each}
use Rattle.oak_gc.proofs.collector.collectors_collect_each_document.Goals as goal

pub returns-clause-each : goal.returns-clause-each
returns-clause-each c = collects_each

pub returns-clause-least : goal.returns-clause-least
returns-clause-least c = collects_by_the_least
