use Rattle.std.proofs.Common.{sym}
use Rattle.oak_read.specs.Shown.{shown}
use Rattle.oak_read.proofs.Entries.{latest_alone}
use Rattle.oak_read.proofs.node.value_with.Goals as goal

pub returns-in-None : goal.returns-in-None
returns-in-None c = rw (← c.in-None.ensures) (sym (latest_alone (shown c.args.best)))
