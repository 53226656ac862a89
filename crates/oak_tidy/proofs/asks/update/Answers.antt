use Rattle.std.proofs.Common.{◌++◌, ◌∙◌, ap}
use Rattle.oak_acts.specs.Acts.{reply_of}
use Rattle.oak_tidy.specs.Tidyings.{tidying_fed}
use Rattle.oak_tidy.proofs.Looking.{counted}
use Rattle.oak_tidy.proofs.asks.update.Goals as goal

pub returns-clause-list : goal.returns-clause-list
returns-clause-list c =
    c.in_ok-change.ensures.list
    ∙ ap (λ es. c.args.events.now.list ++ es) (counted c.args.s (tidying_fed c.args.tidying (reply_of c.args.table.now c.args.op.now)) c.args.tidying _ c.due-kind.result c.requires.asked tt c.due-kind.ensures)
