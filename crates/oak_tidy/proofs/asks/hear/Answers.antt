use Rattle.std.proofs.Common.{◌++◌, ◌∙◌, ap}
use Rattle.oak_gc.specs.Bounding.{node_reply}
use Rattle.oak_tidy.specs.Replies.{node_tells}
use Rattle.oak_tidy.specs.Tidyings.{tidying_fed}
use Rattle.oak_tidy.proofs.Looking.{counted}
use Rattle.oak_tidy.proofs.asks.hear.Goals as goal

pub returns-clause-list : goal.returns-clause-list
returns-clause-list c =
    c.in_ok-push.ensures.ok
    ∙ ap (λ es. c.args.events.now.list ++ es) (counted c.args.s (tidying_fed c.args.tidying (node_reply (node_tells c.args.memory.now))) c.args.tidying _ c.due-kind.result c.requires tt c.due-kind.ensures)
