use Rattle.std.proofs.Common.{◌++◌, ◌∙◌, ap}
use Rattle.oak_doc.specs.declared.asks.Reply.TheVariants as reply
use Rattle.oak_store.specs.Tables.{removal_of}
use Rattle.oak_tidy.specs.Tidyings.{tidying_fed}
use Rattle.oak_tidy.proofs.Looking.{counted}
use Rattle.oak_tidy.proofs.Ordered.{removal_in_order}
use Rattle.oak_tidy.proofs.asks.remove.Goals as goal

pub returns-clause-list : goal.returns-clause-list
returns-clause-list c =
    c.in_ok-push.ensures.ok
    ∙ ap (λ es. c.args.events.now.list ++ es) (counted c.args.s (tidying_fed c.args.tidying (reply.Removed (removal_of c.args.table.now c.args.id.now c.args.number))) c.args.tidying _ c.due-kind.result c.requires.asked tt c.due-kind.ensures)

pub returns-clause-order : goal.returns-clause-order
returns-clause-order c = rw c.remove_if.ensures.after (removal_in_order c.args.table.now c.args.id.now c.remove_if.result c.requires.table)
