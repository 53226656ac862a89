use Rattle.oak_acts.proofs.Tables.{updates_in_order}
use Rattle.oak_acts.proofs.documents.update.Goals as goal

pub returns-clause-order : goal.returns-clause-order
returns-clause-order c = updates_in_order c.args.table.now c.update.new.self c.args.op.now c.update.result c.update.ensures c.requires c.in_grammar.ensures
