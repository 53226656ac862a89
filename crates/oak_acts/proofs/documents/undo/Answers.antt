use Rattle.std.proofs.Common.{sym, subst}
use Rattle.oak_read.specs.Reading.{IsTable}
use Rattle.oak_store.specs.Tables.{Table}
use Rattle.core_world.proofs.Tabled.{undo_in_order}
use Rattle.oak_acts.proofs.documents.undo.Goals as goal

pub returns-clause-order : goal.returns-clause-order
returns-clause-order c = subst (λ (t : Table). IsTable t.documents) (sym c.undo.ensures) (undo_in_order c.args.table.now c.args.id.now c.args.r c.requires)
