use Rattle.store_rows.proofs.Empty.{nothing_stored}
use Rattle.store_rows.proofs.tasks.table.Goals as goal

pub of-requires : goal.of-requires
of-requires c = rw c.new.ensures.items (nothing_stored c.args.drawn)
