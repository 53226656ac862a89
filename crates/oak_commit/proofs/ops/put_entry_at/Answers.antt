use Rattle.oak_commit.specs.Writing.{entry_of}
use Rattle.oak_commit.proofs.Indexed.{nothing_made}
use Rattle.oak_commit.proofs.ops.put_entry_at.Goals as goal

pub returns-in-None : goal.returns-in-None
returns-in-None c = nothing_made (entry_of c.args.r c.args.path.now) c.args.writes.now c.args.at c.args.changes.now c.in-None.ensures.lookup.3
