use Rattle.std.proofs.Common.{arith}
use Rattle.jr_docs_read.proofs.Items.{prev_length}
use Rattle.jr_docs_read.proofs.fields.entry_of.Goals as goal

pub returns-in_default-clause-complete : goal.returns-in_default-clause-complete
returns-in_default-clause-complete c p e path listed is = let size = prev_length p e c.args.items.now is in omega (arith, size)

pub returns-in_default-2-clause-complete : goal.returns-in_default-2-clause-complete
returns-in_default-2-clause-complete c p e path listed is = let size = prev_length p e c.args.items.now is in omega (arith, size)
