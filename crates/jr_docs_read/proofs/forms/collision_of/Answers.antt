use Rattle.std.proofs.Common.{arith}
use Rattle.std.proofs.lemmas.Bool.Decides.{nat_tests}
use Rattle.jr_docs_read.proofs.Items.{collision_length}
use Rattle.jr_docs_read.proofs.forms.collision_of.Goals as goal
use Rattle.jr_docs_read.proofs.forms.collision_of.Goals.{in_default-via-then-items-lt2, in_default-via-else-items-lt2+else-items-lt3}

pub returns-in_default-clause-complete : goal.returns-in_default-clause-complete
returns-in_default-clause-complete c x range is =
    let size = collision_length x c.args.items.now is in
    elim c.in_default.branch [ in_default-via-then-items-lt2 w ↦ grind (arith, nat_tests, size) | in_default-via-else-items-lt2+else-items-lt3 w ↦ grind (arith, nat_tests, size) ]
