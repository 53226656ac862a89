use Rattle.jr_args.proofs.Grammar.{no_name}
use Rattle.jr_args.proofs.values.name.Goals as goal

pub returns-in-Err : goal.returns-in-Err
returns-in-Err c = rw c.refused.ensures (no_name _ _ c.in-Err.ensures.fault)
