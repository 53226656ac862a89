use Rattle.jr_args.proofs.Grammar.{no_path}
use Rattle.jr_args.proofs.values.path.Goals as goal

pub returns-in-Err : goal.returns-in-Err
returns-in-Err c = rw c.refused.ensures (no_path _ _ c.in-Err.ensures.fault)
