use Rattle.jr_defs.proofs.ByParts.{no_name}
use Rattle.jr_defs.proofs.reading.name_of.Goals as goal

pub returns-in-Err : goal.returns-in-Err
returns-in-Err c = rw c.refused.ensures (no_name _ _ c.in-Err.ensures.fault)
