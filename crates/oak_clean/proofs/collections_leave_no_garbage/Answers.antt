use Rattle.oak_clean.proofs.Whole.{leaves_clean, skips_what_stays}
use Rattle.oak_clean.proofs.collections_leave_no_garbage.Goals as goal

pub returns-clause-clean : goal.returns-clause-clean
returns-clause-clean c = λ bound t swept table names. leaves_clean bound t table swept names

pub returns-clause-skipped : goal.returns-clause-skipped
returns-clause-skipped c = λ bound t swept table names. skips_what_stays bound t table swept names
