use Rattle.core_clash.proofs.Finding.{found_marked, looked_found}
use Rattle.core_clash.proofs.what_is_found_was_there.Goals as goal

pub returns-clause-marks : goal.returns-clause-marks
returns-clause-marks c = found_marked

pub returns-clause-looked : goal.returns-clause-looked
returns-clause-looked c = looked_found
