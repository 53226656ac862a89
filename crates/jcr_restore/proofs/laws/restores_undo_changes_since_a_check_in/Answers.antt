use Rattle.jcr_restore.proofs.CheckedIn.{brings_back}
use Rattle.jcr_restore.proofs.laws.restores_undo_changes_since_a_check_in.Goals as goal

pub returns : goal.returns
returns c = λ types born old new p who ws checkin alone. brings_back types born old p who ws checkin new alone
