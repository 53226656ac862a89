use Rattle.jr_overlay.proofs.Below.{base_under}
use Rattle.jr_overlay.proofs.Commits.{known_base}
use Rattle.jr_overlay.proofs.laws.known_bases_agree.Goals as goal

pub returns-clause-node : goal.returns-clause-node
returns-clause-node c = known_base

pub returns-clause-below : goal.returns-clause-below
returns-clause-below c = λ t k changed p q tree sorted agrees over nothing under.
    base_under t tree k sorted agrees p nothing changed over q under
