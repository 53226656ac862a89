use Rattle.jcr_view.proofs.Based.{over_after, view_after}
use Rattle.jcr_view.proofs.laws.steps_count.Goals as goal

pub returns-clause-over : goal.returns-clause-over
returns-clause-over c = λ types who t k changed command part all. over_after t k changed part types who command all

pub returns-clause-view : goal.returns-clause-view
returns-clause-view c = λ types who t k changed command part all. view_after t k changed part types who command all
