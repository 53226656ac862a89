use Rattle.jcr_view.proofs.Again.{over_rebased, view_rebased}
use Rattle.jcr_view.proofs.laws.rebases_count.Goals as goal

pub returns-clause-over : goal.returns-clause-over
returns-clause-over c = λ t k ws part all. over_rebased t k part ws all

pub returns-clause-view : goal.returns-clause-view
returns-clause-view c = λ t k ws part all. view_rebased t k part ws all
