use Rattle.core_open.proofs.Showing.{mean_nodes, shows_start}
use Rattle.core_open.proofs.opened_documents_show_their_start.Goals as goal

pub returns-clause-shown : goal.returns-clause-shown
returns-clause-shown c = shows_start

pub returns-clause-mean : goal.returns-clause-mean
returns-clause-mean c = λ clusters sessions ds p openable. mean_nodes clusters sessions ds openable p
