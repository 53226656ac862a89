use Rattle.core_open.proofs.Lookups.{found_named}
use Rattle.core_open.proofs.Numbers.{one_id}
use Rattle.core_open.proofs.Rising.{at_most_last, no_lower}
use Rattle.core_open.proofs.opened_documents_are_numbered.Goals as goal

pub returns-clause-named : goal.returns-clause-named
returns-clause-named c = λ clusters sessions ds i d h. found_named _ i d h

pub returns-clause-apart : goal.returns-clause-apart
returns-clause-apart c = λ clusters sessions ds i j d e openable h k same. one_id clusters sessions ds openable i j d e h k same

pub returns-clause-last : goal.returns-clause-last
returns-clause-last c = at_most_last

pub returns-clause-rise : goal.returns-clause-rise
returns-clause-rise c = no_lower
