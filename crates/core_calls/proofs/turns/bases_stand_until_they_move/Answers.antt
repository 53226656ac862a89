-- No event of those since calls the session.
use Rattle.jcr_law.specs.Lasting.{says_of, starts_of}
use Rattle.core_calls.proofs.Unmoved.{base_stands, call_stands, undetached, unrefreshed}
use Rattle.core_calls.proofs.turns.bases_stand_until_they_move.Goals as goal

pub returns-clause-base : goal.returns-clause-base
returns-clause-base c = base_stands

pub returns-clause-call : goal.returns-clause-call
returns-clause-call c = λ law h s is unmoved.
    call_stands law h.begin (starts_of law) (says_of law) h.clusters h.sessions is.nodes h.past s is.run unmoved

pub returns-clause-unrefreshed : goal.returns-clause-unrefreshed
returns-clause-unrefreshed c = unrefreshed

pub returns-clause-undetached : goal.returns-clause-undetached
returns-clause-undetached c = undetached
