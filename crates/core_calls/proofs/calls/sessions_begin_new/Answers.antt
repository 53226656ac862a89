-- By the events of a run.
use Rattle.jcr_law.specs.Lasting.{says_of, starts_of}
use Rattle.core_calls.proofs.Called.{state_new, unbased, unbegun}
use Rattle.core_calls.proofs.calls.sessions_begin_new.Goals as goal

pub returns-clause-unbegun : goal.returns-clause-unbegun
returns-clause-unbegun c = unbegun

pub returns-clause-unbased : goal.returns-clause-unbased
returns-clause-unbased c = λ law h s run none. state_new law h.begin (starts_of law) (says_of law) h.clusters h.sessions h.past s run none

pub returns-clause-outside : goal.returns-clause-outside
returns-clause-outside c = λ law h s run out none. unbased law h.begin (starts_of law) (says_of law) h.clusters h.sessions h.past s run out none
