-- By the law's own lasting.
use Rattle.std.proofs.Common.{◌++◌}
use Rattle.jcr_law.specs.Lasting.{grows_by_others, says_of, starts_of}
use Rattle.core_calls.proofs.Called.{call_stays, calls_none}
use Rattle.core_calls.proofs.calls.others_leave_what_is_asked.Goals as goal

pub returns-clause-all : goal.returns-clause-all
returns-clause-all c = λ law h added s is others.
    grows_by_others h.clusters h.sessions is.nodes h.begin (starts_of law) (says_of law) s law added h.past is.run others

pub returns-clause-call : goal.returns-clause-call
returns-clause-call c = λ law h added s is others.
    call_stays law h.begin (starts_of law) (says_of law) h.clusters h.sessions is.nodes added h.past s is.run
    (calls_none law h.begin (added ++ h.past) added s others)
