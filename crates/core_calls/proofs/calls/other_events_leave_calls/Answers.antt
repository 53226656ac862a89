-- The base stays, the tree that it sees, and the state.
use Rattle.jcr_law.specs.Lasting.{says_of, starts_of}
use Rattle.core_calls.proofs.Called.{call_stays}
use Rattle.core_calls.proofs.calls.other_events_leave_calls.Goals as goal

pub returns : goal.returns
returns c = λ law h added s is none.
    call_stays law h.begin (starts_of law) (says_of law) h.clusters h.sessions is.nodes added h.past s is.run none
