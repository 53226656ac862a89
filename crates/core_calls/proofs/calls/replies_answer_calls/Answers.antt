-- The reply is the session's.
use Rattle.core_calls.proofs.Called.{said_call}
use Rattle.core_calls.proofs.calls.replies_answer_calls.Goals as goal

pub returns : goal.returns
returns c = said_call
