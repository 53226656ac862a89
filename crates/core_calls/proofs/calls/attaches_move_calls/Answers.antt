-- The attach is the session's.
use Rattle.core_calls.proofs.Called.{attach_call}
use Rattle.core_calls.proofs.calls.attaches_move_calls.Goals as goal

pub returns : goal.returns
returns c = attach_call
