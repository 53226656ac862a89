-- The refresh is the session's.
use Rattle.core_calls.proofs.Called.{refresh_call}
use Rattle.core_calls.proofs.calls.refreshes_move_calls.Goals as goal

pub returns : goal.returns
returns c = refresh_call
