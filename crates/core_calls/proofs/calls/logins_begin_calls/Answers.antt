-- The login is the session's.
use Rattle.core_calls.proofs.Called.{login_call}
use Rattle.core_calls.proofs.calls.logins_begin_calls.Goals as goal

pub returns : goal.returns
returns c = login_call
