-- The reply, or the login, is the session's.
use Rattle.core_calls.proofs.Beginning.{begins_at_login, begins_at_reply, begun_before}
use Rattle.core_calls.proofs.turns.commands_begin_behind_replies.Goals as goal

pub returns-clause-reply : goal.returns-clause-reply
returns-clause-reply c = begins_at_reply

pub returns-clause-login : goal.returns-clause-login
returns-clause-login c = begins_at_login

pub returns-clause-other : goal.returns-clause-other
returns-clause-other c = begun_before
