-- The event is the session's.
use Rattle.core_calls.proofs.Beginning.{drawn_now, next_reply, refreshed_now, since_login, since_reply}
use Rattle.std.proofs.Common.{◌++◌}
use Rattle.jcr_law.specs.Passing.{unmoved_stays}
use Rattle.core_calls.proofs.Unmoved.{moved_at_refresh, unmoved_at_login, unmoved_at_reply, unmoved_over, unmoved_same}
use Rattle.core_calls.proofs.turns.commands_tell_what_came.Goals as goal

pub returns-clause-reply : goal.returns-clause-reply
returns-clause-reply c = since_reply

pub returns-clause-login : goal.returns-clause-login
returns-clause-login c = since_login

pub returns-clause-next : goal.returns-clause-next
returns-clause-next c = next_reply

pub returns-clause-draw : goal.returns-clause-draw
returns-clause-draw c = drawn_now

pub returns-clause-refresh : goal.returns-clause-refresh
returns-clause-refresh c = refreshed_now

pub returns-clause-unmoved_reply : goal.returns-clause-unmoved_reply
returns-clause-unmoved_reply c = unmoved_at_reply

pub returns-clause-unmoved_login : goal.returns-clause-unmoved_login
returns-clause-unmoved_login c = unmoved_at_login

pub returns-clause-moved : goal.returns-clause-moved
returns-clause-moved c = moved_at_refresh

pub returns-clause-other : goal.returns-clause-other
returns-clause-other c = unmoved_same

pub returns-clause-still : goal.returns-clause-still
returns-clause-still c = unmoved_over

pub returns-clause-others : goal.returns-clause-others
returns-clause-others c = λ added past s others. unmoved_stays (added ++ past) added past s others
