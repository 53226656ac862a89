-- No event of those added pins the cursor.
use Rattle.std.proofs.Common.{◌++◌}
use Rattle.jcr_law.specs.Passing.{unpinned_stays}
use Rattle.core_calls.proofs.Beginning.{cursor_stays}
use Rattle.core_calls.proofs.Unmoved.{unpinned_at_login, unpinned_at_reply, unpinned_over}
use Rattle.core_calls.proofs.turns.cursors_stand_until_they_move.Goals as goal

pub returns-clause-reply : goal.returns-clause-reply
returns-clause-reply c = unpinned_at_reply

pub returns-clause-login : goal.returns-clause-login
returns-clause-login c = unpinned_at_login

pub returns-clause-still : goal.returns-clause-still
returns-clause-still c = unpinned_over

pub returns-clause-others : goal.returns-clause-others
returns-clause-others c = λ added past s others. unpinned_stays (added ++ past) added past s others

pub returns-clause-pinned : goal.returns-clause-pinned
returns-clause-pinned c = λ added past s others. cursor_stays (added ++ past) added past s others
