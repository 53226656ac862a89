-- Event by event.
use Rattle.std.proofs.Common.{Bool, ap, sym, ◌++◌}
use Rattle.jcr_law.specs.Built.{asked}
use Rattle.core_calls.proofs.Beginning.{attached_now, attached_stays, unattached_now}
use Rattle.core_calls.proofs.Unmoved.{attached_stands}
use Rattle.core_calls.proofs.turns.attached_sessions_stay_so.Goals as goal

pub returns-clause-attach : goal.returns-clause-attach
returns-clause-attach c = attached_now

pub returns-clause-refresh : goal.returns-clause-refresh
returns-clause-refresh c = unattached_now

pub returns-clause-still : goal.returns-clause-still
returns-clause-still c = attached_stands

pub returns-clause-asked : goal.returns-clause-asked
returns-clause-asked c = λ h s m still. ap (λ (b : Bool). asked b m) (sym (attached_stands h.past s still))

pub returns-clause-others : goal.returns-clause-others
returns-clause-others c = λ added past s others. attached_stays (added ++ past) added past s others
