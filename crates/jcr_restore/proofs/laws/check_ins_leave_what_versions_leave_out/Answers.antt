use Rattle.jcr_restore.proofs.LeftOut.{leaves_out}
use Rattle.jcr_restore.proofs.laws.check_ins_leave_what_versions_leave_out.Goals as goal

pub returns : goal.returns
returns c = leaves_out
