-- By the marks of an edit.
use Rattle.core_obeys.proofs.Runs.{plan_marks_parents}
use Rattle.core_obeys.proofs.plans_mark_parents.Goals as goal

pub returns : goal.returns
returns c = plan_marks_parents
