use Rattle.std.proofs.Common.{◌≡◌, None, map, subst}
use Rattle.std.specs.Prelude.{IfErr, IfOk}
use Rattle.std.specs.String.{string_bytes}
use Rattle.jr_tree.specs.Trees.{Nodes}
use Rattle.jr_items.specs.Refusals.{IsTheRefusal}
use Rattle.jcr_marks.specs.Marks.{marks_of}
use Rattle.jcr_plan.specs.Checked.{refusal_by}
use Rattle.jcr_plan.proofs.plans.planned_marks.Goals as goal

pub returns-clause-marks : goal.returns-clause-marks
returns-clause-marks c = subst (λ (t : Nodes). IfOk c.checked_marks.result (λ marks. marks ≡ marks_of t c.args.edit.now.writes)) c.unchanged.ensures c.checked_marks.ensures.marks

pub returns-clause-ok : goal.returns-clause-ok
returns-clause-ok c =
    subst (λ (t : Nodes). IfOk c.checked_marks.result (λ marks. refusal_by c.args.assured c.args.types.now t (map string_bytes c.args.tokens.now) c.args.edit.now.writes ≡ None)) c.unchanged.ensures c.checked_marks.ensures.ok

pub returns-clause-err : goal.returns-clause-err
returns-clause-err c =
    subst (λ (t : Nodes). IfErr c.checked_marks.result (IsTheRefusal (refusal_by c.args.assured c.args.types.now t (map string_bytes c.args.tokens.now) c.args.edit.now.writes))) c.unchanged.ensures c.checked_marks.ensures.err
