-- A plan is proper, and the Exists and Props among its marks are those of its writes.
use Rattle.std.proofs.Common.{ℕ, List, sym, ap, ◌∙◌}
use Rattle.std.specs.List.{filter}
use Rattle.jr_tree.specs.declared.edit.Edit.{Edit}
use Rattle.jr_tree.specs.Edits.{IsProper}
use Rattle.jr_tree.specs.Trees.{Nodes}
use Rattle.jr_types.specs.declared.TypeDef.{TypeDef}
use Rattle.oak_clash.specs.declared.mark.MarkAt.{MarkAt}
use Rattle.oak_machine.specs.Laws.{is_of_item, AreOfWrites}
use Rattle.jcr_marks.proofs.OfWrites.{items_of_marks}
use Rattle.jcr_plan.specs.Plans.{PlanOk}

-- a plan is proper, and its marks are so
pub plan_proper : (types : List TypeDef) (t : Nodes) (tokens : List (List ℕ)) (edit : Edit) (marks : List MarkAt) → PlanOk types t tokens edit.writes marks → IsProper t edit.writes × AreOfWrites t edit marks
plan_proper types t tokens edit marks plan = (plan.proper, ap (filter is_of_item) (sym plan.marked) ∙ items_of_marks t t edit.writes)
