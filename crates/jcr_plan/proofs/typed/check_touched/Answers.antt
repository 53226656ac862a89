use Rattle.std.proofs.Common.{◌≡◌, List, None, subst}
use Rattle.std.specs.Prelude.{OnOk, IfErr, option_map}
use Rattle.jr_items.specs.Items.{first_of}
use Rattle.jr_items.specs.Refusals.{IsTheRefusal}
use Rattle.jr_rules.specs.Violations.{Violation}
use Rattle.jcr_plan.specs.Refusals.{type_refusal}
use Rattle.jcr_plan.proofs.TouchedPaths.{touched_found}
use Rattle.jcr_plan.proofs.typed.check_touched.Goals as goal

pub returns-in-Ok-clause-ok : goal.returns-in-Ok-clause-ok
returns-in-Ok-clause-ok c =
    subst (λ (vs : List Violation). OnOk c.check_those-checked.result (option_map type_refusal (first_of vs) ≡ None)) (touched_found c.args.types.now c.args.tree.now c.args.writes.now c.in-Ok.touched c.in_order.ensures c.in-Ok.ensures) c.check_those-checked.ensures.ok

pub returns-in-Ok-clause-err : goal.returns-in-Ok-clause-err
returns-in-Ok-clause-err c =
    subst (λ (vs : List Violation). IfErr c.check_those-checked.result (IsTheRefusal (option_map type_refusal (first_of vs)))) (touched_found c.args.types.now c.args.tree.now c.args.writes.now c.in-Ok.touched c.in_order.ensures c.in-Ok.ensures) c.check_those-checked.ensures.err
