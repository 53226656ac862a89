use Rattle.std.proofs.Common.{◌≡◌, List, [], subst, sym}
use Rattle.std.specs.Prelude.{OnOk, IfErr, option_map}
use Rattle.jr_items.specs.Items.{first_of}
use Rattle.jr_items.specs.Refusals.{IsTheRefusal}
use Rattle.jr_rules.specs.Violations.{Violation}
use Rattle.jcr_plan.specs.Refusals.{type_refusal}
use Rattle.jcr_plan.proofs.TouchedPaths.{renewed_asked}
use Rattle.jcr_plan.proofs.typed.check_one.Goals as goal

pub returns-then-has-clause-ok : goal.returns-then-has-clause-ok
returns-then-has-clause-ok c =
    subst (λ (vs : List Violation). OnOk c.check_node.result (vs ≡ [])) (renewed_asked c.args.types.now c.args.tree.now c.args.touched.now c.args.path.now (sym c.if-has.ensures)) c.check_node.ensures.ok

pub returns-then-has-clause-err : goal.returns-then-has-clause-err
returns-then-has-clause-err c =
    subst (λ (vs : List Violation). IfErr c.check_node.result (IsTheRefusal (option_map type_refusal (first_of vs)))) (renewed_asked c.args.types.now c.args.tree.now c.args.touched.now c.args.path.now (sym c.if-has.ensures)) c.check_node.ensures.err
