use Rattle.std.proofs.Common.{List, subst, sym, ◌∙◌}
use Rattle.jr_rules.specs.Checking.{IsFirstOf}
use Rattle.jr_rules.specs.Violations.{Violation}
use Rattle.jcr_plan.proofs.TouchedPaths.{part_named}
use Rattle.jcr_plan.proofs.typed.check_part.Goals as goal

pub returns-in-Ok-check_among-clause-ok : goal.returns-in-Ok-check_among-clause-ok
returns-in-Ok-check_among-clause-ok c =
    sym (part_named c.args.types.now c.args.tree.now c.args.touched.now c.args.path.now _ _ c.requires.part c.deref.ensures.value c.in-Ok.ensures) ∙ c.in-Ok-check_among.ensures.ok

pub returns-clause-err : goal.returns-clause-err
returns-clause-err c =
    c.refused.ensures _
    (subst (λ (vs : List Violation). IsFirstOf vs c.in-Err-check_among.out) (part_named c.args.types.now c.args.tree.now c.args.touched.now c.args.path.now _ _ c.requires.part c.deref.ensures.value c.in-Ok.ensures) c.in-Err-check_among.ensures.err)
