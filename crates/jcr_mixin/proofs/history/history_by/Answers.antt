use Rattle.std.proofs.Common.{◌∷◌, [], ◌++◌, ◌∙◌, Some, None, ap, cond, subst, sym}
use Rattle.std.proofs.lemmas.Result.{IfOk-weaker}
use Rattle.jr_path.specs.Grammar.{RefusesName}
use Rattle.jr_items.specs.Names.{version_storage}
use Rattle.jcr_mixin.proofs.Names.{fault_named}
use Rattle.jr_path.proofs.Named.{name_passes}
use Rattle.jcr_mixin.proofs.history.history_by.Goals as goal

pub returns-in-Ok : goal.returns-in-Ok
returns-in-Ok c = IfOk-weaker c.history_named.result _ _ (λ found is.
    is ∙ (ap (λ n. Some (version_storage ++ n ∷ [])) c.in-Ok.ensures.bytes
    ∙ sym (ap (λ b. cond b (Some (version_storage ++ c.args.id.now ∷ [])) None) (name_passes c.args.id.now c.in-Ok.ensures.grammar)))) c.history_named.ensures

pub returns-in-Err-BadName : goal.returns-in-Err-BadName
returns-in-Err-BadName c = sym (ap (λ b. cond b (Some (version_storage ++ c.args.id.now ∷ [])) None)
    (fault_named c.args.id.now c.in-Err-BadName.field-0-0 (subst (RefusesName c.args.id.now) c.in-Err-BadName.field-0-is c.in-Err-BadName.ensures.fault)))
