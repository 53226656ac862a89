use Rattle.std.proofs.Common.{subst, sym, ◌∙◌}
use Rattle.jr_path.specs.Grammar.{IsName, RefusesName}
use Rattle.jr_value.proofs.Texts.{fault_refuses}
use Rattle.jcr_ref.proofs.histories.history_path.Goals as goal

pub returns-in-Err-BadName : goal.returns-in-Err-BadName
returns-in-Err-BadName c = λ is.
    fault_refuses IsName c.as_str.result.now c.in-Err-BadName.field-0-0 (subst (RefusesName c.as_str.result.now) c.in-Err-BadName.field-0-is c.in-Err-BadName.ensures.fault) (subst IsName (sym (c.as_str.ensures.value ∙ c.in_ok-id.ensures)) is)
