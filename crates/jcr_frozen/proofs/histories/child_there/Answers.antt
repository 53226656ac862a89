use Rattle.std.proofs.Common.{subst}
use Rattle.jr_path.specs.Grammar.{IsName, RefusesName}
use Rattle.jr_value.proofs.Texts.{fault_refuses}
use Rattle.jcr_frozen.proofs.histories.child_there.Goals as goal

pub know_absent-requires : goal.know_absent-requires
know_absent-requires c = λ is.
    fault_refuses IsName c.args.name.now c.in-Err-BadName.field-0-0 (subst (RefusesName c.args.name.now) c.in-Err-BadName.field-0-is c.in-Err-BadName.ensures.fault) is
