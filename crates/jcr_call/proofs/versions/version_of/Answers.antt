use Rattle.std.proofs.Common.{subst}
use Rattle.jr_path.specs.Grammar.{IsName, RefusesName}
use Rattle.jr_value.proofs.Texts.{fault_refuses}
use Rattle.jcr_call.proofs.versions.version_of.Goals as goal

pub first_version-requires : goal.first_version-requires
first_version-requires c = record {
  is = c.requires;
  unnamed = λ is. fault_refuses IsName c.args.id.now c.in-Err-BadName.field-0-0
      (subst (RefusesName c.args.id.now) c.in-Err-BadName.field-0-is c.in-Err-BadName.ensures.fault) is;
}
