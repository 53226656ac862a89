use Rattle.std.proofs.Common.{subst}
use Rattle.serde_json.specs.Data.{Data}
use Rattle.serde_json.specs.View.{view}
use Rattle.jr_json.specs.Reading.{IsPropertyJson}
use Rattle.jr_json.proofs.ReadBack.{property_back}
use Rattle.jr_json.proofs.Unique.{property_one}
use Rattle.jr_docs_read.proofs.Ranged.{property_readable}
use Rattle.jr_docs_read.proofs.forms.property_of.Goals as goal

pub returns-in-Ok-clause-complete : goal.returns-in-Ok-clause-complete
returns-in-Ok-clause-complete c p fits is = property_one (view c.args.json.now) _ p c.in-Ok.ensures.value (subst (λ (d : Data). IsPropertyJson d p) is (property_back p fits))

pub returns-in-Err-ValueFormat-clause-complete : goal.returns-in-Err-ValueFormat-clause-complete
returns-in-Err-ValueFormat-clause-complete c p fits is =
    let h = rw c.in-Err-ValueFormat.field-0-is at c.in-Err-ValueFormat.ensures.fault in
    absurd (h.0 p (subst (λ (d : Data). IsPropertyJson d p) is (property_back p fits)))

pub returns-in-Ok-clause-in_range : goal.returns-in-Ok-clause-in_range
returns-in-Ok-clause-in_range c = property_readable (view c.args.json.now) _ c.in-Ok.ensures.value c.are_typed.ensures
