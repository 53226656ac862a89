use Rattle.std.proofs.Common.{sym, ap, ◌∙◌}
use Rattle.std.specs.Borrow.{Bor}
use Rattle.std.specs.Option.{option_map}
use Rattle.serde_json.specs.View.{view}
use Rattle.serde_json.specs.declared.value.Value.{Value}
use Rattle.jr_docs_read.proofs.Items.{no_vector}
use Rattle.jr_docs_read.proofs.fields.read_vector_into.Goals as goal

pub returns-in_default-clause-complete : goal.returns-in_default-clause-complete
returns-in_default-clause-complete c v h is none = none ∙ no_vector v h (sym (ap (option_map (λ (found : Bor Value). view found.now)) c.in_default.is) ∙ is)
