use Rattle.std.proofs.Common.{ap, ◌∙◌}
use Rattle.std.proofs.lemmas.Result.{IfOk-weaker}
use Rattle.jcr_ref.specs.References.{uuid_text}
use Rattle.jcr_ref.proofs.UuidText.{own_text}
use Rattle.jcr_ref.proofs.identifiers.identifier.Goals as goal

pub returns : goal.returns
returns c = IfOk-weaker c.uuid_text.result _ _ (λ s e. e ∙ (ap uuid_text c.identifier_number.ensures ∙ own_text c.args.session c.args.count)) c.uuid_text.ensures
