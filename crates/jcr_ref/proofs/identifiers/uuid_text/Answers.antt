use Rattle.std.proofs.Common.{◌≡◌, ◌∙◌}
use Rattle.std.proofs.lemmas.Result.{IfOk-weaker}
use Rattle.std.specs.String.{string_bytes}
use Rattle.jr_value.specs.Words.{identifier_text}
use Rattle.jcr_ref.proofs.UuidText.{texts_agree}
use Rattle.jcr_ref.proofs.identifiers.uuid_text.Goals as goal

pub returns : goal.returns
returns c = IfOk-weaker c.from_str.result _ _ (λ s e. let text : string_bytes s ≡ identifier_text c.args.number = cc in text ∙ texts_agree c.args.number) c.from_str.ensures.ok
