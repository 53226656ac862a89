use Rattle.std.proofs.Common.{◌≡◌, ap, ◌∙◌}
use Rattle.jr_value.specs.Words.{identifier_text}
use Rattle.jr_value.specs.Values.{same_bytes}
use Rattle.jcr_ref.proofs.UuidText.{texts_agree}
use Rattle.jcr_ref.proofs.identifiers.is_uuid_text.Goals as goal

pub returns : goal.returns
returns c =
    let text : c.encode_lower-text.result.now ≡ identifier_text c.args.number = cc in
    c.is_same_text.ensures ∙ ap (λ t. same_bytes t c.args.id.now) (text ∙ texts_agree c.args.number)
