use Rattle.std.proofs.Common.{◌∙◌}
use Rattle.std.proofs.lemmas.Result.{IfOk-weaker}
use Rattle.jcr_version.proofs.Identifiers.{drawn_text}
use Rattle.jcr_version.proofs.checkin.drawn_text.Goals as goal

pub returns : goal.returns
returns c = IfOk-weaker c.identifier.result _ _ (λ text is. is ∙ drawn_text c.identifiers_are_uuids.ensures.printed c.identifiers_are_uuids.ensures.texts _ c.args.who.now c.session_of.ensures) c.identifier.ensures
