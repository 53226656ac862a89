use Rattle.std.proofs.Common.{◌+◌, ◌∙◌}
use Rattle.std.proofs.lemmas.Result.{IfOk-weaker}
use Rattle.jcr_fill.proofs.Identifiers.{same_identifier}
use Rattle.jcr_fill.proofs.fill.next_text.Goals as goal

pub returns : goal.returns
returns c = IfOk-weaker c.identifier.result _ _ (λ text is. is ∙ same_identifier c.identifiers_are_uuids.ensures.printed _ (c.args.who.now.session + c.args.who.now.earlier) _ (c.args.ids + 1) c.session_of.ensures c.count_after.ensures) c.identifier.ensures
