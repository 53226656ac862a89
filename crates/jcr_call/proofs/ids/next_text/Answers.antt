use Rattle.std.proofs.Common.{◌∙◌, ◌+◌}
use Rattle.std.proofs.lemmas.Result.{IfOk-weaker}
use Rattle.jcr_call.proofs.Identifiers.{same_bits}
use Rattle.jcr_call.proofs.ids.next_text.Goals as goal

pub returns : goal.returns
returns c =
    let who = c.args.who.now in
    IfOk-weaker c.identifier.result _ _
    (λ text is. is ∙ same_bits c.identifiers_are_uuids.ensures.printed _ _
    (who.session + who.earlier) (who.ids + 1) c.session_of.ensures c.next_count.ensures)
    c.identifier.ensures
