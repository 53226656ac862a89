use Rattle.jcr_call.proofs.Replying.{token_told}
use Rattle.jcr_call.proofs.coming.locked.Goals as goal

pub returns : goal.returns
returns c = λ on o. token_told on c.args.footing.now.who.now c.in_ok-token.token c.as_str.result.now c.args.footing.now.tokens.now
    c.in_ok-tokens.tokens c.in_ok-text_reply.field-0 o.who o.tokens c.in_ok-token.ensures c.as_str.ensures
    c.in_ok-text_reply.ensures c.in_ok-tokens.ensures
