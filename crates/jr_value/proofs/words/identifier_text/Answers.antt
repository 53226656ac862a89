use Rattle.std.proofs.lemmas.Result.{IfOk-weaker}
use Rattle.jr_value.proofs.words.identifier_text.Goals as goal

pub returns : goal.returns
returns c = IfOk-weaker c.from_str.result _ _ (λ s e. cc) c.from_str.ensures.ok
