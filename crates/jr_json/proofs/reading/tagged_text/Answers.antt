use Rattle.std.proofs.lemmas.Result.{IfOk-weaker}
use Rattle.jr_json.proofs.Lists.{tagged_found}
use Rattle.jr_json.proofs.reading.tagged_text.Goals as goal

pub returns-in_default : goal.returns-in_default
returns-in_default c =
    IfOk-weaker c.from_text.result _ _ (λ o h. tagged_found c.args.kind c.args.text.now o c.in_default.not-Str c.in_default.not-Long c.in_default.not-Date c.in_default.not-Boolean h) c.from_text.ensures
