use Rattle.std.proofs.Common.{◌∙◌}
use Rattle.std.proofs.lemmas.Result.{IfErr-weaker, on_ok_weaker}
use Rattle.jcr_fill.proofs.Fills.{made_by}
use Rattle.jcr_fill.proofs.fill.fill_by.Goals as goal

pub returns-in-Some-clause-ok : goal.returns-in-Some-clause-ok
returns-in-Some-clause-ok c = on_ok_weaker c.fill_named.result (λ e. made_by c.args.who.now c.args.def.now c.in-Some.name.now c.args.filling.now c.in-Some.ensures ∙ e) c.fill_named.ensures.ok

pub returns-in-Some-clause-err : goal.returns-in-Some-clause-err
returns-in-Some-clause-err c = IfErr-weaker c.fill_named.result _ _ (λ r is m. made_by c.args.who.now c.args.def.now c.in-Some.name.now c.args.filling.now c.in-Some.ensures ∙ is m) c.fill_named.ensures.err
