use Rattle.std.proofs.Common.{◌∙◌, ap, map}
use Rattle.std.proofs.lemmas.Result.{IfErr-weaker, on_ok_weaker}
use Rattle.jcr_fill.proofs.Completes.{put_filled_is}
use Rattle.jcr_fill.proofs.completing.put_filled.Goals as goal

pub returns-in-Ok-clause-ok : goal.returns-in-Ok-clause-ok
returns-in-Ok-clause-ok c = on_ok_weaker c.put_filled_by.result
    (λ e. put_filled_is c.args.types.now c.args.who.now c.args.path.now c.args.node _ _ _ (ap (map (λ d. d.now)) c.deref.ensures.value ∙ c.in-Ok.ensures) c.requires ∙ e) c.put_filled_by.ensures.ok

pub returns-in-Ok-clause-err : goal.returns-in-Ok-clause-err
returns-in-Ok-clause-err c = IfErr-weaker c.put_filled_by.result _ _
    (λ r is m. put_filled_is c.args.types.now c.args.who.now c.args.path.now c.args.node _ _ _ (ap (map (λ d. d.now)) c.deref.ensures.value ∙ c.in-Ok.ensures) c.requires ∙ is m) c.put_filled_by.ensures.err
