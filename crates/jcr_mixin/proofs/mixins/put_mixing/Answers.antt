use Rattle.std.proofs.Common.{◌∙◌}
use Rattle.std.proofs.lemmas.Result.{IfErr-weaker, on_ok_weaker}
use Rattle.jcr_mixin.proofs.Begun.{begun_after}
use Rattle.jcr_mixin.proofs.mixins.put_mixing.Goals as goal

pub returns-in-Ok-clause-ok : goal.returns-in-Ok-clause-ok
returns-in-Ok-clause-ok c = on_ok_weaker c.begin_by.result (λ e.
    begun_after c.args.name.now c.args.who.now c.args.draft.now.sight _ c.args.path.now _ _ c.in-Ok.ensures.sight c.in-Ok.ensures.ok ∙ e) c.begin_by.ensures.ok

pub returns-in-Ok-clause-err : goal.returns-in-Ok-clause-err
returns-in-Ok-clause-err c = IfErr-weaker c.begin_by.result _ _ (λ r is m.
    begun_after c.args.name.now c.args.who.now c.args.draft.now.sight _ c.args.path.now _ _ c.in-Ok.ensures.sight c.in-Ok.ensures.ok ∙ is m) c.begin_by.ensures.err
