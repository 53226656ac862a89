use Rattle.std.proofs.Common.{◌∙◌}
use Rattle.std.proofs.lemmas.Result.{IfErr-weaker, on_ok_weaker}
use Rattle.jcr_make.proofs.Sets.{furnished_after}
use Rattle.jcr_make.proofs.subtree.add_part_at.Goals as goal

pub returns-in-Ok-clause-ok : goal.returns-in-Ok-clause-ok
returns-in-Ok-clause-ok c = on_ok_weaker c.furnish.result (λ e.
    furnished_after c.args.types.now c.args.who.now c.args.draft.now.sight _ c.args.at.now c.args.part.now _ _ c.in-Ok.ensures.sight c.in-Ok.ensures.ok ∙ e) c.furnish.ensures.ok

pub returns-in-Ok-clause-err : goal.returns-in-Ok-clause-err
returns-in-Ok-clause-err c = IfErr-weaker c.furnish.result _ _ (λ r is m.
    furnished_after c.args.types.now c.args.who.now c.args.draft.now.sight _ c.args.at.now c.args.part.now _ _ c.in-Ok.ensures.sight c.in-Ok.ensures.ok ∙ is m) c.furnish.ensures.err
