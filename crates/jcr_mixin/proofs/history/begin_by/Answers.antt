use Rattle.std.proofs.Common.{◌∙◌, arith}
use Rattle.std.proofs.lemmas.Result.{IfErr-weaker, on_ok_weaker}
use Rattle.jr_overlay.specs.Overlays.{sighted}
use Rattle.jcr_fill.specs.Makings.{making}
use Rattle.jcr_mixin.proofs.Begun.{begun_is}
use Rattle.jcr_mixin.proofs.history.begin_by.Goals as goal

pub returns-in-Ok-clause-ok : goal.returns-in-Ok-clause-ok
returns-in-Ok-clause-ok c = on_ok_weaker c.begin_among.result (λ e.
    begun_is c.args.name.now c.args.who.now (sighted c.args.draft.now.sight) c.args.path.now (making c.args.draft.now.steps c.args.ids.now) c.in-Ok.nodes
    (grind (arith, c.is.ensures, c.if-not-is.false)) c.in-Ok.ensures ∙ e) c.begin_among.ensures.ok

pub returns-in-Ok-clause-err : goal.returns-in-Ok-clause-err
returns-in-Ok-clause-err c = IfErr-weaker c.begin_among.result _ _ (λ r is m.
    begun_is c.args.name.now c.args.who.now (sighted c.args.draft.now.sight) c.args.path.now (making c.args.draft.now.steps c.args.ids.now) c.in-Ok.nodes
    (grind (arith, c.is.ensures, c.if-not-is.false)) c.in-Ok.ensures ∙ is m) c.begin_among.ensures.err
