use Rattle.std.proofs.Common.{◌∙◌}
use Rattle.std.specs.Prelude.{Ok}
use Rattle.std.proofs.lemmas.Result.{IfErr-weaker, IfOk-weaker}
use Rattle.jr_overlay.specs.Overlays.{sighted}
use Rattle.jcr_write.specs.Places.{unless_refused}
use Rattle.jcr_mixin.specs.Histories.{mixin_refusal, mixing}
use Rattle.jcr_write.proofs.Due.{at_place_is, place_err}
use Rattle.jcr_mixin.proofs.mixins.place_mixing.Goals as goal

pub returns-in-Ok-clause-err : goal.returns-in-Ok-clause-err
returns-in-Ok-clause-err c = IfErr-weaker c.mixing_by.result _ _ (λ r is m.
    at_place_is (sighted c.args.draft.now.sight) c.args.draft.now.steps c.args.path.now c.in-Ok.node.now
    (λ node. unless_refused (mixin_refusal c.args.types.now c.args.path.now node c.args.name.now) (Ok (mixing node c.args.name.now)))
    c.in-Ok.ensures.ok ∙ is m) c.mixing_by.ensures.err

pub returns-in-Err-clause-err : goal.returns-in-Err-clause-err
returns-in-Err-clause-err c = place_err (sighted c.args.draft.now.sight) c.args.draft.now.steps c.args.path.now c.in-Err.refusal
    (λ node. unless_refused (mixin_refusal c.args.types.now c.args.path.now node c.args.name.now) (Ok (mixing node c.args.name.now)))
    c.in-Err.ensures.err

pub returns-in-Ok-clause-ok : goal.returns-in-Ok-clause-ok
returns-in-Ok-clause-ok c = IfOk-weaker c.mixing_by.result _ _ (λ found is.
    at_place_is (sighted c.args.draft.now.sight) c.args.draft.now.steps c.args.path.now c.in-Ok.node.now
    (λ node. unless_refused (mixin_refusal c.args.types.now c.args.path.now node c.args.name.now) (Ok (mixing node c.args.name.now)))
    c.in-Ok.ensures.ok ∙ is) c.mixing_by.ensures.ok
