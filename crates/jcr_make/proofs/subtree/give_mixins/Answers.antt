use Rattle.std.proofs.Common.{◌∙◌, ap, sym}
use Rattle.std.proofs.lemmas.Result.{err_from_is_err_and}
use Rattle.jr_overlay.specs.Overlays.{Sighted, sighted}
use Rattle.jcr_mixin.specs.Histories.{mixin_made}
use Rattle.jcr_fill.specs.Makings.{making}
use Rattle.jcr_fill.proofs.Loops.{own_loop_err, own_loop_next}
use Rattle.jcr_make.proofs.subtree.give_mixins.Goals as goal

pub returns-in_err-mixin-clause-err : goal.returns-in_err-mixin-clause-err
returns-in_err-mixin-clause-err c = let p = err_from_is_err_and c.from_residual.result c.from_residual.ensures.1 in rw (p.1, p.2)
    (own_loop_err (mixin_made c.args.types.now c.args.who.now (sighted c.args.draft.now.sight) c.args.at.now)
    c.args.mixins.now c.loop-name.name-index c.name-item.result _ (making c.loop-name.draft.steps c.loop-name.ids) _ c.name-item.is c.loop-name-test.true c.loop-name.invariant.left
    (λ m. ap (λ (s : Sighted). mixin_made c.args.types.now c.args.who.now (sighted s) c.args.at.now c.name-item.result (making c.loop-name.draft.steps c.loop-name.ids))
    (sym c.loop-name.invariant.sight) ∙ c.in_err-mixin.ensures.err m))

pub loop-name-preserved : goal.loop-name-preserved
loop-name-preserved c = record {
  sight = c.in_ok-mixin.ensures.sight ∙ c.loop-name.invariant.sight;
  left = own_loop_next (λ s. mixin_made c.args.types.now c.args.who.now (sighted s) c.args.at.now) c.args.draft.now.sight c.loop-name.draft.sight
      c.args.mixins.now c.loop-name.name-index c.name-item.result _ _ _ c.loop-name.invariant.sight c.name-item.is c.loop-name-test.true c.loop-name.invariant.left c.in_ok-mixin.ensures.ok;
}
