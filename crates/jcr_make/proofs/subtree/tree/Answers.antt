use Rattle.std.proofs.Common.{◌∙◌, ap, sym}
use Rattle.std.proofs.lemmas.Result.{err_from_is_err_and}
use Rattle.jr_overlay.specs.Overlays.{Sighted, sighted}
use Rattle.jcr_fill.specs.Makings.{making}
use Rattle.jcr_make.specs.Subtrees.{with_part}
use Rattle.jcr_fill.proofs.Loops.{own_loop_err, own_loop_next}
use Rattle.jcr_make.proofs.subtree.tree.Goals as goal

pub returns-in_err-add_part-clause-err : goal.returns-in_err-add_part-clause-err
returns-in_err-add_part-clause-err c = let p = err_from_is_err_and c.from_residual.result c.from_residual.ensures.1 in rw (p.1, p.2)
    (own_loop_err (with_part c.args.types.now c.args.who.now (sighted c.args.draft.now.sight) c.args.path.now)
    c.args.nodes.now c.loop-part.part-index c.part-item.result _ (making c.loop-part.draft.steps c.loop-part.ids) _ c.part-item.is c.loop-part-test.true c.loop-part.invariant.left
    (λ m. ap (λ (s : Sighted). with_part c.args.types.now c.args.who.now (sighted s) c.args.path.now c.part-item.result (making c.loop-part.draft.steps c.loop-part.ids))
    (sym c.loop-part.invariant.sight) ∙ c.in_err-add_part.ensures.err m))

pub loop-part-preserved : goal.loop-part-preserved
loop-part-preserved c = record {
  sight = c.in_ok-add_part.ensures.sight ∙ c.loop-part.invariant.sight;
  left = own_loop_next (λ s. with_part c.args.types.now c.args.who.now (sighted s) c.args.path.now) c.args.draft.now.sight c.loop-part.draft.sight
      c.args.nodes.now c.loop-part.part-index c.part-item.result _ _ _ c.loop-part.invariant.sight c.part-item.is c.loop-part-test.true c.loop-part.invariant.left c.in_ok-add_part.ensures.ok;
}
