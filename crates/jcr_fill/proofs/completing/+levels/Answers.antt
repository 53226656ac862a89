use Rattle.std.proofs.Common.{◌∙◌, ap, map, sym}
use Rattle.std.proofs.lemmas.Result.{err_from_is_err_and}
use Rattle.jr_overlay.specs.Overlays.{Sighted, sighted}
use Rattle.jcr_fill.specs.Makings.{completed, making, with_own_child}
use Rattle.jcr_fill.proofs.Completes.{children_err}
use Rattle.jcr_fill.proofs.Loops.{loop_err}
use Rattle.jcr_fill.proofs.completing.+levels.Goals as goal

pub complete_by-returns-in-Ok-clause-err : goal.complete_by-returns-in-Ok-clause-err
complete_by-returns-in-Ok-clause-err t c = children_err c.make_children.result c.args.levels c.args.types.now (map (λ d. d.now) c.args.of.now) c.args.who.now c.args.draft.now.sight _
    c.args.path.now c.args.node (making c.args.draft.now.steps c.args.ids.now) _ c.requires.of c.in-Ok.ensures.sight c.in-Ok.ensures.ok c.make_children.ensures.err

pub make_each-returns-in_err-make_by-clause-err : goal.make_each-returns-in_err-make_by-clause-err
make_each-returns-in_err-make_by-clause-err t c = let p = err_from_is_err_and c.from_residual.result c.from_residual.ensures.1 in rw (p.1, p.2)
    (loop_err (λ d. d.now) (with_own_child (completed c.args.levels c.args.types.now c.args.who.now (sighted c.args.draft.now.sight)) c.args.types.now (sighted c.args.draft.now.sight) c.args.path.now)
    c.args.defs.now c.loop-def.def-index c.def-item.result _ (making c.loop-def.draft.steps c.loop-def.ids) _ c.def-item.is c.loop-def-test.true c.loop-def.invariant.left
    (λ m. ap (λ (s : Sighted). with_own_child (completed c.args.levels c.args.types.now c.args.who.now (sighted s)) c.args.types.now (sighted s) c.args.path.now c.def-item.result.now (making c.loop-def.draft.steps c.loop-def.ids))
    (sym c.loop-def.invariant.sight) ∙ c.in_err-make_by.ensures.err m))
