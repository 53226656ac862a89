use Rattle.std.proofs.Common.{◌∙◌, ap, sym}
use Rattle.std.proofs.lemmas.Result.{err_from_is_err_and}
use Rattle.jr_overlay.specs.Overlays.{Sighted, sighted}
use Rattle.jcr_make.specs.Subtrees.{with_set}
use Rattle.jcr_fill.proofs.Loops.{left_err}
use Rattle.jcr_make.proofs.subtree.set_props.Goals as goal

pub returns-in_err-set_copy-clause-err : goal.returns-in_err-set_copy-clause-err
returns-in_err-set_copy-clause-err c = let p = err_from_is_err_and c.from_residual.result c.from_residual.ensures.1 in rw (p.1, p.2)
    (left_err (with_set c.args.types.now (sighted c.args.draft.now.sight) c.args.at.now) _ _ (c.in-Some.name.now, c.in-Some.property.now) _ c.loop-name.draft.steps _
    c.in-Some.ensures.steps c.loop-name.invariant.left
    (λ m. ap (λ (s : Sighted). with_set c.args.types.now (sighted s) c.args.at.now (c.in-Some.name.now, c.in-Some.property.now) c.loop-name.draft.steps)
    (sym c.loop-name.invariant.sight) ∙ c.in_err-set_copy.ensures.err m))
