use Rattle.std.proofs.Common.{cond, Some, [], ◌∷◌, ◌++◌, ap, sym, ◌∙◌}
use Rattle.std.specs.Option.{option_to_list}
use Rattle.jr_rev.specs.Vectors.{sees}
use Rattle.oak_read.specs.Meaning.{latest}
use Rattle.oak_read.proofs.Entries.{latest_step}
use Rattle.oak_gc.proofs.garbage.is_absent.Goals as goal

pub loop-r-preserved-then-sees : goal.loop-r-preserved-then-sees
loop-r-preserved-then-sees c =
    latest_step (λ e. sees c.args.bound.now.base e.0) c.loop-r.latest (Some c.later_entry.result) (c.in-Some.r.now, c.in-Some.gone.now) _ _ _ c.in-Some.ensures.steps
    (c.later_entry.ensures ∙ ap (λ b. latest (option_to_list c.loop-r.latest ++ cond b ((c.in-Some.r.now, c.in-Some.gone.now) ∷ []) [])) (sym c.if-sees.true ∙ c.sees.ensures))
    c.loop-r.invariant
