use Rattle.std.proofs.Common.{sym, ◌∙◌}
use Rattle.oak_sound.proofs.Breaking.{goes_on}
use Rattle.jr_open.specs.Typed.{keeps_types}
use Rattle.jr_open.proofs.types.first_untyped.Goals as goal

pub loop-at-preserved : goal.loop-at-preserved
loop-at-preserved c =
    goes_on (λ before e. keeps_types c.args.types.now c.args.tree.now e.0) _ _ _ _ _ c.in-Some.ensures.steps (sym c.in_ok-keeps_types.ensures ∙ c.if-not-branch.false) c.loop-at.invariant
