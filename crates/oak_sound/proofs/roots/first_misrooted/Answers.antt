use Rattle.std.proofs.Common.{sym, ◌∙◌}
use Rattle.oak_sound.specs.Sound.{keeps_roots}
use Rattle.oak_sound.proofs.Breaking.{goes_on}
use Rattle.oak_sound.proofs.roots.first_misrooted.Goals as goal

pub loop-at-preserved : goal.loop-at-preserved
loop-at-preserved c =
    goes_on (λ before e. keeps_roots c.args.documents.now c.args.sweep.now e.0 e.1) _ _ _ _ _ c.in-Some.ensures.steps (sym c.in_ok-keeps_roots.ensures ∙ c.if-not-branch.false) c.loop-at.invariant
