use Rattle.std.proofs.Common.{sym, ◌∙◌}
use Rattle.oak_sound.specs.Sound.{keeps_revisions}
use Rattle.oak_sound.proofs.Breaking.{goes_on}
use Rattle.oak_sound.proofs.revisions.first_with_others.Goals as goal

pub loop-at-preserved : goal.loop-at-preserved
loop-at-preserved c =
    goes_on (λ before e. keeps_revisions c.args.clusters e.1) _ _ _ _ _ c.in-Some.ensures.steps (sym c.keeps_revisions.ensures ∙ c.if-not-keeps_revisions.false) c.loop-at.invariant
