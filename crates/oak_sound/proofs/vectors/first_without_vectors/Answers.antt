use Rattle.std.proofs.Common.{sym, ◌∙◌}
use Rattle.oak_sound.specs.Sound.{keeps_vectors}
use Rattle.oak_sound.proofs.Breaking.{goes_on}
use Rattle.oak_sound.proofs.vectors.first_without_vectors.Goals as goal

pub loop-at-preserved : goal.loop-at-preserved
loop-at-preserved c =
    goes_on (λ before e. keeps_vectors c.args.clusters e.0 e.1) _ _ _ _ _ c.in-Some.ensures.steps (sym c.keeps_vectors.ensures ∙ c.if-not-keeps_vectors.false) c.loop-at.invariant
