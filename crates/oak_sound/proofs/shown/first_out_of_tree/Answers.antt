use Rattle.std.proofs.Common.{sym, ◌∙◌}
use Rattle.oak_sound.specs.Sound.{keeps_tree}
use Rattle.oak_sound.proofs.Breaking.{goes_on}
use Rattle.oak_sound.proofs.shown.first_out_of_tree.Goals as goal

pub loop-at-preserved : goal.loop-at-preserved
loop-at-preserved c =
    goes_on (λ before e. keeps_tree c.args.documents.now c.args.sweep.now c.args.tree.now e.0 e.1) _ _ _ _ _ c.in-Some.ensures.steps (sym c.in_ok-keeps_tree.ensures ∙ c.if-not-branch.false) c.loop-at.invariant
