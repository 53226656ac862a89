use Rattle.oak_sound.proofs.Numbering.{numbered_on}
use Rattle.oak_sound.proofs.numbers.first_misnumbered.Goals as goal

pub loop-at-preserved : goal.loop-at-preserved
loop-at-preserved c =
    numbered_on _ _ _ _ _ _ _ _ _ c.in-Some.ensures.steps c.keeps_numbers.ensures c.if-not-keeps_numbers.false c.in_ok-put.ensures.ok c.loop-at.invariant
