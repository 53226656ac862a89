use Rattle.std.proofs.Common.{sym, ◌∙◌}
use Rattle.jcr_eval.proofs.Iffs.{both_decided}
use Rattle.jcr_eval.proofs.say.unmoved_says.Goals as goal

pub returns-then-is_unmoved : goal.returns-then-is_unmoved
returns-then-is_unmoved c =
    both_decided _ c.still_says.result
    (rw c.as_slice.ensures at (sym c.is_unmoved.ensures ∙ c.if-is_unmoved.true))
    c.still_says.ensures
