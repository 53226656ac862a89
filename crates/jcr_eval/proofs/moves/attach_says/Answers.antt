use Rattle.std.proofs.Common.{sym, ◌∙◌}
use Rattle.jcr_eval.proofs.Iffs.{both_decided}
use Rattle.jcr_eval.proofs.moves.attach_says.Goals as goal

pub returns-then-has_attached : goal.returns-then-has_attached
returns-then-has_attached c =
    both_decided _ c.vector_says.result
    (rw c.as_slice-events.ensures at (sym c.has_attached.ensures ∙ c.if-has_attached.true))
    (rw (c.base_of.ensures, c.as_slice-events.ensures) at c.vector_says.ensures)
