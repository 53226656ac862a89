use Rattle.std.proofs.Common.{◌∙◌}
use Rattle.std.proofs.lemmas.Result.{IfOk-weaker}
use Rattle.jcr_view.proofs.Moved.{moved_by}
use Rattle.jcr_view.proofs.whole.move_view.Goals as goal

pub returns : goal.returns
returns c = IfOk-weaker c.view.result _ _
    (λ moved is. moved_by c.args.old.now c.args.new.now c.args.view.now moved c.in_ok-part.part
    c.as_slice.result.now c.in_ok-overlay.overlay c.len.ensures.sorted c.in_ok-part.ensures.nodes
    c.in_ok-part.ensures.seen (c.as_slice.ensures ∙ c.in_ok-edit.ensures) c.in_ok-overlay.ensures is)
    c.view.ensures
