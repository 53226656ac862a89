use Rattle.std.proofs.Common.{◌∙◌}
use Rattle.jcr_view.proofs.Fresh.{fresh_steps}
use Rattle.jcr_view.proofs.rebase.steps_again.Goals as goal

pub returns : goal.returns
returns c = fresh_steps c.new-draft.result c.new.result c.args.part.now c.args.writes.now _ c.new-draft.ensures.sight
    c.new-draft.ensures.steps c.new.ensures.known (c.new.ensures.changed ∙ c.new-overlay.ensures)
    (c.into_steps.ensures ∙ c.in_ok-make_again.ensures.steps)
