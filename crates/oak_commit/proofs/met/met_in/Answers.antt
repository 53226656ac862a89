use Rattle.std.proofs.Common.{ap, ◌∙◌, ◌++◌}
use Rattle.std.specs.Prelude.{option_to_list}
use Rattle.oak_commit.specs.Meeting.{met_of}
use Rattle.oak_commit.proofs.Meeting.{met_step}
use Rattle.oak_commit.proofs.met.met_in.Goals as goal

pub loop-other-preserved : goal.loop-other-preserved
loop-other-preserved c =
    met_step c.args.document.now (met_of c.args.base.now c.args.r c.args.path.now c.args.mine.now c.args.document.now) _ _ c.in-Some.other c.in-Some.field-0-1 _ _ _ c.in-Some.ensures.steps
    (c.in_ok-push_some.ensures ∙ ap (λ m. c.loop-other.dues.items ++ option_to_list m) c.in_ok-due.ensures)
    c.loop-other.invariant
