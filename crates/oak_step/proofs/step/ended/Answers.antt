use Rattle.std.proofs.Common.{ap, ◌∙◌}
use Rattle.oak_commit.specs.Committing.{due_of}
use Rattle.oak_saves.proofs.Replies.{end_done, fed_end, fed_finished}
use Rattle.oak_step.proofs.step.ended.Goals as goal

pub end-requires : goal.end-requires
end-requires c = ap due_of (fed_finished c.feed.result c.args.committer c.feed.new.self c.feed.ensures.ok c.feed.ensures.only ∙ fed_end c.args.committer c.requires.finish) ∙ end_done c.args.committer c.requires.finish
