use Rattle.std.proofs.Common.{◌∙◌, ap}
use Rattle.oak_commit.specs.Committing.{with_undone}
use Rattle.oak_commit.proofs.Shown.{count_shown}
use Rattle.oak_commit.proofs.committer.Committer.count_undone.Goals as goal

pub returns-then-self : goal.returns-then-self
returns-then-self c =
    count_shown c.self.inside.revision c.self.inside.base c.self.inside.plan c.self.inside.written c.self.inside.undone c.self.inside.outcome c.self.inside.ended c.self.inside.due.items c.self.inside.looking c.if-self.true c.self.invariant.1
    ∙ ap with_undone c.self.view_is
