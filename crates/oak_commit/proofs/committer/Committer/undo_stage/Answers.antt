use Rattle.std.proofs.Common.{◌≡◌, subst}
use Rattle.oak_commit.specs.declared.stage.Stage.TheVariants as stage
use Rattle.oak_commit.specs.Stages.{undo_stage}
use Rattle.oak_commit.proofs.Shown.{undo_stage_shown}
use Rattle.oak_commit.proofs.committer.Committer.undo_stage.Goals as goal

pub returns-then-self : goal.returns-then-self
returns-then-self c =
    subst (λ v. stage.Undo ≡ undo_stage v) c.self.view_is
    (undo_stage_shown c.self.inside.revision c.self.inside.base c.self.inside.plan c.self.inside.written c.self.inside.undone c.self.inside.outcome c.self.inside.ended c.self.inside.due.items c.self.inside.looking c.if-self.true c.self.invariant.1)
