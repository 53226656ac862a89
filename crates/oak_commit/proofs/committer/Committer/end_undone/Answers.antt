use Rattle.std.proofs.Common.{◌≡◌, arith, subst}
use Rattle.oak_commit.specs.Committing.{ended_by}
use Rattle.oak_commit.proofs.Shown.{ended_not}
use Rattle.oak_commit.proofs.committer.Committer.end_undone.Goals as goal

pub returns-else-self : goal.returns-else-self
returns-else-self c =
    subst (λ v. v ≡ ended_by v v.writer.written) c.self.view_is
    (ended_not c.self.inside.revision c.self.inside.base c.self.inside.plan c.self.inside.written c.self.inside.undone c.self.inside.outcome c.self.inside.ended c.self.inside.due.items c.self.inside.looking (omega (arith, c.if-self.false, c.self.invariant.0)) c.self.invariant.1)
