use Rattle.std.proofs.Common.{◌≡◌, subst}
use Rattle.oak_doc.specs.declared.asks.Ask.TheVariants as ask
use Rattle.oak_commit.specs.Committing.{undo_due}
use Rattle.oak_commit.proofs.Shown.{undo_shown}
use Rattle.oak_commit.proofs.committer.Committer.undo_due.Goals as goal

pub returns-then-self : goal.returns-then-self
returns-then-self c =
    subst (λ v. ask.Undo c.self.inside.revision ≡ undo_due v v.writer.written) c.self.view_is
    (undo_shown c.self.inside.revision c.self.inside.base c.self.inside.plan c.self.inside.written c.self.inside.undone c.self.inside.outcome c.self.inside.ended c.self.inside.due.items c.self.inside.looking c.if-self.true c.self.invariant.1)
