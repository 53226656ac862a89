use Rattle.std.proofs.Common.{◌≡◌, ◌∙◌, ◌<◌, ap, get_or, subst, sym, true}
use Rattle.oak_commit.specs.Committing.{asks_undo, due_of, undo_id}
use Rattle.oak_commit.proofs.Shown.{lent, undoing_within}
use Rattle.oak_commit.proofs.committer.Committer.undo_id.Goals as goal

pub returns : goal.returns
returns c =
    let low : c.self.inside.undone < c.self.inside.written =
    undoing_within c.self.inside.revision c.self.inside.base c.self.inside.plan c.self.inside.written c.self.inside.undone c.self.inside.outcome c.self.inside.ended c.self.inside.due.items c.self.inside.looking
    (subst (λ v. asks_undo (due_of v) ≡ true) (sym c.self.view_is) c.requires) in
    ap undo_id (sym c.self.view_is)
    ∙ lent c.self.inside.plan.marks c.self.inside.written c.self.inside.undone c.index-ids-self.result low c.self.invariant.1
    (c.index-ids-self.is ∙ ap (λ ids. get_or ids c.self.inside.undone c.index-ids-self.result) c.ids.ensures)
