use Rattle.std.proofs.Common.{◌≡◌, ◌≤◌, ◌∙◌, ap, length, subst}
use Rattle.std.proofs.lemmas.Result.{IfOk-weaker}
use Rattle.jr_path.specs.Ids.{names_of}
use Rattle.oak_doc.specs.declared.asks.Ask.TheVariants as ask
use Rattle.oak_commit.specs.Committing.{mark_due}
use Rattle.oak_commit.specs.Writing.{write_op, written_ids}
use Rattle.oak_commit.proofs.Shown.{at_of, write_shown}
use Rattle.oak_commit.proofs.committer.Committer.update_due.Goals as goal

pub returns-in-Some-get : goal.returns-in-Some-get
returns-in-Some-get c =
    let h = c.in-Some-get.ensures.lookup in
    IfOk-weaker c.write.result (λ op. op ≡ write_op c.self.inside.revision c.self.inside.plan.edit.writes c.self.inside.plan.marks (names_of c.in-Some-get.id.now)) (λ op. ask.Update op ≡ mark_due c.args.self.now c.args.self.now.writer.due)
    (λ op is.
    ap ask.Update is
    ∙ subst (λ v. ask.Update (write_op c.self.inside.revision c.self.inside.plan.edit.writes c.self.inside.plan.marks (names_of c.in-Some-get.id.now)) ≡ mark_due v v.writer.due) c.self.view_is
    (write_shown c.self.inside.revision c.self.inside.base c.self.inside.plan c.self.inside.written c.self.inside.undone c.self.inside.outcome c.self.inside.ended c.self.inside.due.items c.self.inside.looking c.in-Some-get.id.now
    (subst (λ xs. length xs ≤ 0) c.deref.ensures.value c.in_default.ensures.item.3)
    (at_of c.ids.result.now (written_ids c.self.inside.plan.marks) c.self.inside.written c.in-Some-get.id.now c.ids.ensures h.3.0 h.1)))
    c.write.ensures
