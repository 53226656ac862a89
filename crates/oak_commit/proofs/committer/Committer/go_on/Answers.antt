use Rattle.std.proofs.Common.{◌∙◌, ◌+◌, ap, refl}
use Rattle.jr_path.specs.Ids.{names_of}
use Rattle.oak_commit.specs.Committing.{wanting, written_by}
use Rattle.oak_commit.specs.Kept.{shown}
use Rattle.oak_commit.specs.Looking.{looked_before}
use Rattle.oak_commit.specs.Writing.{written_ids}
use Rattle.oak_commit.proofs.Shown.{at_of, settles_err, settles_ok, wanting_shown, written_shown}
use Rattle.oak_commit.proofs.committer.Committer.go_on.Goals as goal

pub returns-clause-ok : goal.returns-clause-ok
returns-clause-ok c =
    let h = c.in-Some.ensures.lookup in
    settles_ok c.look_before-looked.result
    (shown c.self.inside.revision c.self.inside.base c.self.inside.plan (c.self.inside.written + 1) c.self.inside.undone c.self.inside.due.items c.self.inside.looking c.self.inside.outcome c.self.inside.ended)
    c.settle.new.self (written_by c.args.self.now c.args.self.now.writer.left c.args.before)
    (looked_before c.self.inside.base c.self.inside.revision c.self.inside.plan.marks (names_of c.in-Some.id.now) c.args.before)
    c.settle.result c.settle.ensures c.look_before-looked.ensures
    (written_shown c.self.inside.revision c.self.inside.base c.self.inside.plan c.self.inside.written c.self.inside.undone c.self.inside.outcome c.self.inside.ended c.self.inside.due.items c.self.inside.looking
    (looked_before c.self.inside.base c.self.inside.revision c.self.inside.plan.marks (names_of c.in-Some.id.now) c.args.before) c.args.before c.in-Some.id.now
    (ap (λ v. v.looking) c.self.view_is ∙ c.requires.looked) c.self.invariant.0
    (at_of c.ids.result.now (written_ids c.self.inside.plan.marks) c.self.inside.written c.in-Some.id.now c.ids.ensures h.3.0 h.1)
    refl
    ∙ ap (λ v. written_by v v.writer.left c.args.before) c.self.view_is)

pub returns-clause-err : goal.returns-clause-err
returns-clause-err c =
    let h = c.in-Some.ensures.lookup in
    settles_err c.look_before-looked.result
    (shown c.self.inside.revision c.self.inside.base c.self.inside.plan (c.self.inside.written + 1) c.self.inside.undone c.self.inside.due.items c.self.inside.looking c.self.inside.outcome c.self.inside.ended)
    c.settle.new.self (wanting (written_by c.args.self.now c.args.self.now.writer.left c.args.before)) c.settle.result c.settle.ensures
    (wanting_shown c.self.inside.revision c.self.inside.base c.self.inside.plan c.self.inside.written c.self.inside.undone c.self.inside.outcome c.self.inside.ended c.self.inside.due.items c.self.inside.looking
    c.args.before c.in-Some.id.now c.self.invariant.0
    (at_of c.ids.result.now (written_ids c.self.inside.plan.marks) c.self.inside.written c.in-Some.id.now c.ids.ensures h.3.0 h.1)
    ∙ ap (λ v. wanting (written_by v v.writer.left c.args.before)) c.self.view_is)
