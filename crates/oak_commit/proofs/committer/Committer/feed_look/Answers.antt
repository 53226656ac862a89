use Rattle.std.proofs.Common.{◌≡◌, ◌∙◌, ap, subst, sym, Some}
use Rattle.std.specs.Prelude.{OnOk}
use Rattle.jr_path.specs.Ids.{names_of}
use Rattle.oak_doc.specs.declared.asks.Reply.{Reply}
use Rattle.oak_doc.specs.declared.asks.Reply.TheVariants as reply
use Rattle.oak_commit.specs.Committing.{fed_look}
use Rattle.oak_commit.specs.Kept.{shown, with_look}
use Rattle.oak_commit.specs.Looking.{looked_at, with_found}
use Rattle.oak_commit.proofs.Shown.{look_goes, settles_ok}
use Rattle.oak_commit.proofs.committer.Committer.feed_look.Goals as goal

pub returns-in-Found-clause-ok : goal.returns-in-Found-clause-ok
returns-in-Found-clause-ok c =
    let now = shown c.self.inside.revision c.self.inside.base c.self.inside.plan c.self.inside.written c.self.inside.undone c.self.inside.due.items c.self.inside.looking c.self.inside.outcome c.self.inside.ended in
    let look = looked_at c.self.inside.base c.self.inside.revision c.self.inside.plan.marks (names_of c.args.look.first) (with_found c.args.look.document c.in-Found.previous) c.args.look.rest in
    subst (λ (x : Reply). OnOk c.settle.result (c.settle.new.self ≡ fed_look (record c.args.self.now { looking = Some c.args.look }) c.args.look x)) (sym c.in-Found.is)
    (settles_ok c.go_on-looked.result c.args.self.now c.settle.new.self
    (fed_look (record c.args.self.now { looking = Some c.args.look }) c.args.look (reply.Found c.in-Found.previous))
    look c.settle.result c.settle.ensures c.go_on-looked.ensures
    (ap (λ v. with_look v look) (sym c.self.view_is)
    ∙ look_goes now c.args.look c.in-Found.previous (ap (λ v. v.looking) c.self.view_is ∙ c.requires.looked)
    ∙ ap (λ v. fed_look (record v { looking = Some c.args.look }) c.args.look (reply.Found c.in-Found.previous)) c.self.view_is))
