use Rattle.std.proofs.Common.{◌≡◌, ◌∙◌, ap, inl, inr, map, sym}
use Rattle.std.proofs.lemmas.Result.{IfOk-weaker}
use Rattle.std.specs.Option.{option_copied}
use Rattle.jr_path.specs.Ids.{names_of}
use Rattle.oak_clash.specs.Clashes.{marks_at}
use Rattle.oak_commit.specs.Clashing.{found}
use Rattle.oak_commit.specs.Meeting.{due_in, dues_in, met_in}
use Rattle.oak_commit.proofs.Meeting.{found_is}
use Rattle.oak_commit.proofs.plan.Plan.found.Goals as goal

pub returns-in-Settings : goal.returns-in-Settings
returns-in-Settings c =
    IfOk-weaker c.found_at.result
    (λ dues. dues.items ≡ map (due_in c.in-Some.document.now) (met_in c.args.base.now c.args.r c.root.result (marks_at c.root.result c.args.self.now.marks) c.in-Some.document.now))
    (λ dues. dues.items ≡ dues_in (option_copied c.args.before) (found c.args.base.now c.args.r (names_of c.args.id.now) c.args.self.now.marks (option_copied c.args.before)))
    (λ dues is. is ∙ found_is c.args.base.now c.args.r c.args.self.now.marks c.args.id.now c.root.result c.args.before c.in-Some.document c.in-Some.is (ap names_of c.in-Settings.is ∙ sym c.root.ensures))
    c.found_at.ensures

pub returns-in-Node : goal.returns-in-Node
returns-in-Node c =
    IfOk-weaker c.found_at-in-Node.result
    (λ dues. dues.items ≡ map (due_in c.in-Some.document.now) (met_in c.args.base.now c.args.r c.in-Node.path (marks_at c.in-Node.path c.args.self.now.marks) c.in-Some.document.now))
    (λ dues. dues.items ≡ dues_in (option_copied c.args.before) (found c.args.base.now c.args.r (names_of c.args.id.now) c.args.self.now.marks (option_copied c.args.before)))
    (λ dues is. is ∙ found_is c.args.base.now c.args.r c.args.self.now.marks c.args.id.now c.in-Node.path c.args.before c.in-Some.document c.in-Some.is (elim c.in-Node.is [ inl e ↦ ap names_of e | inr w ↦ ap names_of w.1 ]))
    c.found_at-in-Node.ensures
