use Rattle.std.proofs.Common.{◌≡◌, ◌∙◌, ap, map}
use Rattle.std.proofs.lemmas.Result.{IfOk-weaker}
use Rattle.oak_clash.specs.declared.mark.MarkAt.{MarkAt}
use Rattle.oak_clash.specs.Clashes.{marks_at}
use Rattle.oak_commit.specs.Places.{items_at, places_of}
use Rattle.oak_commit.proofs.plan.Plan.marks_at.Goals as goal

pub returns : goal.returns
returns c =
    IfOk-weaker c.marks_here.result (λ here. here.items ≡ map (λ m. m.mark) (items_at c.as_slice.result.now (places_of c.self.inside.marked c.args.path.now))) (λ here. here.items ≡ marks_at c.args.path.now c.args.self.now.marks)
    (λ here is.
    is
    ∙ ap (λ ms. map (λ (m : MarkAt). m.mark) (items_at ms (places_of c.self.inside.marked c.args.path.now))) c.as_slice.ensures
    ∙ ap (map (λ (m : MarkAt). m.mark)) (c.self.invariant.finds_marks c.args.path.now)
    ∙ ap (λ v. marks_at c.args.path.now v.marks) c.self.view_is)
    c.marks_here.ensures
