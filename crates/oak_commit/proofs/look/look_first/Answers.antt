use Rattle.std.proofs.Common.{◌≡◌, ◌∙◌, ap, map, subst, List}
use Rattle.std.specs.Prelude.{IfOk}
use Rattle.jr_path.specs.Ids.{names_of}
use Rattle.jr_path.specs.declared.path.DocId.{DocId}
use Rattle.jr_path.specs.declared.path.DocId.TheVariants.{Prev}
use Rattle.oak_commit.specs.Looking.{looked_at}
use Rattle.oak_commit.proofs.look.look_first.Goals as goal

pub returns-in-Ok : goal.returns-in-Ok
returns-in-Ok c =
    subst (λ (ids : List DocId). IfOk c.look_at.result (λ looked. looked ≡ looked_at c.args.base.now c.args.r c.args.plan.now.marks (names_of c.args.id.now) c.args.document ids))
    (c.in-Ok.ensures ∙ ap (map (λ e. Prev e.number (names_of c.args.id.now))) c.as_slice.ensures)
    c.look_at.ensures
