use Rattle.std.proofs.Common.{◌≡◌, [], Ok, ap, subst, ◌∙◌}
use Rattle.std.specs.Prelude.{IfErr, IfOk}
use Rattle.jr_overlay.specs.Overlays.{View, known_view}
use Rattle.jcr_fill.specs.Makings.{making}
use Rattle.jcr_view.specs.Outcomes.{written_outcome}
use Rattle.jcr_view.proofs.whole.make_of.Goals as goal
use Rattle.jcr_write.specs.Places.{IsDueRefusal}

pub returns-in-Ok-clause-ok : goal.returns-in-Ok-clause-ok
returns-in-Ok-clause-ok c =
    subst (λ (v : View). IfOk c.make.result (λ made. written_outcome c.args.types.now c.args.who.now v
    c.args.command.now (making [] c.args.who.now.ids) ≡ Ok (making made.steps made.ids)))
    (ap (known_view c.in-Ok.part) c.new.ensures ∙ c.in-Ok.ensures.seen)
    c.make.ensures.ok

pub returns-in-Ok-clause-err : goal.returns-in-Ok-clause-err
returns-in-Ok-clause-err c =
    subst (λ (v : View). IfErr c.make.result (IsDueRefusal (written_outcome c.args.types.now c.args.who.now v
    c.args.command.now (making [] c.args.who.now.ids))))
    (ap (known_view c.in-Ok.part) c.new.ensures ∙ c.in-Ok.ensures.seen)
    c.make.ensures.err
