use Rattle.std.proofs.Common.{◌∙◌, ap}
use Rattle.std.proofs.lemmas.Result.{IfErr-weaker}
use Rattle.std.specs.Option.{option_copied}
use Rattle.jr_overlay.specs.Drafts.{drafted}
use Rattle.jr_overlay.specs.Overlays.{sighted}
use Rattle.jcr_write.specs.Places.{above}
use Rattle.jcr_make.specs.Commands.{chosen_below}
use Rattle.jcr_fill.proofs.Due.{of_node_is}
use Rattle.jcr_make.proofs.adding.chosen_under.Goals as goal

pub returns-in-Some-clause-err : goal.returns-in-Some-clause-err
returns-in-Some-clause-err c = IfErr-weaker c.chosen_below.result _ _ (λ r is m.
    of_node_is (above c.args.path.now) (drafted (sighted c.args.draft.now.sight) c.args.draft.now.steps (above c.args.path.now)) c.in-Some.parent.now
    (chosen_below c.args.types.now (sighted c.args.draft.now.sight) c.args.draft.now.steps c.args.path.now (option_copied c.args.node_type))
    (c.in-Some.ensures ∙ ap (drafted (sighted c.args.draft.now.sight) c.args.draft.now.steps) c.requires) ∙ is m) c.chosen_below.ensures.err
