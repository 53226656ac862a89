use Rattle.std.proofs.Common.{◌∙◌, ap, sym}
use Rattle.jr_overlay.specs.Overlays.{sighted}
use Rattle.jcr_mixin.specs.Histories.{mixin_made}
use Rattle.jcr_fill.specs.Makings.{making}
use Rattle.jcr_fill.specs.Steps.{each}
use Rattle.jcr_make.proofs.Sets.{sets_err}
use Rattle.jcr_make.proofs.subtree.furnish.Goals as goal

pub returns-in-Ok-clause-err : goal.returns-in-Ok-clause-err
returns-in-Ok-clause-err c = sets_err c.set_props.result
    (each (mixin_made c.args.types.now c.args.who.now (sighted c.args.draft.now.sight) c.args.at.now) c.args.part.now.mixins (making c.args.draft.now.steps c.args.ids.now))
    c.args.types.now c.args.draft.now.sight c.give_mixins.new.draft.sight c.args.at.now c.args.part.now.props c.give_mixins.new.draft.steps c.args.draft.now.steps c.give_mixins.new.ids
    c.in-Ok.ensures.sight
    (ap (λ ns. each (mixin_made c.args.types.now c.args.who.now (sighted c.args.draft.now.sight) c.args.at.now) ns (making c.args.draft.now.steps c.args.ids.now)) (sym c.as_slice.ensures) ∙ c.in-Ok.ensures.ok)
    c.set_props.ensures.err
