use Rattle.std.proofs.Common.{◌∙◌, ap, sym}
use Rattle.std.proofs.lemmas.Result.{IfErr-weaker}
use Rattle.jr_overlay.specs.Overlays.{sighted}
use Rattle.jcr_make.specs.Commands.{add_made}
use Rattle.jcr_fill.specs.Makings.{making}
use Rattle.jcr_make.specs.Subtrees.{part_added}
use Rattle.jcr_make.proofs.Sets.{part_lower, part_top}
use Rattle.jcr_make.proofs.subtree.add_node.Goals as goal

pub returns-then-is_topmost-clause-err : goal.returns-then-is_topmost-clause-err
returns-then-is_topmost-clause-err c = IfErr-weaker c.add.result _ _ (λ r is m.
    part_top c.args.types.now c.args.who.now (sighted c.args.draft.now.sight) c.args.at.now c.args.part.now (making c.args.draft.now.steps c.args.ids.now) (sym c.is_topmost.ensures ∙ c.if-is_topmost.true)
    ∙ (ap (λ o. add_made c.args.types.now c.args.who.now (sighted c.args.draft.now.sight) c.args.at.now o (making c.args.draft.now.steps c.args.ids.now)) (sym c.named_type.ensures) ∙ is m)) c.add.ensures.err

pub returns-else-is_topmost-clause-err : goal.returns-else-is_topmost-clause-err
returns-else-is_topmost-clause-err c = IfErr-weaker c.add_below.result _ _ (λ r is m.
    part_lower c.args.types.now c.args.who.now (sighted c.args.draft.now.sight) c.args.at.now c.args.part.now (making c.args.draft.now.steps c.args.ids.now) (sym c.is_topmost.ensures ∙ c.if-is_topmost.false)
    ∙ (ap (λ o. part_added c.args.types.now c.args.who.now (sighted c.args.draft.now.sight) c.args.at.now o (making c.args.draft.now.steps c.args.ids.now)) (sym c.named_type-else-is_topmost.ensures) ∙ is m)) c.add_below.ensures.err
