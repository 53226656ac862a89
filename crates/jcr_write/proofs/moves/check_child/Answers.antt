use Rattle.jr_items.specs.Refusals.{own_item_rule, when}
use Rattle.jr_overlay.specs.Drafts.{in_draft}
use Rattle.jcr_write.specs.Places.{above}
use Rattle.jcr_write.specs.Writes.{is_kept_below}
use Rattle.jcr_write.proofs.Due.{at_path}
use Rattle.jcr_write.proofs.moves.check_child.Goals as goal

pub returns-in-Ok-clause-err : goal.returns-in-Ok-clause-err
returns-in-Ok-clause-err c = at_path c.check_child_of.result
    (λ q. when (is_kept_below c.args.types.now (in_draft c.args.draft.now q) c.args.name.now (in_draft c.args.draft.now c.args.path.now)) (own_item_rule q c.args.name.now))
    c.in-Ok.parent (above c.args.path.now) c.in-Ok.ensures c.check_child_of.ensures.err
