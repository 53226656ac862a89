use Rattle.std.specs.Option.{option_copied}
use Rattle.jr_overlay.specs.Drafts.{in_draft}
use Rattle.jr_overlay.specs.Overlays.{sighted}
use Rattle.jcr_write.specs.Places.{above}
use Rattle.jcr_write.specs.Writes.{parent_ordered}
use Rattle.jcr_write.proofs.Due.{due_at, due_err_at}
use Rattle.jcr_write.proofs.order.ordered_above.Goals as goal

pub returns-in-Ok-clause-ok : goal.returns-in-Ok-clause-ok
returns-in-Ok-clause-ok c = due_at c.parent_ordered.result
    (λ q. parent_ordered c.args.types.now (sighted c.args.draft.now.sight) q c.args.name.now (option_copied c.args.before) (in_draft c.args.draft.now q))
    c.in-Ok.parent (above c.args.path.now) c.in-Ok.ensures c.parent_ordered.ensures.ok

pub returns-in-Ok-clause-err : goal.returns-in-Ok-clause-err
returns-in-Ok-clause-err c = due_err_at c.parent_ordered.result
    (λ q. parent_ordered c.args.types.now (sighted c.args.draft.now.sight) q c.args.name.now (option_copied c.args.before) (in_draft c.args.draft.now q))
    c.in-Ok.parent (above c.args.path.now) c.in-Ok.ensures c.parent_ordered.ensures.err
