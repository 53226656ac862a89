use Rattle.std.specs.Prelude.{nat_le}
use Rattle.oak_open.proofs.Left.{drawn_step, first_of_all, opened_step}
use Rattle.oak_open.proofs.documents.opened_documents.Goals as goal

pub loop-document-preserved : goal.loop-document-preserved
loop-document-preserved c = (
  opened_step _ _ _ _ _ _ _ _ _ _ _ _ _ _ _ _ c.in-Some.ensures.steps c.in_ok-is_changed.ensures c.number_after-last.ensures
      c.number_of-mod_count.ensures c.in_ok-opened_document.ensures c.in_ok-push.ensures.items c.loop-document.invariant.0,
  (first_of_all (λ e. nat_le e.1.sessions 16777152) _ _ _ c.in-Some.ensures.steps c.loop-document.invariant.1).1,
  drawn_step _ _ _ _ _ _ _ c.number_after-last.ensures c.in_ok-push.ensures.items c.loop-document.invariant.2,
)
