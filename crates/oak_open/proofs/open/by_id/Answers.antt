use Rattle.std.proofs.Common.{refl, ap}
use Rattle.jr_path.specs.Ids.{id_cmp}
use Rattle.jr_path.proofs.Entries.{copied_step}
use Rattle.jr_path.proofs.Orders.{id_total}
use Rattle.oak_store.specs.Tables.{by_id}
use Rattle.oak_open.proofs.Numbered.{sorted_by_id}
use Rattle.oak_open.proofs.open.by_id.Goals as goal

pub loop-document-preserved : goal.loop-document-preserved
loop-document-preserved c =
    copied_step id_cmp id_total _ _ _ _ _ _ _ _ _ c.in_ok-put.ensures.ok c.in_ok-copy.ensures refl
    (ap by_id c.in-Some.ensures.steps.0) c.loop-document.invariant (sorted_by_id _ c.requires)
