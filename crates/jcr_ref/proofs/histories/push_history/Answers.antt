use Rattle.std.proofs.Common.{ap}
use Rattle.jr_items.specs.Names.{version_type, labels_type}
use Rattle.jcr_ref.specs.Histories.{identified_writes, typed_writes}
use Rattle.jcr_ref.proofs.Pushed.{three}
use Rattle.jcr_ref.proofs.histories.push_history.Goals as goal

pub returns : goal.returns
returns c =
    three _ _ _ _ _ _ _ _ _ c.in_ok-push_identified.ensures c.in_ok-push_identified-2.ensures (ap (λ q. identified_writes q version_type c.args.of_root) c.in_ok-root.ensures) c.in_ok-push_typed.ensures
    (ap (λ q. typed_writes q labels_type) c.in_ok-labels.ensures)
