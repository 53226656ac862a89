use Rattle.std.specs.Map.Iter.{deref_pair}
use Rattle.jr_overlay.proofs.Ranges.{sorted_under}
use Rattle.jr_overlay.proofs.SideBySide.{sorted_lent}
use Rattle.jr_overlay.proofs.overlay.Overlay.below.Goals as goal

pub merged-requires-clause-touched : goal.merged-requires-clause-touched
merged-requires-clause-touched c = sorted_lent deref_pair _ _ _ c.deref.ensures.value c.in_ok-under.ensures (sorted_under c.args.self.now c.args.path.now c.in_order.ensures)
