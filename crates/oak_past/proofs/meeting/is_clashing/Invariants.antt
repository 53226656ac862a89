use Rattle.std.proofs.Common.{◌≡◌, ◌≤◌, ◌&&◌, drop, length}
use Rattle.std.specs.List.{list_any}
use Rattle.std.specs.Ordering.{eq_by_cmp}
use Rattle.jr_path.specs.Names.{path_cmp}
use Rattle.oak_clash.specs.Clashes.{clash}
use Rattle.oak_past.proofs.meeting.is_clashing.Given as goal

abbrev pub invariant-loop-at : goal.invariant-loop-at
invariant-loop-at l = (l.found ≡ list_any (λ o. eq_by_cmp path_cmp l.ours.path o.path && clash l.ours.mark o.mark) (drop l.at l.others)) × (l.at ≤ length l.others)
