use Rattle.std.proofs.Common.{◌≡◌, true, subst}
use Rattle.std.specs.FinMap.{is_sorted}
use Rattle.jr_path.specs.Names.{path_cmp}
use Rattle.jr_tree.proofs.Entries.{tested}
use Rattle.jr_overlay.specs.Overlays.{Changed}
use Rattle.jr_overlay.proofs.overlay.Overlay.in_order.Goals as goal

pub returns : goal.returns
returns c = subst (λ (d : Changed). is_sorted path_cmp d ≡ true) c.self.view_is (tested path_cmp _ c.len.ensures.ordered)
