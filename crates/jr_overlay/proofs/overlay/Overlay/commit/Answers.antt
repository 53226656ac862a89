use Rattle.jr_path.specs.Names.{path_cmp}
use Rattle.jr_tree.proofs.Entries.{tested}
use Rattle.jr_overlay.proofs.Places.{steps_count}
use Rattle.jr_overlay.proofs.overlay.Overlay.commit.Goals as goal

pub returns-clause-ok : goal.returns-clause-ok
returns-clause-ok c = steps_count _ _ _ _ _ _ c.in_order.ensures (tested path_cmp _ c.len.ensures.ordered) c.self.view_is c.in_ok-make_places.ensures.ok c.move_in.ensures
