use Rattle.std.proofs.Common.{◌≡◌, true, subst}
use Rattle.std.specs.FinMap.{is_sorted}
use Rattle.jr_path.specs.Names.{path_cmp}
use Rattle.jr_tree.specs.Trees.{Nodes}
use Rattle.jr_overlay.proofs.Views.{sorted-view}
use Rattle.jr_edited.proofs.edited.Edited.in_order.Goals as goal

pub returns : goal.returns
returns c = subst (λ (t : Nodes). is_sorted path_cmp t ≡ true) c.self.view_is (sorted-view c.self.inside.tree.now c.self.inside.changes c.self.invariant.tree)
