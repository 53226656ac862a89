use Rattle.std.proofs.Common.{◌≡◌}
use Rattle.jr_items.specs.Items.{child_path}
use Rattle.jr_tree.specs.Trees.{node_at}
use Rattle.jcr_frozen.proofs.histories.know_absent.Given as goal

-- what is left decides
abbrev pub invariant-loop-at : goal.invariant-loop-at
invariant-loop-at l = node_at l.at-iterator (child_path l.path l.name) ≡ node_at l.tree (child_path l.path l.name)
