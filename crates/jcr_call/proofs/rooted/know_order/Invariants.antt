use Rattle.std.proofs.Common.{◌≡◌}
use Rattle.jr_tree.specs.Trees.{has_names_in_order}
use Rattle.jcr_call.proofs.rooted.know_order.Given as goal

-- what is left decides
abbrev pub invariant-loop-node : goal.invariant-loop-node
invariant-loop-node l = has_names_in_order l.node-iterator ≡ has_names_in_order l.tree
