use Rattle.std.proofs.Common.{◌≡◌}
use Rattle.jr_tree.specs.Merging.{with_tree_part}
use Rattle.jr_tree.proofs.apply.move_in.Given as goal

-- what is left completes what was done
abbrev pub invariant-loop-path : goal.invariant-loop-path
invariant-loop-path l = with_tree_part l.nodes l.path-iterator ≡ with_tree_part l.initial.nodes l.fn.part
