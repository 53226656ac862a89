use Rattle.std.proofs.Common.{◌≡◌}
use Rattle.std.specs.List.{fold}
use Rattle.jcr_view.specs.Whole.{all_known, with_node_known}
use Rattle.jcr_view.proofs.whole.all_known.Given as goal

-- what is left completes what was done
abbrev pub invariant-loop-path : goal.invariant-loop-path
invariant-loop-path l = fold (with_node_known l.tree) l.part l.path-iterator ≡ all_known l.tree
