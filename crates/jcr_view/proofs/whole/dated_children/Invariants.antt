use Rattle.std.proofs.Common.{◌≡◌, ◌++◌}
use Rattle.jr_tree.specs.Trees.{dated_children_of}
use Rattle.jcr_view.proofs.whole.dated_children.Given as goal

-- what is left completes what was done
abbrev pub invariant-loop-at : goal.invariant-loop-at
invariant-loop-at l =
    l.names ++ dated_children_of l.at-iterator l.path ≡ dated_children_of l.tree l.path
