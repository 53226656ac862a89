use Rattle.std.proofs.Common.{◌≡◌}
use Rattle.std.specs.List.{list_all}
use Rattle.jr_tree.specs.Trees.{has_parent}
use Rattle.jcr_call.proofs.rooted.have_parents.Given as goal

-- what is left decides
abbrev pub invariant-loop-path : goal.invariant-loop-path
invariant-loop-path l = list_all (λ e. has_parent l.tree e.0) l.path-iterator
    ≡ list_all (λ e. has_parent l.tree e.0) l.tree
