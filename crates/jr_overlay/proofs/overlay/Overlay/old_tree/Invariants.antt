use Rattle.std.proofs.Common.{◌≡◌, ◌++◌}
use Rattle.jr_overlay.proofs.Copies.{kept}
use Rattle.jr_overlay.proofs.overlay.Overlay.old_tree.Given as goal

-- what is left completes what was done
abbrev pub invariant-loop-path : goal.invariant-loop-path
invariant-loop-path l = l.tree ++ kept (λ x. x.old) l.path-iterator ≡ kept (λ x. x.old) l.self
