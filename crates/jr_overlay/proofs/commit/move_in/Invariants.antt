use Rattle.std.proofs.Common.{◌≡◌}
use Rattle.std.specs.List.{fold}
use Rattle.jr_overlay.specs.Committing.{with_new_at}
use Rattle.jr_overlay.proofs.commit.move_in.Given as goal

-- what is left completes what was done
abbrev pub invariant-loop-path : goal.invariant-loop-path
invariant-loop-path l = fold with_new_at l.changes l.path-iterator ≡ fold with_new_at l.initial.changes l.fn.steps
