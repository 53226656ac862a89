use Rattle.std.proofs.Common.{◌≡◌, ◌++◌, map}
use Rattle.oak_doc.specs.declared.update.Change.TheVariants as change
use Rattle.oak_prev.specs.Moving.{root_depths}
use Rattle.oak_prev.proofs.moving.put_roots.Given as goal

-- the roots so far, and those that are left
abbrev pub invariant-loop-r : goal.invariant-loop-r
invariant-loop-r l = l.changes ++ map (λ e. change.CommitRoot e.0 e.1) (root_depths l.revisions l.r-iterator) ≡ l.initial.changes ++ map (λ e. change.CommitRoot e.0 e.1) (root_depths l.revisions l.roots)
