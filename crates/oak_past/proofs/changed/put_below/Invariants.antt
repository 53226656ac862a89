use Rattle.std.proofs.Common.{◌≡◌, ◌&&◌, filter, reverse}
use Rattle.jr_rev.specs.Revisions.{is_before}
use Rattle.jr_rev.specs.Vectors.{sees}
use Rattle.oak_machine.specs.Commits.{applied_all, committed_edits}
use Rattle.oak_past.proofs.changed.put_below.Given as goal

-- what the edits that are left make of the tree so far stays
abbrev pub invariant-loop-r : goal.invariant-loop-r
invariant-loop-r l =
    applied_all l.tree (filter (λ e. sees l.v e.0 && is_before e.0 l.below) l.r-iterator)
    ≡ applied_all l.initial.tree (filter (λ e. sees l.v e.0 && is_before e.0 l.below) (committed_edits (reverse l.events)))
