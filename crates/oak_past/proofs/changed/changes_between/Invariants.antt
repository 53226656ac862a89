use Rattle.std.proofs.Common.{◌≡◌, ◌&&◌, ◌++◌, filter, map, not, reverse}
use Rattle.jr_rev.specs.Vectors.{sees}
use Rattle.oak_machine.specs.Changed.{changes_between, item_changes, tree_below}
use Rattle.oak_past.proofs.changed.changes_between.Given as goal

-- what is left completes the list so far
abbrev pub invariant-loop-r : goal.invariant-loop-r
invariant-loop-r l =
    l.changes.items ++ map (λ e. record { revision = e.0; changes = item_changes (tree_below l.start (reverse l.events) l.to e.0) e.1 }) (filter (λ e. sees l.to e.0 && not (sees l.from e.0)) l.r-iterator)
    ≡ changes_between l.start (reverse l.events) l.from l.to
