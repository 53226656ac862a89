use Rattle.std.proofs.Common.{◌≡◌, ◌++◌, drop, map}
use Rattle.std.specs.List.{filter_map}
use Rattle.std.specs.String.{string_bytes}
use Rattle.jcr_lock.specs.Locks.{locked_by}
use Rattle.jcr_plan.proofs.changed.covers_locked.Given as goal

-- what is left leads there
abbrev pub invariant-loop-path : goal.invariant-loop-path
invariant-loop-path l =
    l.covers.items ++ filter_map (λ p. locked_by l.tree p (map string_bytes l.tokens)) (drop l.path-index l.paths) ≡ filter_map (λ p. locked_by l.tree p (map string_bytes l.tokens)) l.paths
