use Rattle.std.proofs.Common.{drop, map}
use Rattle.std.specs.Map.Iter.{deref_pair}
use Rattle.jr_overlay.proofs.SideBySide.{IsLent}
use Rattle.jr_overlay.proofs.merge.lend_before.Given as goal

abbrev pub invariant-loop-at : goal.invariant-loop-at
invariant-loop-at l = IsLent l.path (map deref_pair l.initial.found.items) (map deref_pair l.known) (map deref_pair l.found.items) (map deref_pair (drop l.at l.known))
