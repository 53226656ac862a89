use Rattle.std.proofs.Common.{◌≤◌, drop, length, map}
use Rattle.std.specs.Map.Iter.{deref_pair}
use Rattle.jr_overlay.proofs.SideBySide.{IsMerge}
use Rattle.jr_overlay.proofs.merge.merged.Given as goal

-- what is left of both completes what was found
abbrev pub invariant-loop-path : goal.invariant-loop-path
invariant-loop-path l = record {
  within : l.from ≤ length l.known;
  merge : IsMerge (map deref_pair l.known) (map deref_pair l.touched) (map deref_pair l.found.items) (map deref_pair (drop l.from l.known)) (map deref_pair (drop l.path-index l.touched));
}
