use Rattle.std.proofs.Common.{◌≡◌, map, take}
use Rattle.std.specs.Map.Iter.{deref_pair}
use Rattle.jr_overlay.proofs.overlay.copied.Given as goal

-- the nodes so far are copied
abbrev pub invariant-loop-path : goal.invariant-loop-path
invariant-loop-path l = l.tree ≡ map deref_pair (take l.path-index l.nodes)
