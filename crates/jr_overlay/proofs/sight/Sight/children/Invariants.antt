use Rattle.std.proofs.Common.{◌≡◌, map, take}
use Rattle.std.specs.List.{fold}
use Rattle.std.specs.Map.Iter.{deref_pair}
use Rattle.jr_overlay.specs.Overlays.{with_child}
use Rattle.jr_overlay.proofs.sight.Sight.children.Given as goal

-- the touched nodes so far are named
abbrev pub invariant-loop-at : goal.invariant-loop-at
invariant-loop-at l = l.names ≡ fold (with_child l.path) l.initial.names (map deref_pair (take l.at-index l.at-items))
