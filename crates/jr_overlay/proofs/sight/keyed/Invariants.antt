use Rattle.std.proofs.Common.{◌≡◌, take}
use Rattle.jr_overlay.proofs.sight.keyed.Given as goal

-- the names so far are in the map
abbrev pub invariant-loop-name : goal.invariant-loop-name
invariant-loop-name l = l.map ≡ take l.name-index l.names
