use Rattle.std.proofs.Common.{◌≡◌, drop}
use Rattle.jr_rev.specs.Vectors.{is_below}
use Rattle.jr_rev.proofs.vector.RevVec.is_below.Given as goal

abbrev pub invariant-loop-i : goal.invariant-loop-i
invariant-loop-i l = is_below (drop l.i l.self-inside.entries) (drop l.i l.other-inside.entries) ≡ is_below l.self l.other
