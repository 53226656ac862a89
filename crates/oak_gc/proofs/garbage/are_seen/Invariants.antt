use Rattle.std.proofs.Common.{◌≡◌}
use Rattle.std.specs.List.{list_all}
use Rattle.std.specs.Map.{keys_of}
use Rattle.jr_rev.specs.Vectors.{sees}
use Rattle.oak_gc.proofs.garbage.are_seen.Given as goal

-- those so far are seen, so those that are left decide
abbrev pub invariant-loop-r : goal.invariant-loop-r
invariant-loop-r g l = list_all (sees l.vector) (keys_of l.r-iterator) ≡ list_all (sees l.vector) (keys_of l.entries)
