use Rattle.std.proofs.Common.{◌≡◌}
use Rattle.std.specs.List.{list_all}
use Rattle.std.specs.Map.{keys_of}
use Rattle.jr_rev.specs.Vectors.{sees}
use Rattle.oak_open.proofs.documents.are_seen.Given as goal

-- what is left decides
abbrev pub invariant-loop-r : goal.invariant-loop-r
invariant-loop-r g l =
    list_all (sees l.pin.base) (keys_of l.r-iterator)
    ≡ list_all (sees l.pin.base) (keys_of l.entries)
