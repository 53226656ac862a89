use Rattle.std.proofs.Common.{◌≡◌, None, fold}
use Rattle.std.specs.List.{filter}
use Rattle.std.specs.Map.{keys_of}
use Rattle.jr_rev.specs.Vectors.{sees}
use Rattle.oak_recover.specs.Reading.{with_later}
use Rattle.oak_recover.proofs.reading.swept_in.Given as goal

-- the greatest so far, and of those that are left
abbrev pub invariant-loop-r : goal.invariant-loop-r
invariant-loop-r l = fold with_later l.latest (filter (sees l.sweep) (keys_of l.r-iterator)) ≡ fold with_later None (filter (sees l.sweep) (keys_of l.revisions))
