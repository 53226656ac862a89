use Rattle.std.proofs.Common.{◌≡◌, fold, not}
use Rattle.std.specs.List.{filter}
use Rattle.std.specs.Map.{keys_of}
use Rattle.jr_rev.specs.Vectors.{sees}
use Rattle.oak_recover.specs.Reading.{doubts_in, with_doubt}
use Rattle.oak_recover.proofs.reading.doubts_in.Given as goal

-- those so far, and those that are left
abbrev pub invariant-loop-r : goal.invariant-loop-r
invariant-loop-r l = fold (with_doubt l.document) l.doubts (filter (λ r. not (sees l.sweep r)) (keys_of l.r-iterator)) ≡ doubts_in l.sweep l.document (keys_of l.revisions)
