use Rattle.std.proofs.Common.{◌≡◌, fold}
use Rattle.std.specs.Map.{values_of}
use Rattle.oak_recover.specs.Reading.{roots_of, with_other}
use Rattle.oak_recover.proofs.reading.roots_of.Given as goal

-- those so far, and those that are left
abbrev pub invariant-loop-root : goal.invariant-loop-root
invariant-loop-root l = fold (with_other l.own) l.roots (values_of l.root-iterator) ≡ roots_of l.own l.doubts
