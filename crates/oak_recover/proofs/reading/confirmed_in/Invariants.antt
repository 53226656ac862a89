use Rattle.std.proofs.Common.{◌≡◌, fold}
use Rattle.std.specs.List.{filter}
use Rattle.std.specs.Map.{keys_of}
use Rattle.std.specs.Option.{option_copied}
use Rattle.oak_recover.specs.Reading.{is_confirmed, with_later}
use Rattle.oak_recover.proofs.reading.confirmed_in.Given as goal

-- the greatest so far, and of those that are left
abbrev pub invariant-loop-r : goal.invariant-loop-r
invariant-loop-r l = fold with_later l.latest (keys_of (filter (is_confirmed l.root (option_copied l.found)) l.r-iterator)) ≡ fold with_later l.initial.latest (keys_of (filter (is_confirmed l.root (option_copied l.found)) l.doubts))
