use Rattle.std.proofs.Common.{◌≡◌, ◌++◌}
use Rattle.std.specs.Map.{keys_of}
use Rattle.oak_gc.specs.Garbage.{is_superseded, keys_where}
use Rattle.oak_gc.proofs.garbage.put_superseded.Given as goal

-- the entries so far, and what those that are left put behind them
abbrev pub invariant-loop-r : goal.invariant-loop-r
invariant-loop-r g l =
    l.keys ++ keys_where (is_superseded l.bound.base l.bound.sweep (keys_of l.entries)) l.field l.r-iterator
    ≡ l.initial.keys ++ keys_where (is_superseded l.bound.base l.bound.sweep (keys_of l.entries)) l.field l.entries
