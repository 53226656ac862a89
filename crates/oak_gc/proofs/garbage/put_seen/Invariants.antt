use Rattle.std.proofs.Common.{◌≡◌, ◌++◌}
use Rattle.jr_rev.specs.Vectors.{sees}
use Rattle.oak_gc.specs.Garbage.{keys_where}
use Rattle.oak_gc.proofs.garbage.put_seen.Given as goal

-- the entries so far, and what those that are left put behind them
abbrev pub invariant-loop-r : goal.invariant-loop-r
invariant-loop-r g l = l.keys ++ keys_where (sees l.vector) l.field l.r-iterator ≡ l.initial.keys ++ keys_where (sees l.vector) l.field l.entries
