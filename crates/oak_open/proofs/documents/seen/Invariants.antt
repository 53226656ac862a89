use Rattle.std.proofs.Common.{◌≡◌, ◌++◌}
use Rattle.jr_rev.specs.Vectors.{sees}
use Rattle.oak_open.specs.Opened.{those}
use Rattle.oak_open.proofs.documents.seen.Given as goal

-- what is left so far, and what of those to come
abbrev pub invariant-loop-r : goal.invariant-loop-r
invariant-loop-r l = l.left ++ those (sees l.pin.base) l.r-iterator ≡ those (sees l.pin.base) l.entries
