use Rattle.std.proofs.Common.{◌≡◌, ◌++◌, length}
use Rattle.sql_values.specs.Patterns.{parts_of}
use Rattle.sql_values.proofs.like.parts_backwards.Given as goal

-- the parts so far, and those of what is left
abbrev pub invariant-loop-left : goal.invariant-loop-left
invariant-loop-left l = l.parts.items ++ parts_of l.left ≡ parts_of l.characters

abbrev pub decreases-loop-left : goal.decreases-loop-left
decreases-loop-left l = length l.left
