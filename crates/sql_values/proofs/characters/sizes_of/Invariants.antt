use Rattle.std.proofs.Common.{◌≡◌, ◌++◌, length, map}
use Rattle.sql_values.specs.Texts.{long_of, size_of}
use Rattle.sql_values.proofs.characters.sizes_of.Given as goal

-- the sizes so far, and those that are left
abbrev pub invariant-loop-left : goal.invariant-loop-left
invariant-loop-left l = l.sizes.items ++ map (λ x. long_of (size_of x)) l.left ≡ map (λ x. long_of (size_of x)) l.values

abbrev pub decreases-loop-left : goal.decreases-loop-left
decreases-loop-left l = length l.left
