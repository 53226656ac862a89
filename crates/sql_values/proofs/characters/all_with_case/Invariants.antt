use Rattle.std.proofs.Common.{◌≡◌, ◌++◌, length, map}
use Rattle.sql_values.specs.Texts.{cased, with_characters}
use Rattle.sql_values.proofs.characters.all_with_case.Given as goal

-- the values so far, and those that are left
abbrev pub invariant-loop-left : goal.invariant-loop-left
invariant-loop-left l = l.all.items ++ map (with_characters (cased l.case)) l.left ≡ map (with_characters (cased l.case)) l.values

abbrev pub decreases-loop-left : goal.decreases-loop-left
decreases-loop-left l = length l.left
