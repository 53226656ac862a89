use Rattle.std.proofs.Common.{◌≡◌, ◌++◌, length, map}
use Rattle.sql_values.specs.Texts.{cased}
use Rattle.sql_values.proofs.characters.path_with_case.Given as goal

-- the names so far, and those that are left
abbrev pub invariant-loop-left : goal.invariant-loop-left
invariant-loop-left l = l.changed ++ map (map (cased l.case)) l.left ≡ map (map (cased l.case)) l.path

abbrev pub decreases-loop-left : goal.decreases-loop-left
decreases-loop-left l = length l.left
