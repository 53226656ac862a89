use Rattle.std.proofs.Common.{◌≡◌, ◌++◌, filter, map, Some}
use Rattle.std.specs.Map.{keys_of}
use Rattle.oak_clash.specs.declared.mark.Mark.TheVariants.{Prop}
use Rattle.oak_commit.specs.Clashing.{has_mark, marks_in}
use Rattle.oak_commit.proofs.met.marks_in.Given as goal

-- the marks so far, and those of the properties that are left
abbrev pub invariant-loop-name : goal.invariant-loop-name
invariant-loop-name l = l.marks.items ++ filter (has_mark l.document l.r) (map Prop (keys_of l.name-iterator)) ≡ marks_in (Some l.document) l.r
