use Rattle.std.proofs.Common.{◌≡◌, take}
use Rattle.std.specs.List.{flat_map}
use Rattle.jcr_marks.specs.Marks.{new_references}
use Rattle.jcr_marks.proofs.marking.new_references.Given as goal

-- the references of the writes so far
abbrev pub invariant-loop-write : goal.invariant-loop-write
invariant-loop-write l = l.ids.items ≡ flat_map (new_references l.old) (take l.write-index l.writes)
