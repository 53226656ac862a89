use Rattle.std.proofs.Common.{◌≡◌, take}
use Rattle.std.specs.List.{fold}
use Rattle.oak_machine.specs.Marks.{with_marks}
use Rattle.jcr_marks.specs.ByWrite.{marks_by}
use Rattle.jcr_marks.proofs.marking.note_writes.Given as goal

-- the marks of the writes so far
abbrev pub invariant-loop-write : goal.invariant-loop-write
invariant-loop-write l = l.found ≡ fold (λ es w. with_marks es (marks_by l.old l.new w)) l.initial.found (take l.write-index l.writes)
