use Rattle.std.proofs.Common.{map, take, ◌≡◌}
use Rattle.oak_world.proofs.changes.paths_of.Given as goal

abbrev pub invariant-loop-note : goal.invariant-loop-note
invariant-loop-note l = l.paths ≡ map (λ note. note.path) (take l.note-index l.notes)
