use Rattle.std.proofs.Common.{◌≡◌, take}
use Rattle.oak_node.specs.Seen.{seen_paths}
use Rattle.oak_node.proofs.pending.due_paths.Given as goal

-- the paths of the notes so far
abbrev pub invariant-loop-note : goal.invariant-loop-note
invariant-loop-note l = l.paths.items ≡ seen_paths l.head (take l.note-index l.notes)
