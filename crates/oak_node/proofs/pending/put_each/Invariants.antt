use Rattle.std.proofs.Common.{◌≡◌, ◌++◌, take}
use Rattle.oak_node.specs.Notes.{notes_of}
use Rattle.oak_node.proofs.pending.put_each.Given as goal

-- the paths so far are noted
abbrev pub invariant-loop-path : goal.invariant-loop-path
invariant-loop-path l = l.notes.items ≡ l.initial.notes.items ++ notes_of l.r (take l.path-index l.paths)
