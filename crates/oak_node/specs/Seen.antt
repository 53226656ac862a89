-- Notes, and those whose revision a vector sees.
use Rattle.std.specs.Prelude.{ℕ, List, map, filter}
use Rattle.jr_rev.specs.Vectors.{Entries, sees}
use Rattle.oak_node.specs.declared.pending.Note.{Note}

-- the noted paths whose revision v sees
abbrev pub seen_paths : Entries → List Note → List (List (List ℕ))
seen_paths v notes = map (λ note. note.path) (filter (λ note. sees v note.revision) notes)
