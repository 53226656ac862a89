-- The paths that a cluster node noted: those that it has still to publish, and those that changed.
use Rattle.std.specs.Prelude.{◌≡◌, ℕ, not, List, [], ◌∷◌, ◌++◌, filter, map, fold, Contains, ◌↔◌}
use Rattle.std.specs.List.Sorted.{IsStrictlySortedBy}
use Rattle.jr_path.specs.Names.{path_cmp}
use Rattle.jr_rev.specs.declared.revision.Revision.{Revision}
use Rattle.jr_rev.specs.Vectors.{sees}
use Rattle.oak_node.specs.declared.pending.Note.{Note}
use Rattle.oak_node.specs.declared.pending.Pending.{Pending}
use Rattle.oak_node.specs.Changes.{kept_since, oldest_own}
use Rattle.oak_node.specs.Memory.{NodeState, own_entry}
use Rattle.oak_node.specs.Seen.{seen_paths}

-- the memory of the node, with the path noted with r, behind what was noted before: to be
-- published, and as one that changed
abbrev pub with_note : NodeState → List (List ℕ) → Revision → NodeState
with_note s path r = record s {
  notes = s.notes ++ record { path = path; revision = r } ∷ [];
  changed = s.changed ++ record { path = path; revision = r } ∷ [];
}

-- the memory of the node, with the paths noted with r, one behind another
abbrev pub with_notes : Revision → NodeState → List (List (List ℕ)) → NodeState
with_notes r s paths = fold (λ s path. with_note s path r) s paths

-- notes of the paths with r
abbrev pub notes_of : Revision → List (List (List ℕ)) → List Note
notes_of r paths = map (λ path. record { path = path; revision = r }) paths

-- the memory of the node, without the notes whose revision the head sees, and without what
-- changed up to the oldest own entry in use
abbrev pub without_seen : NodeState → NodeState
without_seen s =
    kept_since (record s { notes = filter (λ note. not (sees s.head note.revision)) s.notes })
    (oldest_own s)

-- the noted paths whose revision the head sees, each once and in path order, and the head's own
-- entry
pub record IsPending (s : NodeState) (pending : Pending) : Type 0 where
  pub ordered : IsStrictlySortedBy path_cmp pending.paths
  pub noted : (path : List (List ℕ)) → Contains pending.paths path ↔ Contains (seen_paths s.head s.notes) path
  pub upto : pending.upto ≡ own_entry s
