-- What a cluster node keeps in its memory.
use Rattle.std.specs.Prelude.{◌≡◌, ℕ, ◌≤◌, Bool, true, false, not, List, [], ◌∷◌, map, All, Some, unwrap_or, IsTrue}
use Rattle.std.specs.List.Sorted.{IsSortedByKey, IsStrictlySortedBy}
use Rattle.std.specs.Map.{keys_of}
use Rattle.std.specs.Ordering.{nat_cmp}
use Rattle.jr_rev.specs.declared.revision.Revision.{Revision}
use Rattle.jr_rev.specs.declared.vector.Pin.{Pin}
use Rattle.jr_rev.specs.Revisions.{revision_cmp, is_at_most}
use Rattle.jr_rev.specs.Vectors.{Entries, entry, own_in, start_of}
use Rattle.oak_node.specs.declared.drawn.Drawn.{Drawn}
use Rattle.oak_node.specs.declared.pending.Note.{Note}

-- a cluster node's number; its head; the sweep vector; the time of its last draw, 0 before the
-- first; the revisions that it drew above its head's own entry, ascending; the pins by their
-- owners, ascending; the noted paths, the first first; a revision of the node, and all paths that
-- its later draws noted, the first first; whether the node was stopped, and whether its memory was
-- recovered
pub record NodeState : Type 0 where
  pub cluster : ℕ
  pub head : Entries
  pub sweep : Entries
  pub last_time : ℕ
  pub above : List Drawn
  pub pins : List (ℕ × Pin)
  pub notes : List Note
  pub since : Revision
  pub changed : List Note
  pub stopped : Bool
  pub recovered : Bool

-- the memory of a running node that has drawn, pinned and noted nothing, with this vector as its
-- head and sweep vector
abbrev pub begun : ℕ → Entries → NodeState
begun cluster start = record {
  cluster = cluster;
  head = start;
  sweep = start;
  last_time = 0;
  above = [];
  pins = [];
  notes = [];
  since = own_in cluster start;
  changed = [];
  stopped = false;
  recovered = false;
}

-- the head's entry of the node itself
abbrev pub own_entry : NodeState → Revision
own_entry s = unwrap_or (entry s.head s.cluster) (start_of s.cluster)

-- the revision that the node drew last, if it has drawn
abbrev pub last_draw : NodeState → Revision
last_draw s = record { time = s.last_time; counter = 0; cluster = s.cluster }

-- the revisions that were drawn, in their order
abbrev pub revisions_in : List Drawn → List Revision
revisions_in drawn = map (λ d. d.revision) drawn

-- the first, if there is one, is in flight
abbrev pub begins_in_flight : List Drawn → Bool
begins_in_flight [] = true
begins_in_flight (d ∷ ds) = not d.ended

-- what is kept of a node's draws, by its own entry and its last draw: since a revision of the node
-- that is at most its own entry; notes of the node, not falling, and none after the last draw
pub record AreKept (own last since : Revision) (changed : List Note) : Type 0 where
  pub node : since.cluster ≡ last.cluster
  pub low : IsTrue (is_at_most since own)
  pub of_node : All (λ note. note.revision.cluster ≡ last.cluster) changed
  pub order : IsSortedByKey (λ note. note.revision) revision_cmp changed
  pub late : All (λ note. IsTrue (is_at_most note.revision last)) changed

-- what is true of each memory: the node has a number from 1 to 8, and an entry in its head; what it
-- drew above that entry is of this node, rises from there and begins with one in flight, and no
-- draw is later than the last; no owner has two pins; what is kept of its draws is in order; a node
-- that was recovered was stopped
pub record IsMemory (s : NodeState) : Type 0 where
  pub low : 1 ≤ s.cluster
  pub high : s.cluster ≤ 8
  pub own : entry s.head s.cluster ≡ Some (own_entry s)
  pub own_node : (own_entry s).cluster ≡ s.cluster
  pub rising : IsStrictlySortedBy revision_cmp (own_entry s ∷ revisions_in s.above)
  pub flying : IsTrue (begins_in_flight s.above)
  pub of_node : All (λ d. d.revision.cluster ≡ s.cluster) s.above
  pub times : All (λ d. d.revision.time ≤ s.last_time) s.above
  pub owners : IsStrictlySortedBy nat_cmp (keys_of s.pins)
  pub kept : AreKept (own_entry s) (last_draw s) s.since s.changed
  pub stop : IsTrue s.recovered → IsTrue s.stopped
