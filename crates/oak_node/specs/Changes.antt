-- What a cluster node knows of what changed since a vector.
use Rattle.std.specs.Prelude.{ℕ, cond, not, List, Option, None, Some, filter, fold}
use Rattle.std.specs.Ordering.{ord_min}
use Rattle.jr_rev.specs.declared.vector.Pin.{Pin}
use Rattle.jr_rev.specs.declared.revision.Revision.{Revision}
use Rattle.jr_rev.specs.Revisions.{revision_cmp, is_before}
use Rattle.jr_rev.specs.Vectors.{Entries, own_in, with_entry, sees, is_below}
use Rattle.oak_node.specs.declared.pending.Note.{Note}
use Rattle.oak_node.specs.Memory.{NodeState, own_entry}

-- the least vector since which the node knows what changed: all that the head sees of other nodes,
-- and of this one what was drawn before the paths that are kept
abbrev pub known_from : NodeState → Entries
known_from s = with_entry s.head s.since

-- what changed since v: the notes with draws that v doesn't see. It is known where v is above the
-- least such vector
abbrev pub changed_since : NodeState → Entries → Option (List Note)
changed_since s v =
    cond (is_below (known_from s) v)
    (Some (filter (λ note. not (sees v note.revision)) s.changed)) None

-- the pins at a base since which the node knows what changed
abbrev pub knowing_pins : NodeState → List (ℕ × Pin)
knowing_pins s = filter (λ pin. is_below (known_from s) pin.1.base) s.pins

-- the earliest of the own entries of the head and of the bases of those pins
abbrev pub oldest_own : NodeState → Revision
oldest_own s =
    fold (λ e pin. ord_min revision_cmp e (own_in s.cluster pin.1.base))
    (own_entry s) (knowing_pins s)

-- the memory of the node, which keeps what changed since e
abbrev pub kept_since : NodeState → Revision → NodeState
kept_since s e = record s {
  since = e;
  changed = filter (λ note. is_before e note.revision) s.changed;
}
