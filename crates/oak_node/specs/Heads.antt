-- Draws, ends, and the head.
use Rattle.std.specs.Prelude.{◌≡◌, ℕ, ◌+◌, ◌⊎◌, max, true, false, not, cond, List, [], ◌∷◌, ◌++◌, map, fold, filter, Contains, IsTrue}
use Rattle.std.specs.List.{list_all}
use Rattle.std.specs.Option.{option_map_or}
use Rattle.jr_rev.specs.declared.revision.Revision.{Revision}
use Rattle.jr_rev.specs.Revisions.{is_same, is_before, is_at_most}
use Rattle.jr_rev.specs.Vectors.{Entries, entry, with_entry, sees, greatest}
use Rattle.oak_node.specs.declared.drawn.Drawn.{Drawn}
use Rattle.oak_node.specs.declared.memory.Awaits.{Awaits}
use Rattle.oak_node.specs.declared.memory.Awaits.TheVariants.{Ready, Pending}
use Rattle.oak_node.specs.Memory.{NodeState, own_entry, revisions_in}

-- ---- draws

-- the greatest time in a vector
abbrev pub latest_time : Entries → ℕ
latest_time v = fold (λ time k. max time (option_map_or (λ r. r.time) (entry v k) 0)) 0 (1 ∷ 2 ∷ 3 ∷ 4 ∷ 5 ∷ 6 ∷ 7 ∷ 8 ∷ [])

-- the greatest time that the node knows
abbrev pub known_time : NodeState → ℕ
known_time s = max (latest_time s.head) s.last_time

-- the revision that the node draws next
abbrev pub next_draw : NodeState → Revision
next_draw s = record { time = known_time s + 1; counter = 0; cluster = s.cluster }

-- the memory of the node, with r drawn and in flight
abbrev pub with_draw : NodeState → Revision → NodeState
with_draw s r = record s { last_time = r.time; above = s.above ++ record { revision = r; ended = false } ∷ [] }

-- the node drew r, and r has not ended
abbrev pub IsInFlight : NodeState → Revision → Type 0
IsInFlight s r = Contains s.above (record { revision = r; ended = false })

-- the node drew r, and r has ended: what it drew up to the head's own entry has
abbrev pub HasEnded : NodeState → Revision → Type 0
HasEnded s r = (r.cluster ≡ s.cluster) × (IsTrue (is_at_most r (own_entry s)) ⊎ Contains s.above (record { revision = r; ended = true }))

-- ---- the head's own entry

-- the last of the drawn revisions, or else e
abbrev pub last_drawn : Revision → List Drawn → Revision
last_drawn e drawn = fold (λ last d. d.revision) e drawn

-- the greater of two revisions
abbrev pub later_draw : Revision → Revision → Revision
later_draw a b = cond (is_before a b) b a

-- those of the drawn revisions that are in flight
abbrev pub flying_in : List Drawn → List Revision
flying_in drawn = revisions_in (filter (λ d. not d.ended) drawn)

-- the greatest of e and the drawn revisions that are below every one in flight
abbrev pub local_from : Revision → List Drawn → Revision
local_from e drawn = fold later_draw e (filter (λ r. list_all (is_before r) (flying_in drawn)) (revisions_in drawn))

-- r is ended
abbrev pub with_end : List Drawn → Revision → List Drawn
with_end drawn r = map (λ d. cond (is_same d.revision r) (record { revision = d.revision; ended = true }) d) drawn

-- the memory of the node, with e as the head's own entry; it keeps the draws above it
abbrev pub with_own : NodeState → Revision → NodeState
with_own s e = record s { head = with_entry s.head e; above = filter (λ d. is_before e d.revision) s.above }

-- the memory of the node, once r has ended
abbrev pub finished : NodeState → Revision → NodeState
finished s r = with_own (record s { above = with_end s.above r }) (local_from (own_entry s) (with_end s.above r))

-- the rule of heads: the head's own entry is the greatest of these revisions that is below every
-- one in flight
pub record IsLocal (drawn : List Revision) (s : NodeState) : Type 0 where
  pub one : Contains drawn (own_entry s)
  pub below : (q : Revision) → IsInFlight s q → IsTrue (is_before (own_entry s) q)
  pub greatest : (o : Revision) → Contains drawn o → ((q : Revision) → IsInFlight s q → IsTrue (is_before o q)) → IsTrue (is_at_most o (own_entry s))

-- ---- waiting

-- the revision is seen, or else q is the earliest one of this node in flight
pub record AwaitsEarlier (s : NodeState) (r q : Revision) : Type 0 where
  pub unseen : sees s.head r ≡ false
  pub flying : IsInFlight s q
  pub earlier : IsTrue (is_before q r)
  pub earliest : (o : Revision) → IsInFlight s o → IsTrue (is_at_most q o)

-- a revision is ready where the head sees it; else it awaits the earliest in flight
abbrev pub IsAwaited : NodeState → Revision → Awaits → Type 0
IsAwaited s r Ready = sees s.head r ≡ true
IsAwaited s r (Pending q) = AwaitsEarlier s r q

-- ---- what other nodes published

-- each entry of the head but the node's own, and each of the sweep vector, is raised to what was
-- read, and none is lowered
abbrev pub learned : NodeState → Entries → Entries → NodeState
learned s last_revisions sweep = record s { head = with_entry (greatest s.head last_revisions) (own_entry s); sweep = greatest s.sweep sweep }
