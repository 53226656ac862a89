-- What the memories of the cluster nodes are by the journal.
use Rattle.std.specs.Prelude.{◌≡◌, ◌↔◌, ℕ, ◌+◌, ◌-◌, Bool, true, false, cond, not, ◌&&◌, ◌==◌, nat_le, List, [], ◌∷◌, map, filter, reverse, slice_get, Contains, Option, None, Some, is_some, IsTrue, IsFalse}
use Rattle.std.specs.List.{count_by}
use Rattle.std.specs.Option.{option_map, option_map_or}
use Rattle.jr_rev.specs.declared.revision.Revision.{Revision}
use Rattle.jr_rev.specs.declared.vector.Pin.{Pin}
use Rattle.jr_rev.specs.Revisions.{is_before, is_at_most}
use Rattle.jr_rev.specs.declared.vector.RevVec.{RevVec}
use Rattle.jr_rev.specs.Vectors.{IsVector, sees, start_of}
use Rattle.oak_machine.specs.declared.event.Event.{Event}
use Rattle.oak_machine.specs.declared.event.Event.TheVariants as event
use Rattle.oak_machine.specs.declared.event.StepKind.TheVariants as kind
use Rattle.oak_machine.specs.History.{Begin, Past}
use Rattle.oak_clash.specs.Clashes.{marked_paths}
use Rattle.oak_machine.specs.Commits.{is_drawn, is_ended, is_in_flight, marks_of}
use Rattle.oak_machine.specs.Heads.{draws_by, flying, greatest_time, head_of, last_draw_time, local}
use Rattle.oak_machine.specs.Sessions.{cursor_at, has_left, has_login, is_recovered, is_recovery_of, is_stopped, pinned_at, session_base}
use Rattle.oak_node.specs.declared.drawn.Drawn.{Drawn}
use Rattle.oak_node.specs.declared.pending.Note.{Note}
use Rattle.oak_node.specs.declared.memory.Awaits.{Awaits}
use Rattle.oak_node.specs.declared.memory.Awaits.TheVariants.{Ready, Pending}
use Rattle.oak_node.specs.Memory.{NodeState, IsMemory}
use Rattle.oak_node.specs.Pins.{pin_of, without_pin}
use Rattle.core_heads.specs.Sound.{Public}

-- ---- the memory

-- a drawn revision as a memory keeps it, with whether it has ended
abbrev pub as_drawn : Past → Revision → Drawn
as_drawn past = λ r. record { revision = r; ended = is_ended past r }

-- the greatest time that a journal begins with
abbrev pub begin_time : Begin → ℕ
begin_time begin = option_map_or (λ s. greatest_time s.at) begin 0

-- the revisions that cluster node k drew above its local one, the first first
abbrev pub revisions_above : Begin → Past → ℕ → List Revision
revisions_above begin past k = filter (is_before (local begin past k)) (reverse (draws_by past k))

-- the revisions that cluster node k drew above its local one, as a memory keeps them
abbrev pub drawn_above : Begin → Past → ℕ → List Drawn
drawn_above begin past k = map (as_drawn past) (revisions_above begin past k)

-- r was drawn by cluster node k above its local revision, and has ended or not
pub record IsAboveOf (begin : Begin) (past : Past) (k : ℕ) (r : Revision) (e : Bool) : Type 0 where
  pub node : r.cluster ≡ k
  pub drawn : IsTrue (is_drawn past r)
  pub above : IsTrue (is_before (local begin past k) r)
  pub ended : is_ended past r ≡ e

-- a vector with the sweep vector that it is taken with: this has eight entries, sees the start, and
-- sees no more than the vector
pub record IsPair (base sweep : RevVec) : Type 0 where
  pub vector : IsVector sweep
  pub begun : IsTrue (sees sweep (start_of 1))
  pub below : (x : Revision) → IsTrue (sees sweep x) → IsTrue (sees base x)

-- two vectors of the root at a moment: what was public, and with it how far each cluster node had
-- swept
pub record IsOnRoot (begin : Begin) (clusters : ℕ) (moment : Past)
    (last sweep : RevVec) : Type 0 where
  pub vector : IsVector last
  pub public : (x : Revision) → IsTrue (sees last x) ↔ Public clusters begin moment x
  pub pair : IsPair last sweep

-- the memory of cluster node k is that of the past: its head, with a sweep vector that goes with
-- it, its last draw, what it drew above its local revision, and whether it was stopped and
-- recovered
pub record IsMemoryOf (begin : Begin) (clusters : ℕ) (past : Past) (k : ℕ)
    (s : NodeState) : Type 0 where
  pub cluster : s.cluster ≡ k
  pub head : s.head ≡ head_of clusters begin past k
  pub sweep : IsPair s.head s.sweep
  pub last : s.last_time ≡ last_draw_time past k
  pub above : s.above ≡ drawn_above begin past k
  pub stopped : s.stopped ≡ is_stopped past k
  pub recovered : s.recovered ≡ is_recovered past k
  pub memory : IsMemory s

-- the event leaves the memory of cluster node k: k neither draws, nor ends a revision, nor learns,
-- and is neither stopped nor recovered
abbrev pub leaves_memory : ℕ → Event → Bool
leaves_memory k (event.Draw d) = not (d.revision.cluster == k)
leaves_memory k (event.End r) = not (r.cluster == k)
leaves_memory k (event.In m v) = not (m == k)
leaves_memory k (event.Stop m) = not (m == k)
leaves_memory k (event.Recover m) = not (m == k)
leaves_memory k _ = true

-- the event is a draw
abbrev pub is_draw : Event → Bool
is_draw (event.Draw d) = true
is_draw _ = false

-- the number of draws so far
abbrev pub draws_made : Past → ℕ
draws_made past = count_by is_draw past

-- ---- waiting

-- the head of k doesn't see r, and q is the earliest revision of k in flight
pub record AwaitsFlight (begin : Begin) (clusters : ℕ) (past : Past) (k : ℕ)
    (r q : Revision) : Type 0 where
  pub unseen : sees (head_of clusters begin past k) r ≡ false
  pub flying : IsTrue (is_in_flight past q)
  pub node : q.cluster ≡ k
  pub earlier : IsTrue (is_before q r)
  pub earliest : (o : Revision) → o.cluster ≡ k → IsTrue (is_in_flight past o)
      → IsTrue (is_at_most q o)

-- the head of k sees r, or r awaits a revision in flight
abbrev pub IsAwaitedAt : Begin → ℕ → Past → ℕ → Revision → Awaits → Type 0
IsAwaitedAt begin clusters past k r Ready = sees (head_of clusters begin past k) r ≡ true
IsAwaitedAt begin clusters past k r (Pending q) = AwaitsFlight begin clusters past k r q

-- ---- what changed

-- the memory keeps what changed: each path that a draw of cluster node k marks is noted with it, of
-- all draws of the node behind the revision since which the memory keeps such notes
abbrev pub KeepsChanges : Past → ℕ → NodeState → Type 0
KeepsChanges past k s = (r : Revision) (path : List (List ℕ)) →
    r.cluster ≡ k → IsTrue (is_before s.since r) → Contains (marked_paths (marks_of past r)) path
    → Contains s.changed (record { path = path; revision = r })

-- what new sees of the past and old doesn't was drawn by cluster node k, and each path that it
-- marks is among the notes with it
abbrev pub TellsSince : Past → ℕ → RevVec → RevVec → List Note → Type 0
TellsSince past k old new notes = (r : Revision) → IsTrue (sees new r) → IsFalse (sees old r) →
    (r.cluster ≡ k)
    × ((path : List (List ℕ)) → Contains (marked_paths (marks_of past r)) path
    → Contains notes (record { path = path; revision = r }))

-- the event is no draw of cluster node k
abbrev pub draws_nothing : ℕ → Event → Bool
draws_nothing k (event.Draw d) = not (d.revision.cluster == k)
draws_nothing k _ = true

-- ---- recoveries

-- the past, once these revisions have ended, the first first
abbrev pub after_ends : List Revision → Past → Past
after_ends [] past = past
after_ends (r ∷ rs) past = after_ends rs (event.End r ∷ past)

-- the past, once cluster node k is recovered: all that it had in flight has ended, in the order in
-- which it was drawn
abbrev pub after_recovery : Past → ℕ → Past
after_recovery past k = event.Recover k ∷ after_ends (reverse (flying past k)) past

-- ---- the pins

-- the session is of cluster node k
abbrev pub is_of_node : List ℕ → ℕ → ℕ → Bool
is_of_node sessions k s = option_map_or (λ m. m == k) (slice_get sessions s) false

-- the owner of the cursor of session s: there are at most 64 sessions
abbrev pub cursor_owner : ℕ → ℕ
cursor_owner s = 64 + s

-- the vector of an owner that is no session: it's the cursor of a session of cluster node k
abbrev pub cursor_base : List ℕ → Past → ℕ → ℕ → Option RevVec
cursor_base sessions past k owner = cond (nat_le 64 owner && is_of_node sessions k (owner - 64))
    (cursor_at past (owner - 64)) None

-- the vector at which cluster node k pins an owner: a session of the node at its base, a cursor of
-- one at its own
abbrev pub owner_base : List ℕ → Past → ℕ → ℕ → Option RevVec
owner_base sessions past k owner = cond (is_some (slice_get sessions owner))
    (cond (is_of_node sessions k owner) (session_base past owner) None)
    (cursor_base sessions past k owner)

-- the vector at which cluster node k pins an owner, until the node is recovered, when all its
-- pins go
abbrev pub kept_base : List ℕ → Past → ℕ → ℕ → Option RevVec
kept_base sessions past k owner = cond (is_recovered past k) None (owner_base sessions past k owner)

-- the base of a pin, where there is one
abbrev pub base_of_pin : Option Pin → Option RevVec
base_of_pin pin = option_map (λ (p : Pin). p.base) pin

-- the pins of the memory of cluster node k are at the vectors of their owners by the past, each
-- with a sweep vector that goes with it
pub record ArePinsOf (sessions : List ℕ) (past : Past) (k : ℕ) (s : NodeState) : Type 0 where
  pub bases : (owner : ℕ) → base_of_pin (pin_of s owner) ≡ kept_base sessions past k owner
  pub pairs : (owner : ℕ) (pin : Pin) → pin_of s owner ≡ Some pin → IsPair pin.base pin.sweep

-- the session is of cluster node k, which wasn't recovered, has come and not left, and was pinned
-- at this vector
pub record IsPinnedAt (sessions : List ℕ) (past : Past) (k s : ℕ) (v : RevVec) : Type 0 where
  pub kept : IsFalse (is_recovered past k)
  pub node : slice_get sessions s ≡ Some k
  pub login : IsTrue (has_login past s)
  pub stays : IsFalse (has_left past s)
  pub base : pinned_at past s ≡ Some v

-- the owner is the cursor of a session of cluster node k, which wasn't recovered, and was pinned at
-- this vector
pub record IsCursorAt (sessions : List ℕ) (past : Past) (k owner : ℕ) (v : RevVec) : Type 0 where
  pub kept : IsFalse (is_recovered past k)
  pub session : ℕ
  pub owner_is : owner ≡ cursor_owner session
  pub node : slice_get sessions session ≡ Some k
  pub base : cursor_at past session ≡ Some v

-- a cluster node's memory, with no pin for the session, nor for its cursor
abbrev pub without_session : NodeState → ℕ → NodeState
without_session m s = without_pin (without_pin m s) (cursor_owner s)

-- the session of which the event moves a pin, its own or its cursor's
abbrev pub moved_pin : Event → Option ℕ
moved_pin (event.Login s v) = Some s
moved_pin (event.Refresh s v) = Some s
moved_pin (event.Went s kind.Pin) = Some s
moved_pin (event.Went s kind.End) = Some s
moved_pin _ = None

-- the event moves no pin of a session of cluster node k, which it doesn't recover
abbrev pub leaves_pins : List ℕ → ℕ → Event → Bool
leaves_pins sessions k e = not (is_recovery_of k e)
    && option_map_or (λ s. not (is_of_node sessions k s)) (moved_pin e) true
