-- What the heads of a run keep.
use Rattle.std.specs.Prelude.{◌≡◌, ℕ, ◌<◌, ◌≤◌, ◌⊎◌, List, [], ◌∷◌, Some, length, slice_get, IsTrue, IsFalse}
use Rattle.jr_path.specs.Lists.{Text}
use Rattle.jr_rev.specs.declared.revision.Revision.{Revision}
use Rattle.jr_rev.specs.declared.vector.RevVec.{RevVec}
use Rattle.jr_rev.specs.Revisions.{is_before, is_at_most}
use Rattle.jr_rev.specs.Vectors.{sees, start_of, stands_from}
use Rattle.oak_machine.specs.declared.event.Draw.{Draw}
use Rattle.oak_machine.specs.declared.event.Event.TheVariants as event
use Rattle.oak_machine.specs.History.{Begin, History, Past, begin_of}
use Rattle.oak_machine.specs.Commits.{draw_of, is_drawn, is_in_flight, is_in_base}
use Rattle.oak_machine.specs.Heads.{last_draw_time, head_of, local, published, last_in, outs_of}
use Rattle.oak_machine.specs.Laws.{Starts, Says}
use Rattle.oak_machine.specs.Runs.{AreNodes, IsNode, IsRun}
use Rattle.oak_machine.specs.Sessions.{base_of, is_attached, last_checkpoint}

-- what is seen, as a proposition for each revision
abbrev pub SeenSet : Type 1
SeenSet = Revision → Type 0

-- what a vector sees
abbrev pub Seen : RevVec → SeenSet
Seen v = λ o. IsTrue (sees v o)

-- in flight, or later than the last draw of its node and than what that begins from
abbrev pub IsAhead : Begin → Past → Revision → Type 0
IsAhead begin past o =
    IsTrue (is_in_flight past o)
    ⊎ ((last_draw_time past o.cluster < o.time) × IsTrue (is_before (begin_of begin o.cluster) o))

-- nothing ahead is seen, and with a drawn revision all that its base sees
pub record IsGood (begin : Begin) (past : Past) (s : SeenSet) : Type 0 where
  pub behind : (o : Revision) → IsAhead begin past o → s o → ⊥
  pub closed : (o : Revision) (d : Draw) → draw_of past o ≡ Some d → s o → (x : Revision)
      → IsTrue (sees d.base x) → s x

-- what the cluster nodes have published
abbrev pub Public : ℕ → Begin → Past → SeenSet
Public clusters begin past = λ o. IsNode clusters o.cluster
    × IsTrue (is_at_most o (published begin past o.cluster))

-- k is one of the list
abbrev pub IsIn : Revision → List Revision → Type 0
IsIn k [] = ⊥
IsIn k (x ∷ xs) = (x ≡ k) ⊎ IsIn k xs

-- a drawn revision: of a node, at most its last time, later than what that begins from, with a base
-- that its node's head has come to see, of earlier ones, and of others only what they had published
pub record IsSoundDraw (clusters : ℕ) (begin : Begin) (past : Past) (o : Revision)
    (d : Draw) : Type 0 where
  pub node : IsNode clusters o.cluster
  pub late : o.time ≤ last_draw_time past o.cluster
  pub positive : 1 ≤ o.time
  pub newer : IsTrue (is_before (begin_of begin o.cluster) o)
  pub stands : IsTrue (stands_from 1 d.base)
  pub headed : (x : Revision) → IsTrue (sees d.base x)
      → IsTrue (sees (head_of clusters begin past o.cluster) x)
  pub rises : (x : Revision) → IsTrue (sees d.base x) → IsTrue (is_before x o)
  pub told : (x : Revision) → IsTrue (sees d.base x)
      → (x.cluster ≡ o.cluster) ⊎ Public clusters begin past x

-- what a node has learned: good, of eight entries, not ahead of itself, and of others only what
-- they have published
pub record IsSoundIn (clusters : ℕ) (begin : Begin) (past : Past) (k : ℕ)
    (v : RevVec) : Type 0 where
  pub good : IsGood begin past (Seen v)
  pub eight : length v ≡ 8
  pub stands : IsTrue (stands_from 1 v)
  pub own : (x : Revision) → IsTrue (sees v x) → x.cluster ≡ k
      → IsTrue (is_at_most x (local begin past k))
  pub told : (x : Revision) → IsTrue (sees v x) → (x.cluster ≡ k) ⊎ Public clusters begin past x
  pub begun : IsTrue (sees v (start_of 1))

-- a vector that is held: good, with its entries at their nodes, and it sees the start
pub record IsHeld (begin : Begin) (past : Past) (v : RevVec) : Type 0 where
  pub good : IsGood begin past (Seen v)
  pub stands : IsTrue (stands_from 1 v)
  pub begun : IsTrue (sees v (start_of 1))

-- what a run keeps: draws are sound, a node publishes no more than its local revision, what nodes
-- have learned is sound, bases and checkpoints are held, and a base that isn't a checkpoint is at
-- most the head of its node
pub record IsSound (clusters : ℕ) (sessions : List ℕ) (begin : Begin) (past : Past) : Type 0 where
  pub draws : (o : Revision) (d : Draw) → draw_of past o ≡ Some d
      → IsSoundDraw clusters begin past o d
  pub outs : (k : ℕ) (r : Revision) → IsIn r (outs_of past k)
      → (r.cluster ≡ k) × IsTrue (is_at_most r (local begin past k))
  pub ins : (k : ℕ) → IsNode clusters k
      → IsSoundIn clusters begin past k (last_in clusters begin past k)
  pub bases : (s : ℕ) (v : RevVec) → base_of past s ≡ Some v → IsHeld begin past v
  pub kept : (id : Text) (v : RevVec) → last_checkpoint past id ≡ Some v → IsHeld begin past v
  pub headed : (s k : ℕ) (v : RevVec) → slice_get sessions s ≡ Some k → IsFalse (is_attached past s)
      → base_of past s ≡ Some v → (x : Revision) → IsTrue (sees v x)
      → IsTrue (sees (head_of clusters begin past k) x)

-- a new revision, that no base sees; a base that sees the start and nothing in flight
pub record Begins (past : Past) (d : Draw) : Type 0 where
  pub fresh : IsFalse (is_drawn past d.revision)
  pub later : (r : Revision) → IsFalse (is_in_base past r d.revision)
  pub itself : IsFalse (is_in_base (event.Draw d ∷ past) d.revision d.revision)
  pub settled : (o : Revision) → IsTrue (is_in_flight past o)
      → IsFalse (is_in_base (event.Draw d ∷ past) d.revision o)
  pub start : IsTrue (is_in_base (event.Draw d ∷ past) d.revision (start_of 1))
  pub started : d.revision ≡ start_of 1 → ⊥

-- a vector in hand: the base of a session, the last checkpoint of an id, or the head of a cluster
-- node
pub data IsInHand (h : History) (v : RevVec) : Type 0 where
  base : (s : ℕ) → base_of h.past s ≡ Some v → IsInHand h v
  checkpoint : (id : Text) → last_checkpoint h.past id ≡ Some v → IsInHand h v
  head : (k : ℕ) → IsNode h.clusters k → v ≡ head_of h.clusters h.begin h.past k → IsInHand h v

-- a run, of one to eight cluster nodes
pub record IsNodesRun (starts : Starts) (says : Says) (h : History) : Type 0 where
  pub nodes : AreNodes h.clusters h.sessions
  pub run : IsRun starts says h
