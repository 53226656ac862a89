-- Which event may follow a history, and runs.
use Rattle.std.specs.Prelude.{◌≡◌, ℕ, ◌-◌, ◌^◌, ◌≤◌, Bool, true, false, cond, not, ◌&&◌, ◌||◌, ◌==◌, List, [], ◌∷◌, drop, slice_get, Some, IsTrue, IsFalse, IsSome}
use Rattle.std.specs.List.{All, fold, list_any, range_with_len}
use Rattle.jr_path.specs.declared.path.Item.{Item}
use Rattle.jr_path.specs.Lists.{Text}
use Rattle.jr_rev.specs.declared.revision.Revision.{Revision}
use Rattle.jr_rev.specs.declared.vector.RevVec.{RevVec}
use Rattle.jr_rev.specs.Vectors.{is_below, raised}
use Rattle.jr_rev.specs.Revisions.{is_at_most}
use Rattle.jr_tree.specs.declared.edit.Edit.{Edit}
use Rattle.oak_clash.specs.declared.mark.MarkAt.{MarkAt}
use Rattle.oak_clash.specs.Clashes.{Meets}
use Rattle.oak_doc.specs.declared.asks.SplitEnd.{SplitEnd}
use Rattle.oak_doc.specs.declared.asks.SplitEnd.TheVariants as split
use Rattle.oak_doc.specs.declared.asks.Collected.{Collected}
use Rattle.oak_machine.specs.declared.event.Draw.{Draw}
use Rattle.oak_machine.specs.declared.event.Event.{Event}
use Rattle.oak_machine.specs.declared.event.Event.TheVariants as event
use Rattle.oak_machine.specs.History.{Begin, History, Past, IsBegun}
use Rattle.oak_machine.specs.Commits.{is_drawn, is_committed, is_refused, is_in_flight, is_in_base, marks_of, are_clashing}
use Rattle.oak_machine.specs.Heads.{head_of, is_flying, local, published, drawn_next}
use Rattle.oak_machine.specs.Sessions.{base_of, has_login, has_left, has_reader, is_attached, is_drawing, is_recovered, is_stopped, is_stopped_under, kept_checkpoint, next_index, since}
use Rattle.oak_machine.specs.Laws.{Starts, Says, AreOthers, after}

-- v is the head of the cluster node of s
abbrev pub IsHeadFor : History → ℕ → RevVec → Type 0
IsHeadFor h s v = (k : ℕ) × (slice_get h.sessions s ≡ Some k) × (v ≡ head_of h.clusters h.begin h.past k)

-- the cluster node of s wasn't stopped
abbrev pub IsRunning : History → ℕ → Type 0
IsRunning h s = IsFalse (is_stopped_under h.sessions h.past s)

-- session s may log in at v: it never did, its cluster node was not stopped, and v is the head of
-- the node
pub record MayLogin (h : History) (s : ℕ) (v : RevVec) : Type 0 where
  pub running : IsRunning h s
  pub first : IsFalse (has_login h.past s)
  pub head : IsHeadFor h s v

-- session s may refresh to v: it has logged in and has no draw in flight, its cluster node was not
-- stopped, and v is the head of the node
pub record MayRefresh (h : History) (s : ℕ) (v : RevVec) : Type 0 where
  pub running : IsRunning h s
  pub login : IsTrue (has_login h.past s)
  pub idle : IsFalse (is_drawing h.past s)
  pub head : IsHeadFor h s v

-- the next revision of the cluster node of an idle session, which wasn't stopped, at its base, with an edit that the law lets start
pub record MayDraw (starts : Starts) (h : History) (d : Draw) : Type 0 where
  pub running : IsRunning h d.session
  pub login : IsTrue (has_login h.past d.session)
  pub detached : IsFalse (is_attached h.past d.session)
  pub idle : IsFalse (is_drawing h.past d.session)
  pub base : base_of h.past d.session ≡ Some d.base
  pub cluster : slice_get h.sessions d.session ≡ Some d.revision.cluster
  pub next : d.revision ≡ drawn_next h.clusters h.begin h.past d.revision.cluster
  pub lawful : starts h d.session d.edit d.marks

-- in flight, neither committed nor refused, and of a cluster node that wasn't stopped
pub record IsOpen (past : Past) (r : Revision) : Type 0 where
  pub running : IsFalse (is_stopped past r.cluster)
  pub in_flight : IsTrue (is_in_flight past r)
  pub not_committed : IsFalse (is_committed past r)
  pub not_refused : IsFalse (is_refused past r)

-- no committed revision that the base of r doesn't see clashes with r
pub record MayCommit (past : Past) (r : Revision) : Type 0 where
  pub open_ : IsOpen past r
  pub apart : (o : Revision) → IsTrue (is_committed past o) → IsFalse (is_in_base past r o) → IsFalse (are_clashing past r o)

-- at some moment from the draw of r on, o was committed or in flight
abbrev pub was_live_beside : Past → Revision → Revision → Bool
was_live_beside [] r o = false
was_live_beside (e ∷ past) r o = is_drawn (e ∷ past) r && (is_committed (e ∷ past) o || is_in_flight (e ∷ past) o || was_live_beside past r o)

-- r meets in the item another, outside its base, that was committed or in flight beside it
pub record MayRefuse (past : Past) (r : Revision) (item : Item) (o : Revision) : Type 0 where
  pub open_ : IsOpen past r
  pub met : Meets (marks_of past r) (marks_of past o) item
  pub outside : IsFalse (is_in_base past r o)
  pub live : IsTrue (was_live_beside past r o)

-- the head of k now, with the other nodes' entries raised to what they had published earlier
abbrev pub learned : ℕ → Begin → Past → Past → ℕ → RevVec
learned clusters begin now earlier k = fold (λ v m. cond (m == k) v (raised v (published begin earlier m))) (head_of clusters begin now k) (range_with_len 1 clusters)

-- cluster node k may learn v: its head, with the entries of the other nodes raised to what they had
-- published at one moment up to now
abbrev pub MayLearn : History → ℕ → RevVec → Type 0
MayLearn h k v = (n : ℕ) × (v ≡ learned h.clusters h.begin h.past (drop n h.past) k)

-- m is at most the head of each cluster node that wasn't recovered and each checkpoint that is kept, and t at most m
pub record MayBound (h : History) (m t : RevVec) : Type 0 where
  pub heads : (k : ℕ) → 1 ≤ k → k ≤ h.clusters → IsFalse (is_recovered h.past k) → IsTrue (is_below m (head_of h.clusters h.begin h.past k))
  pub checkpoints : (id : Text) (v : RevVec) → kept_checkpoint h.past id ≡ Some v → IsTrue (is_below m v)
  pub sweep : IsTrue (is_below t m)

-- the numbers read and found of something skipped
abbrev pub is_skip : ℕ → ℕ → Bool
is_skip read found = not (read == found) || read == 2 ^ 64 - 1

-- a split may end so: with what it moved, or skipped with the two numbers of a skip
abbrev pub is_split_end : SplitEnd → Bool
is_split_end (split.Split n) = true
is_split_end (split.Skipped read found) = is_skip read found

-- the event is a Bound: the bounds of a collection were taken
abbrev pub is_bound : Event → Bool
is_bound (event.Bound m t) = true
is_bound _ = false

-- some bound was taken since the last reply of s, and each skip has its numbers
pub record MayCollect (past : Past) (s : ℕ) (c : Collected) : Type 0 where
  pub login : IsTrue (has_login past s)
  pub bound : IsTrue (list_any is_bound (since past s))
  pub skips : All (λ skip. IsTrue (is_skip skip.1 skip.2)) c.skipped

-- the event may follow the history
abbrev pub MayFollow : Starts → Says → History → Event → Type 0
MayFollow starts says h (event.Login s v) = MayLogin h s v
MayFollow starts says h (event.Refresh s v) = MayRefresh h s v
MayFollow starts says h (event.Draw d) = MayDraw starts h d
MayFollow starts says h (event.Commit r) = MayCommit h.past r
MayFollow starts says h (event.Refuse r item o) = MayRefuse h.past r item o
MayFollow starts says h (event.End r) = IsTrue (is_in_flight h.past r)
MayFollow starts says h (event.Head k v) = IsFalse (is_stopped h.past k) × (v ≡ head_of h.clusters h.begin h.past k)
MayFollow starts says h (event.Out k r) = (r.cluster ≡ k) × IsTrue (is_at_most r (local h.begin h.past k))
MayFollow starts says h (event.In k v) = IsFalse (is_stopped h.past k) × MayLearn h k v
MayFollow starts says h (event.Sweep k r) = (r.cluster ≡ k) × IsTrue (is_at_most r (published h.begin h.past k))
MayFollow starts says h (event.Bound m t) = MayBound h m t
MayFollow starts says h (event.Checkpoint id v) = (s : ℕ) × (base_of h.past s ≡ Some v) × IsFalse (is_attached h.past s) × IsRunning h s
MayFollow starts says h (event.Attach s id) = IsSome (kept_checkpoint h.past id) × IsFalse (is_attached h.past s) × IsRunning h s
MayFollow starts says h (event.Detach s) = IsFalse (is_attached h.past s) × IsTrue (has_reader h.past s)
MayFollow starts says h (event.Release id) = IsSome (kept_checkpoint h.past id)
MayFollow starts says h (event.Split s path e) = IsTrue (has_login h.past s) × IsTrue (is_split_end e)
MayFollow starts says h (event.Collected s c) = MayCollect h.past s c
MayFollow starts says h (event.Went s kind) = IsTrue (has_login h.past s) × IsFalse (has_left h.past s)
MayFollow starts says h (event.Said s i text) = (i ≡ next_index h.past s) × says h s i text
MayFollow starts says h (event.Stop k) = IsFalse (is_stopped h.past k)
MayFollow starts says h (event.Recover k) = IsTrue (is_stopped h.past k) × IsFalse (is_flying h.past k)

-- a law that lets every edit start
abbrev pub any_start : Starts
any_start h s edit marks = Unit {0}

-- a law that lets every text be said as every reply
abbrev pub any_said : Says
any_said h s i text = Unit {0}

-- what the law owes where an event follows a history
abbrev pub IsLawful : Starts → Says → History → Event → Type 0
IsLawful starts says h (event.Draw d) = starts h d.session d.edit d.marks
IsLawful starts says h (event.Said s i text) = says h s i text
IsLawful starts says h _ = Unit {0}

-- the past is that of a run of these cluster nodes and sessions: it begins properly, and each event
-- may follow the events before it
abbrev pub IsRunOf : Starts → Says → ℕ → List ℕ → Begin → Past → Type 0
IsRunOf starts says clusters sessions begin [] = IsBegun clusters begin
IsRunOf starts says clusters sessions begin (e ∷ past) = MayFollow starts says (record { clusters = clusters; sessions = sessions; begin = begin; past = past }) e × IsRunOf starts says clusters sessions begin past

-- a history is a run: it begins properly, and each event may follow the events before it
abbrev pub IsRun : Starts → Says → History → Type 0
IsRun starts says h = IsRunOf starts says h.clusters h.sessions h.begin h.past

-- one of the cluster nodes
abbrev pub IsNode : ℕ → ℕ → Type 0
IsNode clusters k = (1 ≤ k) × (k ≤ clusters)

-- at most eight cluster nodes, and each session is of one
pub record AreNodes (clusters : ℕ) (sessions : List ℕ) : Type 0 where
  pub eight : clusters ≤ 8
  pub some : 1 ≤ clusters
  pub node : (s k : ℕ) → slice_get sessions s ≡ Some k → IsNode clusters k

-- the cluster node of which an event tells, if any, is one of them
abbrev pub IsOfNode : ℕ → Event → Type 0
IsOfNode clusters (event.Head k v) = IsNode clusters k
IsOfNode clusters (event.Out k r) = IsNode clusters k
IsOfNode clusters (event.In k v) = IsNode clusters k
IsOfNode clusters (event.Sweep k r) = IsNode clusters k
IsOfNode clusters (event.Stop k) = IsNode clusters k
IsOfNode clusters (event.Recover k) = IsNode clusters k
IsOfNode clusters _ = Unit {0}

-- the machine without the law lets the event follow a history of one to eight cluster nodes, of which it is
pub record Follows (h : History) (e : Event) : Type 0 where
  pub nodes : AreNodes h.clusters h.sessions
  pub of_node : IsOfNode h.clusters e
  pub may : MayFollow any_start any_said h e

-- these cluster nodes and sessions ran, and since a history only sessions other than s acted
pub record OnlyOthersActed
    (starts : Starts) (says : Says) (s : ℕ) (h : History) (added : Past) : Type 0 where
  pub nodes : AreNodes h.clusters h.sessions
  pub run : IsRun starts says h
  pub later : IsRun starts says (after added h)
  pub others : AreOthers s added h.past

-- what may start may still start, after events of others
abbrev pub StartsLast : Starts → Says → Type 0
StartsLast starts says = (h : History) (added : Past) (s : ℕ) (edit : Edit) (marks : List MarkAt)
    → OnlyOthersActed starts says s h added
    → starts h s edit marks → starts (after added h) s edit marks

-- what may be said may still be said, after events of others
abbrev pub SaysLast : Starts → Says → Type 0
SaysLast starts says = (h : History) (added : Past) (s i : ℕ) (text : Text)
    → OnlyOthersActed starts says s h added
    → says h s i text → says (after added h) s i text

-- the event is how a split or a collection of s ended
abbrev pub is_task_end : ℕ → Event → Bool
is_task_end s (event.Split t path e) = t == s
is_task_end s (event.Collected t c) = t == s
is_task_end s _ = false

-- what may be said after the end of a split or collection may still be said with events of others
-- before that end
abbrev pub SaysLastBehind : Starts → Says → Type 0
SaysLastBehind starts says = (h : History) (added : Past) (e : Event) (s i : ℕ) (text : Text)
    → OnlyOthersActed starts says s h added → IsTrue (is_task_end s e)
    → IsRun starts says (after (e ∷ []) h) → IsRun starts says (after (e ∷ added) h)
    → says (after (e ∷ []) h) s i text → says (after (e ∷ added) h) s i text
