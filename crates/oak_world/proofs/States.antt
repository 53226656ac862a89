-- The state of a world in which one session has taken a step.
use Rattle.std.proofs.Common.{◌≡◌, ℕ, zero, suc, ◌<◌, ◌-◌, Bool, true, false, cond, Option, None, List, [], ◌∷◌, ◌++◌, length, refl, sym, ap, subst, ◌∙◌}
use Rattle.std.proofs.Math.ListN.{get_or}
use Rattle.std.proofs.lemmas.List.{get_or-set_same, get_or-set_other, reverse-append, reverse-reverse}
use Rattle.std.proofs.lemmas.Option.{unwrap_or-slice_get}
use Rattle.std.specs.Prelude.{◌==◌, reverse, slice_set}
use Rattle.std.proofs.Math.Path.{fun_ext}
use Rattle.oak_changes.specs.declared.changes.ChangesReader.{ChangesReader}
use Rattle.oak_machine.specs.declared.event.Event.{Event}
use Rattle.oak_machine.specs.History.{Past}
use Rattle.oak_node.specs.Memory.{NodeState}
use Rattle.oak_read.specs.declared.reader.Reader.{Reader}
use Rattle.oak_store.specs.Tables.{Table}
use Rattle.core_clash.specs.Sessions.{Running}
use Rattle.core_world.specs.States.{State, memory_at, with_memory, with_session}
use Rattle.core_world.proofs.Flights.{other_number, same_number}
use Rattle.oak_step.specs.declared.work.Work.{Work}
use Rattle.oak_saves.specs.Saves.{Parts}
use Rattle.oak_world.specs.Worlds.{ActorState, WorldOf, actor_in, idle, node_in, observing_of, parts_at, reading_of, running_of, state_of, with_parts, with_reply, work_in}

-- ---- the journal

-- an event at the end is the newest
pub newest : (past : Past) (e : Event) → reverse (reverse past ++ e ∷ []) ≡ e ∷ past
newest past e = reverse-append (reverse past) (e ∷ []) ∙ ap (λ (q : Past). e ∷ q) (reverse-reverse past)

-- ---- what sessions do

pub actor_read : (actors : List ActorState) (s : ℕ) → actor_in actors s ≡ get_or actors s idle
actor_read actors s = unwrap_or-slice_get actors s idle

pub actor_set : (actors : List ActorState) (s : ℕ) (a : ActorState) → s < length actors → actor_in (slice_set actors s a) s ≡ a
actor_set actors s a there = actor_read (slice_set actors s a) s ∙ get_or-set_same actors s a idle there

pub actor_other : (actors : List ActorState) (s : ℕ) (a : ActorState) (q : ℕ) → (q == s) ≡ false → actor_in (slice_set actors s a) q ≡ actor_in actors q
actor_other actors s a q apart = actor_read (slice_set actors s a) q ∙ (get_or-set_other actors s q a idle (other_number q s apart) ∙ sym (actor_read actors q))

-- what is read of each session, where one does something else now
pub session_set : {X : Type 0} (read : ℕ → Work → Option X) (actors : List ActorState) (s : ℕ) (a : ActorState) → s < length actors
    → (λ q. read q (work_in (slice_set actors s a) q)) ≡ with_session (λ q. read q (work_in actors q)) s (read s a.work)
session_set read actors s a there = fun_ext (λ q. by q (q == s) refl)
  where
    by : (q : ℕ) (b : Bool) → (q == s) ≡ b → read q (work_in (slice_set actors s a) q) ≡ cond b (read s a.work) (read q (work_in actors q))
    by q true same = subst (λ n. read n (work_in (slice_set actors s a) n) ≡ read s a.work) (sym (same_number q s same)) (ap (λ (x : ActorState). read s x.work) (actor_set actors s a there))
    by q false apart = ap (λ (x : ActorState). read q x.work) (actor_other actors s a q apart)

-- what a session has already may be given to it
pub session_same : {X : Type 0} (has : ℕ → Option X) (s : ℕ) (x : Option X) → has s ≡ x → with_session has s x ≡ has
session_same has s x same = fun_ext (λ q. by q (q == s) refl)
  where
    by : (q : ℕ) (b : Bool) → (q == s) ≡ b → cond b x (has q) ≡ has q
    by q true is = sym (ap has (same_number q s is) ∙ same)
    by q false apart = refl

-- ---- memories

-- a memory that is there already may be set
pub memory_same : (ms : List NodeState) (k : ℕ) → with_memory ms k (memory_at ms k) ≡ ms
memory_same ms k = rw (unwrap_or-slice_get ms (k - 1) _) (set_own ms (k - 1) _)
  where
    set_own : (xs : List NodeState) (i : ℕ) (d : NodeState) → slice_set xs i (get_or xs i d) ≡ xs
    set_own [] i d = refl
    set_own (x ∷ xs) zero d = refl
    set_own (x ∷ xs) (suc i) d = ap (λ (ys : List NodeState). x ∷ ys) (set_own xs i d)

-- ---- the state

-- a session has the readers where it does the one that it has where it does the other
abbrev pub SameReaders : Work → Work → Type 0
SameReaders v y = (reading_of v ≡ reading_of y) × (observing_of v ≡ observing_of y)

pub same_readers : (u v x y : Work) → u ≡ x → v ≡ y → SameReaders x y → SameReaders u v
same_readers u v x y is are same = (ap reading_of is ∙ (same.0 ∙ sym (ap reading_of are)), ap observing_of is ∙ (same.1 ∙ sym (ap observing_of are)))

module _ {L : Type 0} (w : WorldOf L) (s : ℕ) (there : s < length w.actors) where
  -- the state with the readers of a session that does this
  abbrev pub with_readers : State → Work → State
  with_readers t v = record t { reading = with_session (state_of w).reading s (reading_of v); observing = with_session (state_of w).observing s (observing_of v) }

  -- with the readers that the session has already
  pub readers_same : (t : State) (v : Work) → SameReaders (work_in w.actors s) v → with_readers t v ≡ record t { reading = (state_of w).reading; observing = (state_of w).observing }
  readers_same t v same =
      ap (λ (f : ℕ → Option Reader). record t { reading = f; observing = with_session (state_of w).observing s (observing_of v) }) (session_same (state_of w).reading s (reading_of v) same.0)
      ∙ ap (λ (f : ℕ → Option ChangesReader). record t { reading = (state_of w).reading; observing = f }) (session_same (state_of w).observing s (observing_of v) same.1)

  -- the readers, where the session does something else
  pub readers_set : (t : State) (a : ActorState) → record t { reading = λ q. reading_of (work_in (slice_set w.actors s a) q); observing = λ q. observing_of (work_in (slice_set w.actors s a) q) } ≡ with_readers t a.work
  readers_set t a =
      ap (λ (f : ℕ → Option Reader). record t { reading = f; observing = λ q. observing_of (work_in (slice_set w.actors s a) q) }) (session_set (λ q v. reading_of v) w.actors s a there)
      ∙ ap (λ (f : ℕ → Option ChangesReader). record t { reading = with_session (state_of w).reading s (reading_of a.work); observing = f }) (session_set (λ q v. observing_of v) w.actors s a there)

  -- the state with these parts, where session s has this committer, and the readers of what it does
  abbrev pub moved : Past → Table → NodeState → Option Running → Work → State
  moved past table m x v = record {
    clusters = w.history.clusters;
    sessions = w.history.sessions;
    begin = None;
    past = past;
    table = table;
    memories = with_memory w.memories (node_in w.history s) m;
    running = with_session (state_of w).running s x;
    reading = with_session (state_of w).reading s (reading_of v);
    observing = with_session (state_of w).observing s (observing_of v);
    formers = (state_of w).formers;
  }

  -- over other documents the committers of the sessions stand as they stood
  abbrev pub LeavesLooks : Table → Type 0
  LeavesLooks t = (q : ℕ) → running_of t q (work_in w.actors q) ≡ running_of w.table q (work_in w.actors q)

  pub moved_is : (p : Parts) (a : ActorState) → LeavesLooks p.table → state_of (with_parts w s p a) ≡ moved (reverse p.list) p.table p.memory (running_of p.table s a.work) a.work
  moved_is p a leaves =
      ap (λ (f : ℕ → Option Running). record (state_of (with_parts w s p a)) { running = f })
      (session_set (running_of p.table) w.actors s a there
      ∙ ap (λ (f : ℕ → Option Running). with_session f s (running_of p.table s a.work)) (fun_ext leaves))
      ∙ readers_set (moved (reverse p.list) p.table p.memory (running_of p.table s a.work) a.work) a

  -- room for a reply changes neither the state nor what the session does
  pub replied_state : (room : Option ℕ) → state_of (with_reply w s room) ≡ state_of w
  replied_state room =
      ap (λ (f : ℕ → Option Running). record (state_of (with_reply w s room)) { running = f }) (session_set (running_of w.table) w.actors s (record (actor_in w.actors s) { reply = room }) there ∙ session_same (state_of w).running s (running_of w.table s (work_in w.actors s)) refl)
      ∙ (readers_set (state_of w) (record (actor_in w.actors s) { reply = room })
      ∙ readers_same (state_of w) (work_in w.actors s) (refl, refl))

  pub replied_work : (room : Option ℕ) → work_in (with_reply w s room).actors s ≡ work_in w.actors s
  replied_work room = ap (λ (a : ActorState). a.work) (actor_set w.actors s (record (actor_in w.actors s) { reply = room }) there)

  -- what the session did not have, it has not
  pub quiet_is : (past : Past) (table : Table) (m : NodeState) (x : Option Running) (v : Work) → running_of w.table s (work_in w.actors s) ≡ x → SameReaders (work_in w.actors s) v
      → moved past table m x v ≡ record (state_of w) { past = past; table = table; memories = with_memory w.memories (node_in w.history s) m }
  quiet_is past table m x v running same =
      ap (λ (f : ℕ → Option Running). record (moved past table m x v) { running = f }) (session_same (state_of w).running s x running)
      ∙ readers_same (record (state_of w) { past = past; table = table; memories = with_memory w.memories (node_in w.history s) m }) v same

  -- nothing is changed but what the session does
  pub rest_is : (a : ActorState) → state_of (with_parts w s (parts_at w s) a) ≡ with_readers (record (state_of w) { running = with_session (state_of w).running s (running_of w.table s a.work) }) a.work
  rest_is a =
      moved_is (parts_at w s) a (λ q. refl)
      ∙ ap (λ (past : Past). moved past w.table (memory_at w.memories (node_in w.history s)) (running_of w.table s a.work) a.work) (reverse-reverse w.history.past)
      ∙ ap (λ (ms : List NodeState). record (moved w.history.past w.table (memory_at w.memories (node_in w.history s)) (running_of w.table s a.work) a.work) { memories = ms }) (memory_same w.memories (node_in w.history s))
