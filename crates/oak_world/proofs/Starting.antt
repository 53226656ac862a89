-- The world before any step.
use Rattle.jr_path.specs.declared.path.Path.{Path}
use Rattle.std.proofs.Common.{◌≡◌, ℕ, zero, suc, ◌+◌, ◌-◌, ◌≤◌, false, List, [], ◌∷◌, ◌++◌, length, map, Option, Some, None, refl, sym, ap, subst, ◌∙◌, arith}
use Rattle.std.specs.Prelude.{reverse, slice_get, sum_by}
use Rattle.std.specs.List.{range_with_len}
use Rattle.std.specs.Option.{IsSomeAnd}
use Rattle.std.proofs.lemmas.List.FromFn.{map-range_with_len_more}
use Rattle.std.specs.List.Sorted.{IsStrictlySortedBy}
use Rattle.std.proofs.lemmas.List.{length-map}
use Rattle.std.proofs.lemmas.List.Elements.{All-from_recursion}
use Rattle.oak_doc.specs.declared.document.Document.{Document}
use Rattle.oak_doc.specs.declared.document.PrevEntry.{PrevEntry}
use Rattle.oak_machine.specs.Laws.{Asks, Says, Starts}
use Rattle.oak_machine.specs.Runs.{AreNodes}
use Rattle.jr_rev.specs.declared.revision.Revision.{Revision}
use Rattle.jr_rev.specs.Vectors.{Entries, entry, start}
use Rattle.oak_machine.specs.Recorded.{Recorded}
use Rattle.oak_node.specs.Memory.{NodeState, begun}
use Rattle.oak_store.specs.Tables.{AreStored, Table, by_id}
use Rattle.core_nodes.proofs.Events.{start_entry}
use Rattle.core_tidy.specs.Tidying.{AreTidying}
use Rattle.core_tidy.proofs.Whole.{starts_tidy}
use Rattle.core_world.specs.Kept.{IsKept}
use Rattle.core_world.specs.Start.{documents_of_start, start_state, start_table}
use Rattle.core_world.specs.States.{State}
use Rattle.core_world.proofs.Whole.{start_whole}
use Rattle.core_world.proofs.Begun.{start_lists}
use Rattle.core_world.proofs.Named.{start_in_order}
use Rattle.oak_changes.specs.declared.changes.ChangesReader.{ChangesReader}
use Rattle.oak_read.specs.declared.reader.Reader.{Reader}
use Rattle.core_clash.specs.Sessions.{Running}
use Rattle.std.proofs.Math.Path.{fun_ext}
use Rattle.oak_world.specs.declared.actor.Actor.{Actor}
use Rattle.oak_port.specs.Ports.{MayAppend}
use Rattle.oak_step.specs.declared.work.Work.{Work}
use Rattle.oak_step.specs.declared.work.Work.TheVariants as work
use Rattle.oak_tidy.specs.declared.tidying.Tidying.{Tidying}
use Rattle.oak_world.specs.Kept.{ArePlaced, IsAskedWorld, IsPlaced, IsWorld, May, scene}
use Rattle.oak_world.specs.Looks.{AreOnce}
use Rattle.oak_world.specs.Seen.{shown_work}
use Rattle.oak_world.specs.Worlds.{ActorState, WorldOf, actor_in, idle, live, observing_of, reading_of, running_of, shown_actor, shown_world, start_world, state_of, tidying_of, work_in}

-- the seat of a session that does nothing
abbrev pub idle_actor : Actor
idle_actor = record { work = work.Rest; began = 0; reply = None; places = 0; reads = 0; attached = false }

-- ---- documents

stored : (clusters sessions : ℕ) → AreStored (documents_of_start clusters sessions) 4
unfolding IsStrictlySortedBy
stored clusters sessions = record {
  ordered = ((refl, (refl, (refl, tt))), ((refl, (refl, tt)), ((refl, tt), (tt, tt))));
  drawn = All-from_recursion (λ d. d.mod_count ≤ 4) (documents_of_start clusters sessions) (omega arith, (omega arith, (omega arith, (omega arith, tt))));
}

pub start_stored : (ds : List Document) (clusters sessions : ℕ) → ds ≡ documents_of_start clusters sessions → AreStored ds 4
start_stored ds clusters sessions is = subst (λ (xs : List Document). AreStored xs 4) (sym is) (stored clusters sessions)

-- ---- sessions

idle_works : (sessions : List ℕ) (s : ℕ) → work_in (map (λ k. idle) sessions) s ≡ work.Rest
idle_works [] s = refl
idle_works (k ∷ ks) zero = refl
idle_works (k ∷ ks) (suc s) = idle_works ks s

idle_attached : (sessions : List ℕ) (s : ℕ) → (actor_in (map (λ k. idle) sessions) s).attached ≡ false
idle_attached [] s = refl
idle_attached (k ∷ ks) zero = refl
idle_attached (k ∷ ks) (suc s) = idle_attached ks s

start_same : {L : Type 0} (law : L) (clusters : ℕ) (sessions : List ℕ) → state_of (start_world law clusters sessions) ≡ start_state clusters sessions
start_same law clusters sessions =
    ap (λ (f : ℕ → Option Running). record (start_state clusters sessions) { running = f; reading = λ s. reading_of (work_in (map (λ k. idle) sessions) s); observing = λ s. observing_of (work_in (map (λ k. idle) sessions) s) }) (fun_ext (λ s. ap (running_of (start_table clusters (length sessions)) s) (idle_works sessions s)))
    ∙ (ap (λ (f : ℕ → Option Reader). record (start_state clusters sessions) { reading = f; observing = λ s. observing_of (work_in (map (λ k. idle) sessions) s) }) (fun_ext (λ s. ap reading_of (idle_works sessions s)))
    ∙ ap (λ (f : ℕ → Option ChangesReader). record (start_state clusters sessions) { observing = f }) (fun_ext (λ s. ap observing_of (idle_works sessions s))))

pub start_is_world : (starts : Starts) (says : Says) {L : Type 0} (law : L) (clusters : ℕ) (sessions : List ℕ) → length sessions ≤ 64 → AreNodes clusters sessions → IsWorld starts says (start_world law clusters sessions)
start_is_world starts says law clusters sessions few nodes = record {
  formers = λ p k. None;
  kept = subst (λ (t : State). IsKept starts says t) (sym (start_same law clusters sessions)) (start_whole starts says clusters sessions nodes);
  table = start_in_order clusters (length sessions);
  once = λ p. subst AreOnce (sym (ap (λ (f : Path → List PrevEntry). f p) (start_lists clusters (length sessions)))) tt;
  few = few;
  attached = idle_attached sessions;
  unstopped = λ k. refl;
  seats = length-map sessions (λ k. idle);
  may = λ s. subst (λ (v : Work). May starts (scene (start_world law clusters sessions).table (λ p k. None) (live (start_world law clusters sessions).history)) s v) (sym (idle_works sessions s)) tt;
  tidying =
      subst (λ (does : ℕ → Option Tidying). AreTidying (state_of (start_world law clusters sessions)) does) (sym (fun_ext (λ s. ap tidying_of (idle_works sessions s))))
      (subst (λ (t : State). AreTidying t (λ s. None)) (sym (start_same law clusters sessions)) (starts_tidy clusters sessions));
}

-- no event was made, and nothing is done
pub start_is_asked : (asks : Asks) {L : Type 0} (law : L) (clusters : ℕ) (sessions : List ℕ) → IsAskedWorld asks (start_world law clusters sessions)
start_is_asked asks law clusters sessions = record {
  made = tt;
  coming = λ s e may. absurd (subst (λ (v : Work). MayAppend (shown_work v) e) (idle_works sessions s) may);
}

-- ---- places

no_places : (sessions : List ℕ) → sum_by (λ a. a.places) (map (λ k. idle_actor) sessions) ≡ 0
no_places [] = refl
no_places (k ∷ ks) = no_places ks

idle_placed : (sessions : List ℕ) (s : ℕ) (a : Actor) → slice_get (map (λ k. idle_actor) sessions) s ≡ Some a → IsPlaced a
idle_placed [] s a h = cc
idle_placed (k ∷ ks) zero a h = let same : idle_actor ≡ a = cc in subst IsPlaced same (omega arith)
idle_placed (k ∷ ks) (suc s) a h = idle_placed ks s a h

pub start_placed : (sessions : List ℕ) → ArePlaced (map (λ k. idle_actor) sessions) 0
start_placed sessions = record { all = no_places sessions; each = idle_placed sessions }

-- ---- the fields of the start

seen_idle : (sessions : List ℕ) → map shown_actor (map (λ k. idle_actor) sessions) ≡ map (λ k. idle) sessions
seen_idle [] = refl
seen_idle (k ∷ ks) = ap (λ xs. idle ∷ xs) (seen_idle ks)

module _ {L : Type 0} (law : L) (clusters : ℕ) (sessions numbers : List ℕ) (es : Recorded) (t : Table) (ms : List NodeState) (actors : List Actor) (same : numbers ≡ sessions) (none : es ≡ record { list = []; places = 0 })
    (table : t ≡ start_table clusters (length sessions)) (memories : ms ≡ map (λ k. begun k (start clusters)) (range_with_len 1 clusters)) (seats : actors ≡ map (λ k. idle_actor) sessions) where
  abbrev now : WorldOf L
  now = shown_world law (record { clusters = clusters; sessions = numbers; events = es; start = None }) t ms actors

  pub start_is : now ≡ start_world law clusters sessions
  start_is =
      ap (λ (ns : List ℕ). record now { history = record { clusters = clusters; sessions = ns; past = reverse es.list } }) same
      ∙ (ap (λ (e : Recorded). record now { history = record { clusters = clusters; sessions = sessions; past = reverse e.list } }) none
      ∙ (ap (λ (u : Table). record (start_world law clusters sessions) { table = u; memories = ms; actors = map shown_actor actors }) table
      ∙ (ap (λ (ns : List NodeState). record (start_world law clusters sessions) { memories = ns; actors = map shown_actor actors }) memories
      ∙ ap (λ (xs : List ActorState). record (start_world law clusters sessions) { actors = xs }) (ap (map shown_actor) seats ∙ seen_idle sessions))))

  pub start_asks : (asks : Asks) → IsAskedWorld asks now
  start_asks asks = subst (λ (w : WorldOf L). IsAskedWorld asks w) (sym start_is) (start_is_asked asks law clusters sessions)

  pub start_call : (starts : Starts) (says : Says) → length sessions ≤ 64 → AreNodes clusters sessions → IsWorld starts says now × ArePlaced actors es.places
  start_call starts says few nodes = (
    subst (λ (w : WorldOf L). IsWorld starts says w) (sym start_is) (start_is_world starts says law clusters sessions few nodes),
    subst (λ (n : ℕ). ArePlaced actors n) (sym (ap (λ (e : Recorded). e.places) none)) (subst (λ (xs : List Actor). ArePlaced xs 0) (sym seats) (start_placed sessions)),
  )

-- the table of the documents of the start
pub table_is : (t : Table) (ds : List Document) (clusters n m : ℕ) → t ≡ record { documents = by_id ds; number = 4 } → ds ≡ documents_of_start clusters n → n ≡ m → t ≡ start_table clusters m
table_is t ds clusters n m is documents same = is ∙ (ap (λ (xs : List Document). record { documents = by_id xs; number = 4 }) documents ∙ ap (λ (k : ℕ). start_table clusters k) same)

-- ---- the memories of the start

-- each cluster node has its own entry in the start
pub entry_there : (clusters k : ℕ) (v : Entries) → v ≡ start clusters → clusters ≤ 8 → 1 ≤ k → k ≤ clusters → IsSomeAnd (entry v k) (λ own. own.cluster ≡ k)
entry_there clusters k v is eight low high = subst (λ (o : Option Revision). IsSomeAnd o (λ own. own.cluster ≡ k)) (sym (ap (λ (x : Entries). entry x k) is ∙ start_entry clusters k eight (low, high))) refl

-- one memory more
pub begun_more : (clusters k : ℕ) (v : Entries) (xs ys : List NodeState) → 1 ≤ k → xs ≡ map (λ j. begun j (start clusters)) (range_with_len 1 (k - 1)) → v ≡ start clusters → ys ≡ xs ++ begun k v ∷ [] → ys ≡ map (λ j. begun j (start clusters)) (range_with_len 1 (k + 1 - 1))
begun_more clusters k v xs ys low so_far is now =
    let count : k + 1 - 1 ≡ (k - 1) + 1 = omega arith in
    let next : 1 + (k - 1) ≡ k = omega arith in
    now
    ∙ (ap (λ (zs : List NodeState). zs ++ begun k v ∷ []) so_far
    ∙ (ap (λ (x : Entries). map (λ j. begun j (start clusters)) (range_with_len 1 (k - 1)) ++ begun k x ∷ []) is
    ∙ sym (ap (λ (n : ℕ). map (λ j. begun j (start clusters)) (range_with_len 1 n)) count ∙ map-range_with_len_more (λ j. begun j (start clusters)) 1 (k - 1) k next)))
