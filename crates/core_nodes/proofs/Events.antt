-- The memories of a run, event by event.
use Rattle.std.proofs.Common.{◌≡◌, ◌≢◌, ◌↔◌, ℕ, zero, suc, ◌+◌, ◌-◌, ◌<◌, ◌≤◌, ◌&&◌, ◌||◌, Bool, true, false, cond, Option, Some, None, List, [], ◌∷◌, is_some, refl, sym, ap, subst, ◌∙◌, arith}
use Rattle.std.specs.Prelude.{◌==◌, max, nat_le, slice_get, unwrap_or}
use Rattle.std.specs.Option.{option_map_or}
use Rattle.std.specs.List.Sorted.{IsStrictlySortedBy}
use Rattle.std.specs.Map.{keys_of}
use Rattle.std.specs.Ordering.{nat_cmp}
use Rattle.std.proofs.lemmas.Bool.Decides.{nat_tests}
use Rattle.std.specs.Option.{IsSomeAnd, option_map_or}
use Rattle.jr_rev.specs.declared.revision.Revision.{Revision}
use Rattle.jr_rev.specs.declared.vector.Pin.{Pin}
use Rattle.jr_rev.specs.declared.vector.RevVec.{RevVec}
use Rattle.jr_rev.specs.Revisions.{is_before}
use Rattle.jr_rev.specs.Vectors.{entry, own_in, start, start_of, with_entry}
use Rattle.oak_machine.specs.declared.event.Draw.{Draw}
use Rattle.oak_machine.specs.declared.event.Event.{Event}
use Rattle.oak_machine.specs.declared.event.Event.TheVariants as event
use Rattle.oak_machine.specs.declared.event.StepKind.TheVariants as kind
use Rattle.oak_machine.specs.declared.event.Start.{Start}
use Rattle.oak_machine.specs.History.{Begin, IsBegun, IsStart, Past, begin_at, begin_of, has_entry}
use Rattle.oak_machine.specs.Commits.{draw_of, is_drawn, is_ended}
use Rattle.oak_machine.specs.Heads.{head_of, last_draw_time, last_in, local}
use Rattle.oak_machine.specs.Laws.{Says, Starts}
use Rattle.oak_machine.specs.Runs.{AreNodes, IsNode, IsRunOf}
use Rattle.oak_machine.specs.Sessions.{has_left, has_login, is_recovered, is_stopped, is_stopped_under}
use Rattle.oak_node.specs.declared.pending.Note.{Note}
use Rattle.oak_node.specs.Heads.{IsInFlight, finished, latest_time, next_draw, with_draw}
use Rattle.oak_node.specs.Memory.{NodeState, IsMemory, begun, last_draw, own_entry}
use Rattle.oak_node.specs.Notes.{with_note, without_seen}
use Rattle.oak_node.specs.Pins.{pin_now, with_pin}
use Rattle.oak_node.proofs.Changes.{kept_start, own_in_is}
use Rattle.oak_node.proofs.Kept.{drop_memory, pins_memory, start_memory, start_own}
use Rattle.oak_node.proofs.Noting.{noting_memory}
use Rattle.oak_node.proofs.Owns.{with_entry_same}
use Rattle.core_read.proofs.Latest.{at_most_both, before_itself, not_before}
use Rattle.core_heads.specs.Sound.{IsSound}
use mathlib.Core.Bool.{false≢true}
use Rattle.std.proofs.lemmas.Option.{get_or_from_slice_get}
use Rattle.std.proofs.lemmas.List.Sums.{AllPass-from_list_all}
use Rattle.core_heads.proofs.AtStart.{begin_begun, begin_cluster, begin_vector}
use Rattle.core_heads.proofs.Below.{stands_at}
use Rattle.core_heads.proofs.Entries.{entry_at, flat, lower, numbered}
use Rattle.core_heads.proofs.Later.{IsLater}
use Rattle.core_heads.proofs.Locals.{some_of}
use Rattle.core_heads.proofs.Orders.{and_both, not_both, same_itself}
use Rattle.core_heads.proofs.Runs.{fresh_run, sound_run}
use Rattle.core_heads.proofs.Steps.{later_draw, later_end}
use Rattle.core_nodes.specs.Nodes.{ArePinsOf, IsMemoryOf, cursor_owner, is_of_node, leaves_memory, without_session}
use Rattle.core_nodes.proofs.Memories.{draw_apart, draw_kept, end_apart, end_kept, head_entry, in_apart, own_is}
use Rattle.core_nodes.proofs.Pasts.{ended_was_drawn, not_true, running_alive}
use Rattle.core_nodes.proofs.Pins.{end_base, left_had_login, login_base, pins_put, pins_taken, refresh_base}
use Rattle.core_nodes.proofs.Waits.{flying_is}

-- ---- the start

pub start_entry : (clusters k : ℕ) → clusters ≤ 8 → IsNode clusters k → entry (start clusters) k ≡ Some (start_of k)
start_entry clusters k eight node = by k node.0 node.1
  where
    one : (j : ℕ) → j ≤ clusters → cond (nat_le j clusters) (Some (start_of j)) None ≡ Some (start_of j)
    one j h = let t : nat_le j clusters ≡ true = grind (arith, nat_tests) in ap (λ b. cond b (Some (start_of j)) None) t

    by : (j : ℕ) → 1 ≤ j → j ≤ clusters → entry (start clusters) j ≡ Some (start_of j)
    by zero low high = absurd (omega arith)
    by (suc zero) low high = one 1 high
    by (suc (suc zero)) low high = one 2 high
    by (suc (suc (suc zero))) low high = one 3 high
    by (suc (suc (suc (suc zero)))) low high = one 4 high
    by (suc (suc (suc (suc (suc zero))))) low high = one 5 high
    by (suc (suc (suc (suc (suc (suc zero)))))) low high = one 6 high
    by (suc (suc (suc (suc (suc (suc (suc zero))))))) low high = one 7 high
    by (suc (suc (suc (suc (suc (suc (suc (suc zero)))))))) low high = one 8 high
    by (suc (suc (suc (suc (suc (suc (suc (suc (suc j))))))))) low high = absurd (omega arith)

module _ (begin : Begin) where
  module _ (clusters : ℕ) (s : Start) (is : IsStart clusters s) where
    -- a start has an entry for each node
    start_has : (i : ℕ) → i < 8 → has_entry (nat_le (suc i) clusters) (entry s.at (suc i)) ≡ true
    start_has i low =
        let ks : List ℕ = 1 ∷ 2 ∷ 3 ∷ 4 ∷ 5 ∷ 6 ∷ 7 ∷ 8 ∷ [] in
        subst (λ (j : ℕ). has_entry (nat_le j clusters) (entry s.at j) ≡ true) (get_or_from_slice_get ks i (suc i) 0 (numbered i low)) (AllPass-from_list_all (λ j. has_entry (nat_le j clusters) (entry s.at j)) ks is.nodes i 0 low)

    none_there : (b : Bool) → b ≡ true → has_entry b None ≡ true → false ≡ true
    none_there true t h = h
    none_there false t h = t

    -- and it is of that node
    own_entry_is : (i : ℕ) → i < 8 → suc i ≤ clusters → entry s.at (suc i) ≡ Some (own_in (suc i) s.at)
    own_entry_is i low high = by (entry s.at (suc i)) refl
      where
        by : (o : Option Revision) → entry s.at (suc i) ≡ o → entry s.at (suc i) ≡ Some (own_in (suc i) s.at)
        by None e = absurd (false≢true (none_there (nat_le (suc i) clusters) (lower (suc i) clusters high) (subst (λ (o : Option Revision). has_entry (nat_le (suc i) clusters) o ≡ true) e (start_has i low))))
        by (Some r) e =
            let c : r.cluster ≡ 1 + i = stands_at s.at 1 i r is.vector.stands (flat (slice_get s.at i) r (sym (entry_at s.at i) ∙ e)) in
            let d : r.cluster ≡ suc i = omega arith in
            e ∙ (ap (λ (n : ℕ). Some (record r { cluster = n })) d ∙ sym (ap (λ (o : Option Revision). Some (option_map_or {T = Revision} (λ q. record q { cluster = suc i }) o (start_of (suc i)))) e))

    start_has_own : clusters ≤ 8 → (k : ℕ) → IsNode clusters k → entry s.at k ≡ Some (own_in k s.at)
    start_has_own eight k node = at k node.0 node.1
      where
        at : (k : ℕ) → 1 ≤ k → k ≤ clusters → entry s.at k ≡ Some (own_in k s.at)
        at zero low high = absurd (omega arith)
        at (suc i) low high = own_entry_is i (omega arith) high

  -- what the vector at the beginning has of a node
  begin_entry : (clusters k : ℕ) → clusters ≤ 8 → IsBegun clusters begin → IsNode clusters k → entry (begin_at clusters begin) k ≡ Some (begin_of begin k)
  begin_entry clusters k eight begun node = by begin begun
    where
      by : (b : Begin) → IsBegun clusters b → entry (begin_at clusters b) k ≡ Some (begin_of b k)
      by None is = start_entry clusters k eight node
      by (Some s) is = start_has_own clusters s is eight k node

  pub begun_is : (clusters : ℕ) (sessions : List ℕ) → AreNodes clusters sessions → IsBegun clusters begin → (k : ℕ) → IsNode clusters k → IsMemoryOf begin clusters [] k (begun k (begin_at clusters begin))
  begun_is clusters sessions nodes begins k node =
      let there = begin_entry clusters k nodes.eight begins node in
      let n = nodes.eight in
      let m = node.1 in
      let v = begin_vector clusters begin begins in
      let has : IsSomeAnd (entry (begin_at clusters begin) k) (λ e. e.cluster ≡ k) = subst (λ (o : Option Revision). IsSomeAnd o (λ e. e.cluster ≡ k)) (sym there) (begin_cluster begin k) in
      record {
        cluster = refl;
        head = sym (with_entry_same (begin_at clusters begin) k (begin_of begin k) there (begin_cluster begin k));
        sweep = record { vector = v; begun = begin_begun clusters begin begins nodes.some; below = λ x h. h };
        last = refl;
        above = refl;
        stopped = refl;
        recovered = refl;
        memory = start_memory (begun k (begin_at clusters begin)) node.0 (omega arith) has refl refl (kept_start _ _ _ [] (own_in_is k (begin_at clusters begin) has) (start_own (entry (begin_at clusters begin) k) k has).1 refl) (λ h. h);
      }

  pub begun_pins : (clusters : ℕ) (sessions : List ℕ) (k : ℕ) → ArePinsOf sessions [] k (begun k (begin_at clusters begin))
  begun_pins clusters sessions k = record { bases = λ owner. by (is_some (slice_get sessions owner)) (is_of_node sessions k owner) (nat_le 64 owner && is_of_node sessions k (owner - 64)); pairs = λ owner pin h. absurd (false≢true (ap is_some h)) }
    where
      by : (a b c : Bool) → None ≡ cond {A = Option RevVec} a (cond b None None) (cond c None None)
      by true true c = refl
      by true false c = refl
      by false b true = refl
      by false b false = refl

  -- ---- what touches no head

  -- the revision that the node draws next
  pub next_is : (clusters : ℕ) (past : Past) (k : ℕ) (s : NodeState) → IsMemoryOf begin clusters past k s → next_draw s ≡ Rattle.oak_machine.specs.Heads.drawn_next clusters begin past k
  next_is clusters past k s is =
      ap (λ (v : RevVec). record { time = max (latest_time v) s.last_time + 1; counter = 0; cluster = s.cluster }) is.head
      ∙ (ap (λ (t : ℕ). record { time = max (latest_time (head_of clusters begin past k)) t + 1; counter = 0; cluster = s.cluster }) is.last
      ∙ ap (λ (j : ℕ). record { time = max (latest_time (head_of clusters begin past k)) (last_draw_time past k) + 1; counter = 0; cluster = j }) is.cluster)

  pub pins_kept : (clusters : ℕ) (past : Past) (k : ℕ) (s : NodeState) (pins : List (ℕ × Pin)) → IsMemoryOf begin clusters past k s → IsStrictlySortedBy nat_cmp (keys_of pins) → IsMemoryOf begin clusters past k (record s { pins = pins })
  pins_kept clusters past k s pins is sorted = record {
    cluster = is.cluster;
    head = is.head;
    sweep = is.sweep;
    last = is.last;
    above = is.above;
    stopped = is.stopped;
    recovered = is.recovered;
    memory = pins_memory s pins pins is.memory refl sorted;
  }

  -- the same memory, but for what it noted
  same_memory : (clusters : ℕ) (past : Past) (k : ℕ) (s : NodeState) (notes changed : List Note) (since : Revision) → IsMemoryOf begin clusters past k s → IsMemory (record s { notes = notes; since = since; changed = changed }) → IsMemoryOf begin clusters past k (record s { notes = notes; since = since; changed = changed })
  same_memory clusters past k s notes changed since is memory = record {
    cluster = is.cluster;
    head = is.head;
    sweep = is.sweep;
    last = is.last;
    above = is.above;
    stopped = is.stopped;
    recovered = is.recovered;
    memory = memory;
  }

  pub note_kept : (clusters : ℕ) (past : Past) (k : ℕ) (s : NodeState) (path : List (List ℕ)) (r : Revision) → r ≡ last_draw s → IsMemoryOf begin clusters past k s → IsMemoryOf begin clusters past k (with_note s path r)
  note_kept clusters past k s path r last is =
      same_memory clusters past k s (with_note s path r).notes (with_note s path r).changed s.since is
      (noting_memory s r (path ∷ []) (with_note s path r).notes (with_note s path r).changed is.memory last refl)

  pub drop_kept : (clusters : ℕ) (past : Past) (k : ℕ) (s : NodeState) → IsMemoryOf begin clusters past k s → IsMemoryOf begin clusters past k (without_seen s)
  drop_kept clusters past k s is =
      same_memory clusters past k s (without_seen s).notes (without_seen s).changed (without_seen s).since is
      (drop_memory s (without_seen s).notes (without_seen s).changed (without_seen s).since is.memory refl refl)

  -- ---- a run

  module _ (starts : Starts) (says : Says) (clusters : ℕ) (sessions : List ℕ) (nodes : AreNodes clusters sessions) where
    module _ (d : Draw) (past : Past) (run : IsRunOf starts says clusters sessions begin (event.Draw d ∷ past)) where
      drawn_node : IsNode clusters d.revision.cluster
      drawn_node = nodes.node d.session d.revision.cluster run.0.cluster

      drawn_later : IsLater clusters begin past (event.Draw d ∷ past)
      drawn_later = later_draw clusters sessions nodes begin past (sound_run clusters sessions nodes begin starts says past run.1) d drawn_node run.0.next

      drawn_open : is_ended past d.revision ≡ false
      drawn_open = by (is_ended past d.revision) refl
        where
          undrawn : is_drawn past d.revision ≡ false
          undrawn = ap (λ (o : Option Draw). is_some o) (fresh_run clusters sessions nodes begin starts says d past run).fresh

          by : (b : Bool) → is_ended past d.revision ≡ b → b ≡ false
          by true h = not_both (is_drawn past d.revision) (ended_was_drawn begin starts says clusters sessions past run.1 d.revision h) undrawn
          by false h = refl

      -- the node that draws
      pub draw_run : (s : NodeState) → IsMemoryOf begin clusters past d.revision.cluster s → IsMemoryOf begin clusters (event.Draw d ∷ past) d.revision.cluster (with_draw s (next_draw s))
      draw_run s is =
          let next : d.revision ≡ next_draw s = run.0.next ∙ sym (next_is clusters past d.revision.cluster s is) in
          subst (λ (r : Revision). IsMemoryOf begin clusters (event.Draw d ∷ past) d.revision.cluster (with_draw s r)) next
          (draw_kept begin clusters sessions nodes past (sound_run clusters sessions nodes begin starts says past run.1) d drawn_node drawn_later drawn_open s is next)

    -- the node of a drawn revision
    pub node_of : (past : Past) (r : Revision) → IsRunOf starts says clusters sessions begin past → is_drawn past r ≡ true → IsNode clusters r.cluster
    node_of past r run drawn = let d = some_of (draw_of past r) drawn in ((sound_run clusters sessions nodes begin starts says past run).draws r d.0 d.1).node

    module _ (r : Revision) (past : Past) (run : IsRunOf starts says clusters sessions begin (event.End r ∷ past)) where
      ended_sound : IsSound clusters sessions begin past
      ended_sound = sound_run clusters sessions nodes begin starts says past run.1

      ended_node : IsNode clusters r.cluster
      ended_node = node_of past r run.1 (and_both (is_drawn past r) _ run.0).0

      -- the node whose revision ends
      pub end_run : (s : NodeState) → IsMemoryOf begin clusters past r.cluster s → IsMemoryOf begin clusters (event.End r ∷ past) r.cluster (finished s r)
      end_run s is = end_kept begin clusters sessions nodes past ended_sound r r.cluster ended_node s is

      pub end_flies : (s : NodeState) → IsMemoryOf begin clusters past r.cluster s → IsInFlight s r
      end_flies s is = (flying_is begin clusters sessions nodes past ended_sound r.cluster ended_node s is r).1 (refl, run.0)

      -- its head moves where its own entry rises
      pub moved_run : (s : NodeState) → IsMemoryOf begin clusters past r.cluster s → (is_before (own_entry s) (own_entry (finished s r)) ≡ true) ↔ (head_of clusters begin past r.cluster ≢ head_of clusters begin (event.End r ∷ past) r.cluster)
      moved_run s is = (
        λ h same. not_both (is_before (local begin past k) (local begin past k)) (subst (λ (x : Revision). is_before (local begin past k) x ≡ true) (sym (entries same)) (sym rises ∙ h)) (before_itself (local begin past k)),
        λ moved. rises ∙ by moved (is_before (local begin past k) (local begin later k)) refl,
      )
        where
          k : ℕ
          k = r.cluster

          later : Past
          later = event.End r ∷ past

          rises : is_before (own_entry s) (own_entry (finished s r)) ≡ is_before (local begin past k) (local begin later k)
          rises =
              ap (λ e. is_before e (own_entry (finished s r))) (own_is begin clusters sessions nodes past ended_sound k ended_node s is)
              ∙ ap (is_before (local begin past k)) (own_is begin clusters sessions nodes later (sound_run clusters sessions nodes begin starts says later run) k ended_node (finished s r) (end_run s is))

          entries : head_of clusters begin past k ≡ head_of clusters begin later k → local begin past k ≡ local begin later k
          entries same =
              ap (λ o. unwrap_or o (local begin past k))
              (sym (head_entry begin clusters sessions nodes past ended_sound k ended_node)
              ∙ (ap (λ (v : RevVec). entry v k) same
              ∙ head_entry begin clusters sessions nodes later (sound_run clusters sessions nodes begin starts says later run) k ended_node))

          by : (head_of clusters begin past k ≢ head_of clusters begin later k) → (b : Bool) → is_before (local begin past k) (local begin later k) ≡ b → b ≡ true
          by moved true e = refl
          by moved false e = absurd (moved (ap (with_entry (last_in clusters begin past k)) (at_most_both (local begin past k) (local begin later k) ((later_end clusters sessions nodes begin past ended_sound r).locals k) (not_before (local begin past k) (local begin later k) e))))

    -- an event that leaves a memory
    pub apart_run : (e : Event) (past : Past) (k : ℕ) (s : NodeState) → IsRunOf starts says clusters sessions begin (e ∷ past) → leaves_memory k e ≡ true → IsMemoryOf begin clusters past k s → IsMemoryOf begin clusters (e ∷ past) k s
    apart_run (event.Draw d) past k s run h is = draw_apart begin clusters sessions nodes past (sound_run clusters sessions nodes begin starts says past run.1) d (drawn_node d past run) (drawn_later d past run) (drawn_open d past run) k s (not_true (d.revision.cluster == k) h) is
    apart_run (event.End r) past k s run h is = end_apart begin clusters sessions nodes past (sound_run clusters sessions nodes begin starts says past run.1) r k s (λ same. not_both (k == k) (same_itself k) (subst (λ (j : ℕ). (j == k) ≡ false) same (not_true (r.cluster == k) h))) is
    apart_run (event.In m v) past k s run h is = in_apart begin clusters sessions nodes past (sound_run clusters sessions nodes begin starts says past run.1) m v k s (not_true (m == k) h) is
    apart_run (event.Stop m) past k s run h is = record {
      cluster = is.cluster;
      head = is.head;
      sweep = is.sweep;
      last = is.last;
      above = is.above;
      stopped = is.stopped ∙ sym (ap (λ b. b || is_stopped past k) (not_true (m == k) h));
      recovered = is.recovered;
      memory = is.memory;
    }
    apart_run (event.Recover m) past k s run h is = record {
      cluster = is.cluster;
      head = is.head;
      sweep = is.sweep;
      last = is.last;
      above = is.above;
      stopped = is.stopped;
      recovered = is.recovered ∙ sym (ap (λ b. b || is_recovered past k) (not_true (m == k) h));
      memory = is.memory;
    }
    apart_run e past k s run h is = record { cluster = is.cluster; head = is.head; sweep = is.sweep; last = is.last; above = is.above; stopped = is.stopped; recovered = is.recovered; memory = is.memory }

    -- ---- pins

    pub stays : (past : Past) (s : ℕ) → IsRunOf starts says clusters sessions begin past → has_login past s ≡ false → has_left past s ≡ false
    stays past s run new = by (has_left past s) refl
      where
        by : (b : Bool) → has_left past s ≡ b → b ≡ false
        by true h = not_both (has_login past s) (left_had_login begin starts says clusters sessions past run s h) new
        by false h = refl

    module _ (past : Past) (k : ℕ) (s : NodeState) (is : IsMemoryOf begin clusters past k s) (are : ArePinsOf sessions past k s) (t : ℕ) where
      -- the vector is the head of the session's node
      head_for : (v : RevVec) (j : ℕ) → slice_get sessions t ≡ Some k → slice_get sessions t ≡ Some j → v ≡ head_of clusters begin past j → v ≡ head_of clusters begin past k
      head_for v j of on head = head ∙ ap (head_of clusters begin past) (ap (λ o. unwrap_or o j) (sym on ∙ of))

      -- the node of a session that goes on isn't recovered
      alive : IsRunOf starts says clusters sessions begin past → slice_get sessions t ≡ Some k → is_stopped_under sessions past t ≡ false → is_recovered past k ≡ false
      alive run of goes = running_alive begin starts says clusters sessions past run k (sym (ap (λ o. option_map_or (is_stopped past) o false) of) ∙ goes)

      pub login_run : (v : RevVec) → IsRunOf starts says clusters sessions begin (event.Login t v ∷ past) → slice_get sessions t ≡ Some k → ArePinsOf sessions (event.Login t v ∷ past) k (with_pin s t (pin_now s))
      login_run v run of =
          let here : is_recovered past k ≡ false = alive run.1 of run.0.running in
          pins_put sessions past k s are (event.Login t v) t (pin_now s) here here refl (λ q. refl) of
          (login_base past t v (stays past t run.1 run.0.first) ∙ ap Some (head_for v run.0.head.0 of run.0.head.1 run.0.head.2 ∙ sym is.head))
          is.sweep

      pub refresh_run : (v : RevVec) → IsRunOf starts says clusters sessions begin (event.Refresh t v ∷ past) → slice_get sessions t ≡ Some k → has_left past t ≡ false → ArePinsOf sessions (event.Refresh t v ∷ past) k (with_pin s t (pin_now s))
      refresh_run v run of here =
          let kept : is_recovered past k ≡ false = alive run.1 of run.0.running in
          pins_put sessions past k s are (event.Refresh t v) t (pin_now s) kept kept refl (λ q. refl) of
          (refresh_base past t v run.0.login here ∙ ap Some (head_for v run.0.head.0 of run.0.head.1 run.0.head.2 ∙ sym is.head))
          is.sweep

  -- a session that leaves has no pin, nor has its cursor
  pub leave_run : (clusters : ℕ) (sessions : List ℕ) (past : Past) (k : ℕ) (s : NodeState) → IsMemoryOf begin clusters past k s → ArePinsOf sessions past k s → (t : ℕ) → slice_get sessions t ≡ Some k → slice_get sessions (cursor_owner t) ≡ None → ArePinsOf sessions (event.Went t kind.End ∷ past) k (without_session s t)
  leave_run clusters sessions past k s is are t of none = pins_taken sessions past k s are t is.memory.owners of none (end_base past t)
