-- Each step of a world lets what is held rise; and a bound that is at most what is held may be taken.
use Rattle.core_clash.specs.Collecting.{MayBoundCore as MayBoundBases}
use Rattle.std.proofs.Common.{inl, inr, ◌||◌, true, false, Bool, refl}
use Rattle.core_keep.specs.Journal.{is_bounded, is_swept}
use Rattle.core_keep.specs.Holding.{IsPairBelow}
use Rattle.core_clash.proofs.Basics.{or_cases}
use Rattle.core_watch.proofs.GoingOn.{on_event}
use Rattle.core_watch.proofs.Lasting.{reading_lasts}
use Rattle.core_watch.proofs.StayingOn.{formers_event}
use Rattle.core_world.specs.Held.{MayTakeBound}
use Rattle.core_world.specs.Kept.{has_written, IsAboveBounds, IsBetweenPins}
use Rattle.core_heads.proofs.Below.{below_seen}
use Rattle.jr_rev.specs.Vectors.{sees}
use Rattle.std.proofs.Common.{◌≡◌, ℕ, cond, Some, None, Option, Result, Ok, Err, List, [], ◌∷◌, ◌++◌, is_some, ap, subst, ◌∙◌}
use Rattle.std.specs.Prelude.{IsSome, slice_get}
use Rattle.std.specs.BTreeMap.{is_at}
use Rattle.std.specs.Map.{lookup, values_of}
use Rattle.std.specs.Option.{unwrap_or}
use Rattle.std.specs.Ordering.{eq_by_cmp}
use mathlib.Core.Bool.{false≢true}
use Rattle.jr_path.specs.declared.path.DocId.TheVariants as id
use Rattle.jr_path.specs.declared.path.Path.{Path}
use Rattle.jr_path.specs.Lists.{Text}
use Rattle.jr_path.specs.Names.{name_cmp, path_cmp}
use Rattle.jr_rev.specs.declared.revision.Revision.{Revision}
use Rattle.jr_rev.specs.declared.vector.Pin.{Pin}
use Rattle.jr_rev.specs.declared.vector.RevVec.{RevVec}
use Rattle.jr_rev.specs.Revisions.{is_at_most, is_before}
use Rattle.jr_rev.specs.Vectors.{is_below}
use Rattle.jr_tree.specs.declared.edit.Edit.{Edit}
use Rattle.oak_clash.specs.Clashes.{commit_root, marked_paths}
use Rattle.oak_clash.specs.declared.mark.MarkAt.{MarkAt}
use Rattle.oak_commit.specs.Clashing.{Met, mark_op}
use Rattle.oak_commit.specs.Writing.{last_op, write_op}
use Rattle.oak_doc.specs.declared.document.Document.{Document}
use Rattle.oak_doc.specs.declared.update.Change.TheVariants as change
use Rattle.oak_doc.specs.declared.update.OpFault.{OpFault}
use Rattle.oak_doc.specs.declared.update.OpFault.TheVariants as fault
use Rattle.oak_doc.specs.declared.update.Kept.TheVariants as keeps
use Rattle.oak_doc.specs.declared.update.UpdateOp.{UpdateOp}
use Rattle.oak_doc.specs.Updates.{updated}
use Rattle.oak_machine.specs.declared.event.Event.{Event}
use Rattle.oak_machine.specs.declared.event.Event.TheVariants as event
use Rattle.oak_machine.specs.declared.event.StepKind.{StepKind}
use Rattle.oak_machine.specs.declared.event.StepKind.TheVariants as kind
use Rattle.oak_machine.specs.Heads.{head_of, local, published}
use Rattle.oak_machine.specs.History.{Past}
use Rattle.oak_machine.specs.Laws.{Says, Starts, StartsProper}
use Rattle.oak_machine.specs.Runs.{IsNode, MayBound, MayFollow, is_task_end}
use Rattle.oak_machine.specs.Sessions.{has_left, has_login, has_reader, is_attached, is_recovered, is_stopped_under, kept_checkpoint, next_index}
use Rattle.oak_machine.specs.Steps.{is_kind}
use Rattle.oak_node.specs.Heads.{finished, learned}
use Rattle.oak_node.specs.Memory.{own_entry}
use Rattle.oak_node.specs.Pins.{pin_of, with_pin}
use Rattle.oak_read.specs.Meaning.{documents_in}
use Rattle.oak_read.specs.declared.reader.Reader.{Reader}
use Rattle.oak_store.specs.Tables.{next_number}
use Rattle.core_clash.specs.Core.{root_of}
use Rattle.core_clash.specs.Sessions.{Running}
use Rattle.core_keep.specs.Holding.{IsHoldingStep}
use Rattle.core_nodes.specs.Nodes.{base_of_pin, cursor_owner, without_session}
use Rattle.core_clash.specs.Collecting.{SeesBounded}
use Rattle.core_world.specs.Held.{after_bound, holding_in}
use Rattle.core_world.specs.States.{base_in, origin}
use Rattle.core_world.proofs.Bounded.{bound_commits, may_bound_core}
use Rattle.core_world.proofs.Flights.{work_quiet}
use Rattle.core_world.proofs.Lives.{told}
use Rattle.core_world.proofs.Memories.{aside}
use Rattle.core_world.specs.Kept.{AreLayersKept, WereOnRoot}
use Rattle.core_world.specs.States.{State, history_in, memory_of, node_of, nodes_in}
use Rattle.core_world.specs.Steps.{IsThrough, after_attach, after_back, after_checkpoint, after_detach, after_draw, after_finish, after_last, after_learn, after_learn_swept, after_leave, after_login, after_mark, after_notes, after_observe, after_out, after_pending, after_refresh, after_release, after_said, after_task_end, after_sweep, after_undoing, after_unfound, after_want, after_went, after_write, after_write_in_want, draw_in, lasted_by, marked_by, pinned, swept_to, with_reader, with_result, with_observer}
use Rattle.oak_sync.specs.Publishing.{back_op}
use Rattle.oak_sweep.specs.Sweeping.{sweep_op}
use Rattle.core_world.proofs.Attaching.{attach_keeps, attach_unfound_keeps, detach_keeps, release_unfound_keeps}
use Rattle.core_world.proofs.Backs.{back_keeps, learn_keeps, learn_swept_keeps, out_keeps, pending_keeps, sweep_keeps}
use Rattle.core_world.proofs.Checkpoints.{checkpoint_keeps, release_keeps}
use Rattle.core_world.proofs.Held.{all_still, attach_kept, checkpoint_kept, cursor_step, detach_kept, draw_step, found_in, head_is, holding, in_front, kept_now, learn_step, leave_step, memory_still, on_session, pin_step, release_kept, same_kept, still_holding, swept_step, takes_part}
use Rattle.core_world.proofs.Lives.{its_node, session_there}
use Rattle.core_world.proofs.Roots.{root_quiet}
use Rattle.core_world.proofs.Setting.{settings_quiet, undo_apart, update_apart}
use Rattle.core_world.proofs.Layers.{draw_whole, finish_whole, last_whole, leave_whole, login_whole, mark_whole, observe_whole, refresh_whole, said_whole, task_end_whole, undo_whole, went_whole, write_in_want_whole, write_whole}
use Rattle.oak_changes.specs.declared.changes.ChangesReader.{ChangesReader}
use Rattle.core_world.proofs.Letting.{observes_on}
use Rattle.core_world.proofs.Observers.{observers_last}
use Rattle.oak_machine.specs.declared.event.Start.{Start}

-- what there was, what a bound sees, and what the bounds before it see
bound_or : (a m b : Bool) {c : Bool} → (m ≡ true → c ≡ true) → ((a || b) ≡ true → c ≡ true) → (a || (m || b)) ≡ true → c ≡ true
bound_or true m b now was h = was refl
bound_or false true b now was h = now refl
bound_or false false b now was h = was h

-- a bound that is at most a pair leaves it above the bounds so far
pub above_one : (start : Start) (past : Past) (m t : RevVec) (x : Pin) → IsPairBelow (record { base = m; sweep = t }) x → IsAboveBounds start past x → IsAboveBounds start (event.Bound m t ∷ past) x
above_one start past m t x low up = record {
  base = λ r k. bound_or (sees start.at r) (sees m r) (is_bounded past r) (λ s. below_seen m x.base r low.0 s) (up.base r) k;
  sweep = λ r k. bound_or (sees start.at r) (sees t r) (is_swept past r) (λ s. below_seen t x.sweep r low.1 s) (up.sweep r) k;
}

module _ (starts : Starts) (says : Says) (proper : StartsProper starts) (w : State) (kept : AreLayersKept starts says w) where
  abbrev Rises : State → Type 0
  Rises u = IsHoldingStep (holding_in w) (holding_in u)

  -- a step that leaves the settings, on the memory of the node of session s
  on_memory : (s : ℕ) (there : is_some (slice_get w.sessions s) ≡ true) (u : State) → AreLayersKept starts says u → (added : Past) → u.past ≡ added ++ w.past → u.clusters ≡ w.clusters → u.sessions ≡ w.sessions → u.begin ≡ w.begin
      → ((k : ℕ) → IsNode w.clusters k → Rattle.core_world.proofs.Held.IsMemoryStep (Rattle.core_world.specs.States.memory_at w.memories k) (Rattle.core_world.specs.States.memory_at u.memories k)) → documents_in u.table.documents id.Settings ≡ documents_in w.table.documents id.Settings → Rises u
  on_memory s there u later added past clusters sessions begin memories same = holding starts says proper w kept u later added past clusters sessions begin memories (same_kept starts says proper w kept u.table same)

  -- ---- sessions

  pub login_rises : (s : ℕ) → is_stopped_under w.sessions w.past s ≡ false → is_some (slice_get w.sessions s) ≡ true → has_login w.past s ≡ false → Rises (after_login w s)
  login_rises s on there first = on_memory s there (after_login w s) (login_whole starts says proper w kept s on there first) (event.Login s (memory_of w s).head ∷ []) refl refl refl refl
      (on_session starts says proper w kept s there (pinned (memory_of w s) s) (pin_step (memory_of w s) s)) refl

  module _ (s : ℕ) (login : has_login w.past s ≡ true) where
    there : is_some (slice_get w.sessions s) ≡ true
    there = session_there starts says proper w kept.sessions s login

    pub refresh_rises : is_stopped_under w.sessions w.past s ≡ false → has_left w.past s ≡ false → w.running s ≡ None → w.reading s ≡ None → w.observing s ≡ None → Rises (after_refresh w s)
    refresh_rises on stays none unread unobserved = on_memory s there (after_refresh w s) (refresh_whole starts says proper w kept s on login stays none unread unobserved) (event.Refresh s (memory_of w s).head ∷ []) refl refl refl refl
        (on_session starts says proper w kept s there (pinned (memory_of w s) s) (pin_step (memory_of w s) s)) refl

    pub leave_rises : is_stopped_under w.sessions w.past s ≡ false → slice_get w.sessions (cursor_owner s) ≡ None → has_left w.past s ≡ false → w.running s ≡ None → w.reading s ≡ None → w.observing s ≡ None → Rises (after_leave w s)
    leave_rises on few stays none unread unobserved = on_memory s there (after_leave w s) (leave_whole starts says proper w kept s on few login stays none unread unobserved) (event.Went s kind.End ∷ []) refl refl refl refl
        (on_session starts says proper w kept s there (without_session (memory_of w s) s) (leave_step (memory_of w s) s)) refl

    pub observe_rises : (pin : Pin) → slice_get w.sessions (cursor_owner s) ≡ None → has_left w.past s ≡ false → w.reading s ≡ None → w.observing s ≡ None → pin_of (memory_of w s) s ≡ Some pin → Rises (after_observe w s pin)
    observe_rises pin few stays unread unobserved has = on_memory s there (after_observe w s pin) (observe_whole starts says proper w kept s pin few login stays unread unobserved has) (event.Went s kind.Pin ∷ []) refl refl refl refl
        (on_session starts says proper w kept s there (with_pin (memory_of w s) (cursor_owner s) pin) (cursor_step (memory_of w s) s (cursor_owner s) pin has)) refl

    pub went_rises : (k : StepKind) → is_kind k kind.End ≡ false → is_kind k kind.Pin ≡ false → has_left w.past s ≡ false → Rises (after_went w s k)
    went_rises k other apart stays = on_memory s there (after_went w s k) (went_whole starts says proper w kept s k other apart login stays) (event.Went s k ∷ []) refl refl refl refl (all_still starts says proper w kept) refl

  pub said_rises : (s i : ℕ) (text : Text) → i ≡ next_index w.past s → says (history_in w) s i text → Rises (after_said w s i text)
  said_rises s i text next lawful = holding starts says proper w kept (after_said w s i text) (said_whole starts says proper w kept s i text next lawful) (event.Said s i text ∷ []) refl refl refl refl (all_still starts says proper w kept) (same_kept starts says proper w kept w.table refl)

  pub task_end_rises : (s : ℕ) (e : Event) → is_task_end s e ≡ true → MayFollow starts says (history_in w) e → Rises (after_task_end w e)
  task_end_rises s e own may = holding starts says proper w kept (after_task_end w e) (task_end_whole starts says proper w kept s e own may) (e ∷ []) refl refl refl refl (all_still starts says proper w kept) (same_kept starts says proper w kept w.table refl)

  pub reader_rises : (s : ℕ) (r : Option Reader) → Rises (with_reader w s r)
  reader_rises s r = still_holding (holding_in w)

  pub observer_rises : (s : ℕ) (r : Option ChangesReader) → Rises (with_observer w s r)
  observer_rises s r = still_holding (holding_in w)

  -- ---- commits

  pub draw_rises : (s : ℕ) (edit : Edit) (marks : List MarkAt) → is_stopped_under w.sessions w.past s ≡ false → has_login w.past s ≡ true → has_left w.past s ≡ false → is_attached w.past s ≡ false → w.running s ≡ None → starts (history_in w) s edit marks → SeesBounded w.past (base_in w s) → Rises (after_draw w s edit marks (marked_paths marks))
  draw_rises s edit marks on login stays detached none lawful bounded =
      let here = session_there starts says proper w kept.sessions s login in
      let r : Revision = (draw_in w s edit marks).revision in
      let paths = marked_paths marks in
      on_memory s here (after_draw w s edit marks paths) (draw_whole starts says proper w kept s edit marks on login stays detached none lawful bounded) (event.Draw (draw_in w s edit marks) ∷ []) refl refl refl refl
      (on_session starts says proper w kept s here (after_notes r (Rattle.oak_node.specs.Heads.with_draw (memory_of w s) r) paths) (draw_step (memory_of w s) r paths)) refl

  module _ (s : ℕ) (x : Running) (here : w.running s ≡ Some x) where
    -- the same memories and settings, with these events
    on_table : (u : State) → AreLayersKept starts says u → (added : Past) → u.past ≡ added ++ w.past → u.clusters ≡ w.clusters → u.sessions ≡ w.sessions → u.begin ≡ w.begin → u.memories ≡ w.memories → documents_in u.table.documents id.Settings ≡ documents_in w.table.documents id.Settings → Rises u
    on_table u later added past clusters sessions begin memories same = holding starts says proper w kept u later added past clusters sessions begin
        (λ k node. memory_still (Rattle.core_world.specs.States.memory_at w.memories k) (Rattle.core_world.specs.States.memory_at u.memories k) (ap (λ ms. (Rattle.core_world.specs.States.memory_at ms k).sweep) memories) (ap (λ ms. (Rattle.core_world.specs.States.memory_at ms k).pins) memories))
        (same_kept starts says proper w kept u.table same)

    module _ (uncommitted : x.committed ≡ false) (going : x.writer.undoing ≡ false) where
      pub write_rises : (p : Path) (rest : List Path) → x.writer.due ≡ [] → x.writer.left ≡ p ∷ rest → Rises (after_write w s x p rest)
      write_rises p rest unmet next = on_table (after_write w s x p rest) (write_whole starts says proper w kept s x p rest here uncommitted going unmet next) (event.Went s kind.Write ∷ []) refl refl refl refl refl
          (update_apart w.table p (write_op x.draw.revision x.draw.edit.writes x.draw.marks p) refl)

      pub write_in_want_rises : (p : Path) (rest : List Path) → x.writer.due ≡ [] → x.writer.left ≡ p ∷ rest → Rises (after_write_in_want w s x p rest)
      write_in_want_rises p rest unmet next = on_table (after_write_in_want w s x p rest) (write_in_want_whole starts says proper w kept s x p rest here uncommitted going unmet next) (event.Went s kind.Write ∷ []) refl refl refl refl refl
          (update_apart w.table p (write_op x.draw.revision x.draw.edit.writes x.draw.marks p) refl)

      marked : (f : Met) (rest : List Met) (o : Result Document OpFault) → documents_in (with_result w.table (id.Node (root_of w.past f.other)) o).documents id.Settings ≡ documents_in w.table.documents id.Settings → AreLayersKept starts says (marked_by w s x f rest o) → Rises (marked_by w s x f rest o)
      marked f rest (Ok d) same later = on_table (marked_by w s x f rest (Ok d)) later (event.Went s kind.Mark ∷ []) refl refl refl refl refl same
      marked f rest (Err g) same later = on_table (marked_by w s x f rest (Err g)) later (event.Refuse x.draw.revision f.mine f.other ∷ []) refl refl refl refl refl refl

      pub mark_rises : (f : Met) (rest : List Met) → x.writer.due ≡ f ∷ rest → Rises (after_mark w s x f rest)
      mark_rises f rest next =
          let op : UpdateOp = mark_op (root_of w.past f.other) f.other x.draw.revision f.theirs in
          marked f rest (updated (nodes_in w.table (root_of w.past f.other)) op (next_number w.table)) (update_apart w.table (root_of w.past f.other) op refl) (mark_whole starts says proper w kept s x f rest here uncommitted going next)

      lasted : (o : Result Document OpFault) → documents_in (with_result w.table (id.Node (commit_root x.draw.marks)) o).documents id.Settings ≡ documents_in w.table.documents id.Settings → AreLayersKept starts says (lasted_by w s x o) → Rises (lasted_by w s x o)
      lasted (Ok d) same later = on_table (lasted_by w s x (Ok d)) later (event.Commit x.draw.revision ∷ []) refl refl refl refl refl same
      lasted (Err (fault.Unmet c (keeps.Entry o item))) same later = on_table (lasted_by w s x (Err (fault.Unmet c (keeps.Entry o item)))) later (event.Refuse x.draw.revision item o ∷ []) refl refl refl refl refl refl
      lasted (Err (fault.Unmet c (keeps.Number n))) same later = still_holding (holding_in w)
      lasted (Err (fault.Unmet c keeps.Nothing)) same later = still_holding (holding_in w)
      lasted (Err fault.Absent) same later = still_holding (holding_in w)
      lasted (Err fault.Memory) same later = still_holding (holding_in w)

      pub last_rises : x.writer.due ≡ [] → x.writer.left ≡ [] → Rises (after_last w s x)
      last_rises unmet none_left =
          let op : UpdateOp = last_op x.draw.revision x.draw.marks in
          lasted (updated (nodes_in w.table (commit_root x.draw.marks)) op (next_number w.table)) (update_apart w.table (commit_root x.draw.marks) op refl) (last_whole starts says proper w kept s x here uncommitted going unmet none_left)

    pub undo_rises : (p : Path) (rest : List Path) → x.committed ≡ false → x.writer.undoing ≡ true → x.writer.written ≡ p ∷ rest → Rises (after_undoing w s x p rest)
    undo_rises p rest uncommitted undoing next = on_table (after_undoing w s x p rest) (undo_whole starts says proper w kept s x p rest here uncommitted undoing next) (event.Went s kind.Undo ∷ []) refl refl refl refl refl (undo_apart w.table p x.draw.revision)

    pub finish_rises : IsThrough x → Rises (after_finish w s x)
    finish_rises through = on_memory s here_node (after_finish w s x) (finish_whole starts says proper w kept s x here through) (ends moved) (grown moved) refl refl refl
        (on_session starts says proper w kept s here_node (finished (memory_of w s) x.draw.revision) (memory_still (memory_of w s) (finished (memory_of w s) x.draw.revision) refl refl)) refl
      where
        here_node : is_some (slice_get w.sessions s) ≡ true
        here_node = session_there starts says proper w kept.sessions s (Rattle.core_world.proofs.Commits.login starts says proper w kept.sessions s x here)

        moved : Bool
        moved = is_before (own_entry (memory_of w s)) (own_entry (finished (memory_of w s) x.draw.revision))

        ends : Bool → Past
        ends b = cond b (event.Head (node_of w s) (finished (memory_of w s) x.draw.revision).head ∷ event.End x.draw.revision ∷ []) (event.End x.draw.revision ∷ [])

        grown : (b : Bool) → cond b (event.Head (node_of w s) (finished (memory_of w s) x.draw.revision).head ∷ event.End x.draw.revision ∷ w.past) (event.End x.draw.revision ∷ w.past) ≡ ends b ++ w.past
        grown true = refl
        grown false = refl

  pub want_rises : (s : ℕ) (x : Running) → Rises (after_want w s x)
  want_rises s x = still_holding (holding_in w)

  -- ---- background work

  module _ (s : ℕ) (login : has_login w.past s ≡ true) where
    at_node : is_some (slice_get w.sessions s) ≡ true
    at_node = session_there starts says proper w kept.sessions s login

    node : IsNode w.clusters (node_of w s)
    node = its_node starts says proper w kept.sessions s at_node

    pub pending_rises : has_left w.past s ≡ false → Rises (after_pending w s)
    pending_rises stays = on_memory s at_node (after_pending w s) (pending_keeps starts says proper w kept s login stays) (event.Went s kind.Back ∷ []) refl refl refl refl
        (on_session starts says proper w kept s at_node (Rattle.oak_node.specs.Notes.without_seen (memory_of w s)) (memory_still (memory_of w s) (Rattle.oak_node.specs.Notes.without_seen (memory_of w s)) refl refl)) refl

    pub back_rises : (p : Path) (r : Revision) → has_left w.past s ≡ false → eq_by_cmp path_cmp [] p ≡ false → Rises (after_back w s p r)
    back_rises p r stays other = on_memory s at_node (after_back w s p r) (back_keeps starts says proper w kept s login stays p r other) (event.Went s kind.Back ∷ []) refl refl refl refl (all_still starts says proper w kept) (update_apart w.table p (back_op p r) refl)

    pub out_rises : (r : Revision) → r.cluster ≡ node_of w s → is_at_most r (local w.begin w.past (node_of w s)) ≡ true → Rises (after_out w s r)
    out_rises r of low = on_memory s at_node (after_out w s r) (out_keeps starts says proper w kept s login r of low) (event.Out (node_of w s) r ∷ []) refl refl refl refl (all_still starts says proper w kept) (update_apart w.table [] (back_op [] r) refl)

    pub sweep_rises : (r : Revision) → r.cluster ≡ node_of w s → is_at_most r (published w.begin w.past (node_of w s)) ≡ true → Rises (after_sweep w s r)
    sweep_rises r of low = on_memory s at_node (after_sweep w s r) (sweep_keeps starts says proper w kept s login r of low) (event.Sweep (node_of w s) r ∷ []) refl refl refl refl (all_still starts says proper w kept) (update_apart w.table [] (sweep_op r) refl)

    pub learn_rises : is_stopped_under w.sessions w.past s ≡ false → (last sweep : RevVec) → WereOnRoot w.begin w.clusters w.past last sweep → Rises (after_learn w s last sweep)
    learn_rises on last sweep were = on_memory s at_node (after_learn w s last sweep) (learn_keeps starts says proper w kept s login on last sweep were) (event.In (node_of w s) (learned (memory_of w s) last sweep).head ∷ []) refl refl refl refl
        (on_session starts says proper w kept s at_node (learned (memory_of w s) last sweep) (learn_step (memory_of w s) last sweep)) refl

    pub learn_swept_rises : (r : Revision) → has_left w.past s ≡ false → r.cluster ≡ node_of w s → is_at_most r (local w.begin w.past (node_of w s)) ≡ true → Rises (after_learn_swept w s r)
    learn_swept_rises r stays of low = on_memory s at_node (after_learn_swept w s r) (learn_swept_keeps starts says proper w kept s login stays r of low) (event.Went s kind.Learn ∷ []) refl refl refl refl
        (on_session starts says proper w kept s at_node (swept_to (memory_of w s) r) (swept_step (memory_of w s) r (kept.sessions.memories.memory (node_of w s) node).sweep)) refl

    -- ---- checkpoints

    pub checkpoint_rises : (i : Text) (pin : Pin) → is_stopped_under w.sessions w.past s ≡ false → has_left w.past s ≡ false → is_attached w.past s ≡ false → pin_of (memory_of w s) s ≡ Some pin → Rises (after_checkpoint w s i pin)
    checkpoint_rises i pin on stays detached has = holding starts says proper w kept (after_checkpoint w s i pin) (checkpoint_keeps starts says proper w kept s i pin on login stays detached has) (event.Checkpoint i pin.base ∷ []) refl refl refl refl (all_still starts says proper w kept) (checkpoint_kept starts says proper w kept i pin s at_node has)

    pub attach_rises : (i : Text) (v : RevVec) → is_stopped_under w.sessions w.past s ≡ false → has_left w.past s ≡ false → is_attached w.past s ≡ false → w.reading s ≡ None → kept_checkpoint w.past i ≡ Some v → Rises (after_attach w s i)
    attach_rises i v on stays detached unread has = holding starts says proper w kept (after_attach w s i) (attach_keeps starts says proper w kept s login stays on i v detached unread has) (event.Attach s i ∷ []) refl refl refl refl (all_still starts says proper w kept) (attach_kept starts says proper w kept s i)

    pub detach_rises : has_left w.past s ≡ false → is_attached w.past s ≡ false → has_reader w.past s ≡ true → Rises (after_detach w s)
    detach_rises stays detached reads = holding starts says proper w kept (after_detach w s) (detach_keeps starts says proper w kept s login stays detached reads) (event.Detach s ∷ []) refl refl refl refl (all_still starts says proper w kept) (detach_kept starts says proper w kept s)

    pub attach_unfound_rises : (i : Text) → has_left w.past s ≡ false → kept_checkpoint w.past i ≡ None → Rises (after_unfound w s (change.Attach s i))
    attach_unfound_rises i stays none = holding starts says proper w kept (after_unfound w s (change.Attach s i)) (attach_unfound_keeps starts says proper w kept s login stays i none) (event.Went s kind.Settings ∷ []) refl refl refl refl (all_still starts says proper w kept) (attach_kept starts says proper w kept s i)

    pub release_unfound_rises : (i : Text) → has_left w.past s ≡ false → kept_checkpoint w.past i ≡ None → Rises (after_unfound w s (change.Release i))
    release_unfound_rises i stays none = holding starts says proper w kept (after_unfound w s (change.Release i)) (release_unfound_keeps starts says proper w kept s login stays i none) (event.Went s kind.Settings ∷ []) refl refl refl refl (all_still starts says proper w kept) (release_kept starts says proper w kept i)

  pub release_rises : (i : Text) → IsSome (kept_checkpoint w.past i) → Rises (after_release w i)
  release_rises i has = holding starts says proper w kept (after_release w i) (release_keeps starts says proper w kept i has) (event.Release i ∷ []) refl refl refl refl (all_still starts says proper w kept) (release_kept starts says proper w kept i)

  -- ---- a bound

  module _ (m t : RevVec) (takes : MayTakeBound w m t) (reading : (s : ℕ) (r : Reader) → w.reading s ≡ Some r → IsPairBelow (record { base = m; sweep = t }) r.pin)
      (observing : (s : ℕ) (r : ChangesReader) → w.observing s ≡ Some r → IsPairBelow (record { base = m; sweep = t }) r.pin × (is_below m r.from ≡ true)) where
    below_head : (k : ℕ) → IsNode w.clusters k → is_recovered w.past k ≡ false → is_below m (head_of w.clusters w.begin w.past k) ≡ true
    below_head k node alive = subst (λ (v : RevVec). is_below m v ≡ true) (ap (λ (p : Pin). p.base) (head_is starts says proper w kept k node) ∙ (kept.sessions.memories.memory k node).head) (takes.below.head k (takes_part starts says proper w kept k node alive)).0

    below_kept : (i : Text) (v : RevVec) → kept_checkpoint w.past i ≡ Some v → is_below m v ≡ true
    below_kept i v has = by (lookup (is_at (name_cmp i)) kept.settings.document.checkpoints) refl (kept.settings.checkpoints i ∙ has)
      where
        by : (o : Option Pin) → lookup (is_at (name_cmp i)) kept.settings.document.checkpoints ≡ o → base_of_pin o ≡ Some v → is_below m v ≡ true
        by None e h = absurd (false≢true (ap is_some h))
        by (Some pin) e h = subst (λ (u : RevVec). is_below m u ≡ true) (ap (λ o. unwrap_or o pin.base) h)
            (takes.below.kept pin (kept_now starts says proper w kept pin (in_front pin (values_of kept.settings.document.checkpoints) (values_of kept.settings.document.readers) (found_in (is_at (name_cmp i)) kept.settings.document.checkpoints pin e)))).0

    may_bound : MayBound (history_in w) m t
    may_bound = record { heads = λ k low high alive. below_head k (low, high) alive; checkpoints = below_kept; sweep = takes.swept }

    core_may : MayBoundBases w.past m t
    core_may = may_bound_core starts says proper w kept m t takes.below takes.swept may_bound

    -- what a reader of changes lies between is above the bound too
    between_bound : (s : ℕ) (r : ChangesReader) → w.observing s ≡ Some r → IsBetweenPins (origin w) (event.Bound m t ∷ w.past) s r
    between_bound s r h =
        let is = kept.sessions.observers.between s r h in
        let low = observing s r h in
        record {
          cursor = is.cursor;
          own = is.own;
          pair = is.pair;
          above = above_one (origin w) w.past m t r.pin low.0 is.above;
          above_cursor = λ o k. bound_or (sees (origin w).at o) (sees m o) (is_bounded w.past o) (λ seen. below_seen m r.from o low.1 seen) (is.above_cursor o) k;
        }

    pub bound_keeps : AreLayersKept starts says (after_bound w m t)
    bound_keeps = record {
      sessions = record {
        nodes = kept.sessions.nodes;
        run = (may_bound, kept.sessions.run);
        committing = bound_commits (origin w) w.past w.table w.running kept.sessions.committing m t core_may (record { settled = core_may.settled; closed = takes.closed });
        working = work_quiet w.sessions w.past w.running w.reading kept.sessions.working (event.Bound m t) refl (λ q. refl) (λ k. refl);
        memories = aside starts says w.clusters w.sessions w.begin kept.sessions.nodes w.past w.memories kept.sessions.memories (event.Bound m t) (may_bound, kept.sessions.run) (λ j. refl) (λ j. refl);
        readers = record {
          told = formers_event (origin w) (documents_in w.table.documents) w.past (λ q. has_written (kept.sessions.committing.writers q)) kept.sessions.committing.kept (event.Bound m t) (λ q. refl) w.formers kept.sessions.readers.told;
          reads = λ s r h. reading_lasts (origin w) w.formers w.formers (documents_in w.table.documents) (documents_in w.table.documents) w.past (event.Bound m t ∷ w.past) r
              (on_event (origin w) r.pin (documents_in w.table.documents) w.past (λ q. has_written (kept.sessions.committing.writers q)) kept.sessions.committing.kept (event.Bound m t) (λ q. refl)) (λ p k f i. i) (kept.sessions.readers.reads s r h);
          above = λ s r h. above_one (origin w) w.past m t r.pin (reading s r h) (kept.sessions.readers.above s r h);
          at_base = kept.sessions.readers.at_base;
          pairs = kept.sessions.readers.pairs;
        };
        observers = observers_last starts says w.clusters w.sessions w.begin kept.sessions.nodes proper w.past (event.Bound m t) (may_bound, kept.sessions.run) w.table w.table w.formers w.formers w.observing kept.sessions.observers (λ k. refl) between_bound
            _ (bound_commits (origin w) w.past w.table w.running kept.sessions.committing m t core_may (record { settled = core_may.settled; closed = takes.closed })).kept
            (λ r can tells. observes_on (origin w) w.formers w.formers (documents_in w.table.documents) w.table w.past (event.Bound m t ∷ w.past) (told starts says proper w kept.sessions) (λ p k f i. i) r (λ q seen. refl)
            (λ pin held. on_event (origin w) pin (documents_in w.table.documents) w.past (λ q. has_written (kept.sessions.committing.writers q)) kept.sessions.committing.kept (event.Bound m t) (λ q. refl)) can tells);
      };
      root = root_quiet w.clusters w.begin w.past w.table (event.Bound m t) refl kept.root;
      settings = settings_quiet w.sessions w.past w.table w.table (event.Bound m t) refl refl kept.settings;
    }

  pub bound_rises : (m t : RevVec) → Rises (after_bound w m t)
  bound_rises m t = still_holding (holding_in w)
