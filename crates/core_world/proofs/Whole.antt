-- Each step of a world keeps it: its layers, and that all that is held is above the bounds so far.
use Rattle.core_clash.specs.Sessions.{Running}
use Rattle.core_nodes.specs.Nodes.{cursor_owner, base_of_pin}
use Rattle.core_world.specs.Kept.{AreLayersKept, IsAboveBounds, WereOnRoot, IsBetweenPins, SeesStarts}
use Rattle.core_world.specs.Start.{start_state}
use Rattle.core_world.specs.States.{State, actor_pin, base_in, history_in, memory_of, node_of, reader_pin, memory_at, origin}
use Rattle.core_world.specs.Steps.{IsThrough, after_attach, after_back, after_checkpoint, after_detach, after_draw, after_finish, after_last, after_learn, after_learn_swept, after_leave, after_login, after_mark, after_observe, after_out, after_pending, after_refresh, after_release, after_said, after_task_end, after_sweep, after_undoing, after_unfound, after_want, after_went, after_write, after_write_in_want, draw_in, with_reader, with_observer}
use Rattle.oak_sync.specs.Publishing.{back_op}
use Rattle.oak_sweep.specs.Sweeping.{sweep_op}
use Rattle.jr_path.specs.Names.{path_cmp}
use Rattle.jr_path.specs.declared.path.Path.{Path}
use Rattle.jr_path.specs.Lists.{Text}
use Rattle.jr_rev.specs.Revisions.{is_at_most}
use Rattle.jr_rev.specs.Vectors.{sees, is_below, start_of, start}
use Rattle.jr_rev.specs.declared.revision.Revision.{Revision}
use Rattle.jr_rev.specs.declared.vector.Pin.{Pin}
use Rattle.jr_rev.specs.declared.vector.RevVec.{RevVec}
use Rattle.jr_tree.specs.declared.edit.Edit.{Edit}
use Rattle.oak_clash.specs.Clashes.{marked_paths}
use Rattle.oak_clash.specs.declared.mark.MarkAt.{MarkAt}
use Rattle.oak_commit.specs.Clashing.{Met}
use Rattle.oak_doc.specs.declared.document.Document.{Document}
use Rattle.oak_machine.specs.Heads.{local, published}
use Rattle.oak_machine.specs.History.{Past, Begin}
use Rattle.oak_machine.specs.Laws.{Says, Starts, StartsProper, StartsWrite}
use Rattle.oak_machine.specs.Runs.{AreNodes, IsNode, MayFollow, is_task_end}
use Rattle.oak_machine.specs.Sessions.{has_left, has_login, has_reader, is_attached, is_stopped_under, kept_checkpoint, next_index, cursor_at, session_base}
use Rattle.oak_machine.specs.Steps.{is_kind}
use Rattle.oak_machine.specs.declared.event.StepKind.{StepKind}
use Rattle.oak_node.specs.Heads.{learned}
use Rattle.oak_node.specs.Pins.{pin_of, pin_now}
use Rattle.oak_read.specs.Reading.{IsTable, answer, children_reader, due, fed, node_reader}
use Rattle.oak_read.specs.declared.reader.Reader.{Reader}
use Rattle.std.proofs.Common.{Bool, List, None, Option, Some, [], ap, cond, false, is_some, refl, subst, sym, true, ℕ, ◌∙◌, ◌∷◌, ◌≡◌, ◌||◌, not}
use Rattle.std.specs.BTreeMap.{is_at}
use Rattle.std.specs.Map.{lookup, values_of}
use Rattle.std.specs.Option.{option_and_then, option_map_or}
use Rattle.std.specs.Ordering.{eq_by_cmp, nat_cmp}
use Rattle.std.specs.Prelude.{Err, IsFalse, IsSome, IsTrue, Ok, slice_get}
use Rattle.std.specs.declared.alloc.Global.{Global}
use Rattle.oak_doc.specs.declared.update.Change.TheVariants as change
use Rattle.oak_doc.specs.declared.update.OpFault.TheVariants as fault
use Rattle.oak_machine.specs.declared.event.Event.{Event}
use Rattle.oak_machine.specs.declared.event.Event.TheVariants as event
use Rattle.oak_machine.specs.declared.event.StepKind.TheVariants as kind
use Rattle.core_clash.specs.Collecting.{SeesBounded}
use mathlib.Core.Bool.{false≢true}
use Rattle.std.proofs.Common.{inl, inr}
use Rattle.std.specs.Prelude.{Result}
use Rattle.oak_doc.specs.declared.update.OpFault.{OpFault}
use Rattle.oak_doc.specs.declared.update.Kept.TheVariants as keeps
use Rattle.oak_node.specs.Heads.{finished}
use Rattle.core_keep.specs.Journal.{is_bounded, is_swept}
use Rattle.core_world.specs.Held.{after_bound, holding_in, MayTakeBound, is_node_in, no_pin}
use Rattle.core_world.proofs.Held.{in_back, kept_now, pins_alive, head_is, node_is}
use Rattle.core_world.proofs.Seated.{attach_pinned, attach_unfound_pinned, checkpoint_pinned, detach_pinned, drawn_pinned, finish_pinned, gone_pinned, last_pinned, left_pinned, loaded_pinned, mark_pinned, memory_pinned, moved_pinned, observed_pinned, quiet_pinned, read_pinned, release_pinned, release_unfound_pinned, noticed_pinned, unnoticed_pinned}
use Rattle.core_world.proofs.Setting.{undo_apart, update_apart}
use Rattle.core_world.proofs.Lives.{no_reader, reader_login, no_observer, observer_login, on_node}
use Rattle.core_world.proofs.Commits.{on_its_node}
use Rattle.core_world.specs.Steps.{swept_to}
use Rattle.oak_node.specs.Notes.{without_seen}
use Rattle.oak_commit.specs.Writing.{write_op}
use Rattle.core_world.specs.Kept.{IsPinned}
use Rattle.core_world.specs.Kept.{AreAboveBounds, IsKept}
use Rattle.core_world.specs.Steps.{lasted_by, marked_by}
use Rattle.core_heads.proofs.Below.{below_seen}
use Rattle.core_keep.specs.Holding.{Holding, IsBelowAll, IsHoldingStep, IsPairBelow}
use Rattle.core_world.proofs.Attaching.{attach_keeps as attach_layers, attach_unfound_keeps as attach_unfound_layers, detach_keeps as detach_layers, release_unfound_keeps as release_unfound_layers}
use Rattle.core_world.proofs.Backs.{back_keeps as back_layers, learn_keeps as learn_layers, learn_swept_keeps as learn_swept_layers, out_keeps as out_layers, pending_keeps as pending_layers, sweep_keeps as sweep_layers}
use Rattle.core_world.proofs.Checkpoints.{checkpoint_keeps as checkpoint_layers, release_keeps as release_layers}
use Rattle.core_world.proofs.Draws.{some_pin, its_base, its_pair}
use Rattle.core_world.proofs.Held.{found_in, takes_part}
use Rattle.core_world.proofs.Layers.{draw_whole as draw_layers, finish_whole as finish_layers, gone_whole as gone_layers, last_whole as last_layers, leave_whole as leave_layers, list_whole as list_layers, load_whole as load_layers, login_whole as login_layers, mark_whole as mark_layers, observe_whole as observe_layers, read_whole as read_layers, refresh_whole as refresh_layers, said_whole as said_layers, task_end_whole as task_end_layers, start_whole as start_layers, undo_whole as undo_layers, want_whole as want_layers, went_whole as went_layers, write_in_want_whole as write_in_want_layers, write_whole as write_layers, feed_whole as feed_layers, notice_whole as notice_layers, unnotice_whole as unnotice_layers}
use Rattle.core_world.proofs.Lives.{its_node, node_alive, session_there}
use Rattle.core_world.proofs.Rising.{above_one, attach_rises, attach_unfound_rises, back_rises, bound_keeps as bound_layers, checkpoint_rises, detach_rises, draw_rises, finish_rises, last_rises, learn_rises, learn_swept_rises, leave_rises, login_rises, mark_rises, observe_rises, out_rises, pending_rises, reader_rises, refresh_rises, release_rises, release_unfound_rises, said_rises, task_end_rises, sweep_rises, undo_rises, want_rises, went_rises, write_in_want_rises, write_rises, observer_rises}
use Rattle.oak_changes.specs.declared.changes.ChangesReader.{ChangesReader}
use Rattle.oak_changes.specs.declared.changes.Step.TheVariants as observed
use Rattle.oak_changes.specs.Reading.{changes_reader, due as due_changes, fed as fed_changes}
use Rattle.oak_machine.specs.Changed.{changes_between}
use Rattle.jr_tree.specs.declared.shared.CommitChanges.{CommitChanges}
use Rattle.core_nodes.proofs.Pins.{cursor_owned, found_pin}
use Rattle.core_changes.proofs.Instants.{reply_keeps}
use Rattle.core_world.proofs.Loads.{changes_given}
use Rattle.oak_node.specs.Memory.{NodeState}
use Rattle.core_world.proofs.Begun.{begun_at}
use Rattle.core_world.proofs.Roots.{starts_seen}
use Rattle.oak_machine.specs.declared.event.Start.{Start}
use Rattle.core_begun.specs.Kept.{bounded_since, swept_since}
use Rattle.core_clash.proofs.Basics.{or_right}
use Rattle.core_begun.specs.Told.{start_in}
use Rattle.core_read.specs.Told.{IsIn}

-- what is held rises, so it stays above the bounds so far
above_goes : (start : Start) (past later : Past) (a b : Holding) → IsHoldingStep a b → ((r : Revision) → is_bounded later r ≡ is_bounded past r) → ((r : Revision) → is_swept later r ≡ is_swept past r) → AreAboveBounds start past a → AreAboveBounds start later b
above_goes start past later a b step bounds sweeps above = record {
  heads = λ k g. at_last (λ r h. below_seen (a.heads k).base (b.heads k).base r (step.heads k).0 ((above.heads k (before k g)).base r h)) (λ r h. below_seen (a.heads k).sweep (b.heads k).sweep r (step.heads k).1 ((above.heads k (before k g)).sweep r h));
  pins = λ k g x i. elim (step.pins k x g i) [ inl j ↦ moved x (above.pins k (before k g) x j) | inr e ↦ subst (λ (y : Pin). IsAboveBounds start later y) (sym e) (moved (a.heads k) (above.heads k (before k g))) ];
  kept = λ x i. elim (step.kept x i) [ inl j ↦ moved x (above.kept x j) | inr j ↦ moved x (above.pins j.0 j.1 x j.2) ];
}
  where
    bounded : (r : Revision) → bounded_since start later r ≡ bounded_since start past r
    bounded r = ap (λ c. sees start.at r || c) (bounds r)

    swept : (r : Revision) → swept_since start later r ≡ swept_since start past r
    swept r = ap (λ c. sees start.at r || c) (sweeps r)

    at_last : {x : Pin} → ((r : Revision) → bounded_since start past r ≡ true → sees x.base r ≡ true) → ((r : Revision) → swept_since start past r ≡ true → sees x.sweep r ≡ true) → IsAboveBounds start later x
    at_last base sweep = record { base = λ r h. base r (sym (bounded r) ∙ h); sweep = λ r h. sweep r (sym (swept r) ∙ h) }

    moved : (x : Pin) → IsAboveBounds start past x → IsAboveBounds start later x
    moved x up = record { base = λ r h. up.base r (sym (bounded r) ∙ h); sweep = λ r h. up.sweep r (sym (swept r) ∙ h) }

    before : (k : ℕ) → b.gone k ≡ false → a.gone k ≡ false
    before k g = by (a.gone k) refl
      where
        by : (c : Bool) → a.gone k ≡ c → c ≡ false
        by false h = refl
        by true h = absurd (false≢true (sym g ∙ step.gone k h))

-- a bound that is at most what is held leaves it above
above_bound : (start : Start) (past : Past) (m t : RevVec) (h : Holding) → IsBelowAll (record { base = m; sweep = t }) h → AreAboveBounds start past h → AreAboveBounds start (event.Bound m t ∷ past) h
above_bound start past m t h below above = record {
  heads = λ k g. one (h.heads k) (below.head k g) (above.heads k g);
  pins = λ k g x i. one x (below.pins k g x i) (above.pins k g x i);
  kept = λ x i. one x (below.kept x i) (above.kept x i);
}
  where
    one : (x : Pin) → IsPairBelow (record { base = m; sweep = t }) x → IsAboveBounds start past x → IsAboveBounds start (event.Bound m t ∷ past) x
    one = above_one start past m t

pub start_whole : (starts : Starts) (says : Says) (clusters : ℕ) (sessions : List ℕ) → AreNodes clusters sessions → IsKept starts says (start_state clusters sessions)
start_whole starts says clusters sessions nodes =
    let layers = start_layers starts says clusters sessions nodes in
    record {
      sessions = layers.sessions;
      root = layers.root;
      settings = layers.settings;
      above = record {
        heads = λ k g. subst (IsAboveBounds (start_in clusters None) []) (sym (head_begun k g)) both;
        pins = λ k g x i. absurd (subst (λ (m : NodeState). IsIn x (values_of m.pins)) (begun_at clusters k (node k g)) i);
        kept = λ x i. absurd i;
      };
      pinned = record { reads = λ s r h. absurd (false≢true (ap is_some h)); observes = λ s r h. absurd (false≢true (ap is_some h)) };
      begun = λ k node. subst (λ (m : NodeState). SeesStarts clusters m.sweep) (sym (begun_at clusters k node)) (starts_seen clusters nodes.eight);
    }
  where
    only : (b : Bool) → (b || false) ≡ true → b ≡ true
    only true h = refl
    only false h = absurd (false≢true h)

    -- what a node begins with is above what there is then
    both : IsAboveBounds (start_in clusters None) [] (record { base = start clusters; sweep = start clusters })
    both = record { base = λ r h. only (sees (start clusters) r) h; sweep = λ r h. only (sees (start clusters) r) h }

    taking : (a b : Bool) → (not a || b) ≡ false → a ≡ true
    taking true b h = refl
    taking false b h = absurd (false≢true (sym h))

    is_one : (k : ℕ) → (holding_in (start_state clusters sessions)).gone k ≡ false → is_node_in clusters k ≡ true
    is_one k g = taking (is_node_in clusters k) _ g

    node : (k : ℕ) → (holding_in (start_state clusters sessions)).gone k ≡ false → IsNode clusters k
    node k g = node_is clusters k (is_one k g)

    head_begun : (k : ℕ) → (holding_in (start_state clusters sessions)).gone k ≡ false → (holding_in (start_state clusters sessions)).heads k ≡ record { base = start clusters; sweep = start clusters }
    head_begun k g = ap (λ b. cond b (pin_now (memory_at (start_state clusters sessions).memories k)) no_pin) (is_one k g) ∙ ap pin_now (begun_at clusters k (node k g))

abbrev pub layers_of : (starts : Starts) (says : Says) (w : State) → IsKept starts says w → AreLayersKept starts says w
layers_of starts says w kept = record { sessions = kept.sessions; root = kept.root; settings = kept.settings }

module _ (starts : Starts) (says : Says) (proper : StartsProper starts) (w : State) (kept : IsKept starts says w) where
  abbrev layers : AreLayersKept starts says w
  layers = record { sessions = kept.sessions; root = kept.root; settings = kept.settings }

  -- the sweep vectors of memories rise, so they see the starts still
  begun_goes : (u : State) → u.clusters ≡ w.clusters → AreLayersKept starts says u → IsHoldingStep (holding_in w) (holding_in u) → (k : ℕ) → IsNode u.clusters k → SeesStarts u.clusters (memory_at u.memories k).sweep
  begun_goes u same later rises k node j other =
      let was : IsNode w.clusters k = subst (λ (n : ℕ). IsNode n k) same node in
      let old = head_is starts says proper w layers k was in
      let new = head_is starts says proper u later k node in
      below_seen (memory_at w.memories k).sweep (memory_at u.memories k).sweep (start_of j)
      (subst (λ (x : Pin). is_below (memory_at w.memories k).sweep x.sweep ≡ true) new (subst (λ (x : Pin). is_below x.sweep ((holding_in u).heads k).sweep ≡ true) old (rises.heads k).1))
      (kept.begun k was j (subst (λ (n : ℕ). IsNode n j) same other))

  pub goes : (u : State) → u.clusters ≡ w.clusters → origin u ≡ origin w → AreLayersKept starts says u → ((r : Revision) → is_bounded u.past r ≡ is_bounded w.past r) → ((r : Revision) → is_swept u.past r ≡ is_swept w.past r) → IsHoldingStep (holding_in w) (holding_in u) → IsPinned u → IsKept starts says u
  goes u same from later bounds sweeps rises pins = record {
    pinned = pins;
    sessions = later.sessions;
    root = later.root;
    settings = later.settings;
    above = subst (λ (s : Start). AreAboveBounds s u.past (holding_in u)) (sym from) (above_goes (origin w) w.past u.past (holding_in w) (holding_in u) rises bounds sweeps kept.above);
    begun = begun_goes u same later rises;
  }

  mark_clusters : (s : ℕ) (x : Running) (f : Met) (rest : List Met) (o : Result Document OpFault) → (marked_by w s x f rest o).clusters ≡ w.clusters
  mark_clusters s x f rest (Ok d) = refl
  mark_clusters s x f rest (Err g) = refl

  last_clusters : (s : ℕ) (x : Running) (o : Result Document OpFault) → (lasted_by w s x o).clusters ≡ w.clusters
  last_clusters s x (Ok d) = refl
  last_clusters s x (Err (fault.Unmet c (keeps.Entry o item))) = refl
  last_clusters s x (Err g) = refl

  mark_origin : (s : ℕ) (x : Running) (f : Met) (rest : List Met) (o : Result Document OpFault) → origin (marked_by w s x f rest o) ≡ origin w
  mark_origin s x f rest (Ok d) = refl
  mark_origin s x f rest (Err g) = refl

  last_origin : (s : ℕ) (x : Running) (o : Result Document OpFault) → origin (lasted_by w s x o) ≡ origin w
  last_origin s x (Ok d) = refl
  last_origin s x (Err (fault.Unmet c (keeps.Entry o item))) = refl
  last_origin s x (Err g) = refl

  -- what a step tells in one of two ways is no bound
  abbrev TellsNoBound : Past → Type 0
  TellsNoBound past = ((r : Revision) → is_bounded past r ≡ is_bounded w.past r) × ((r : Revision) → is_swept past r ≡ is_swept w.past r)

  mark_bounds : (s : ℕ) (x : Running) (f : Met) (rest : List Met) (o : Result Document OpFault) → TellsNoBound (marked_by w s x f rest o).past
  mark_bounds s x f rest (Ok d) = (λ r. refl, λ r. refl)
  mark_bounds s x f rest (Err g) = (λ r. refl, λ r. refl)

  last_bounds : (s : ℕ) (x : Running) (o : Result Document OpFault) → TellsNoBound (lasted_by w s x o).past
  last_bounds s x (Ok d) = (λ r. refl, λ r. refl)
  last_bounds s x (Err (fault.Unmet c (keeps.Entry o item))) = (λ r. refl, λ r. refl)
  last_bounds s x (Err g) = (λ r. refl, λ r. refl)

  finish_bounds : (s : ℕ) (x : Running) (b : Bool) → TellsNoBound (cond b (event.Head (node_of w s) (finished (memory_of w s) x.draw.revision).head ∷ event.End x.draw.revision ∷ w.past) (event.End x.draw.revision ∷ w.past))
  finish_bounds s x true = (λ r. refl, λ r. refl)
  finish_bounds s x false = (λ r. refl, λ r. refl)

  -- a session's base sees what bounds so far see
  pub base_above : (s : ℕ) → is_stopped_under w.sessions w.past s ≡ false → has_login w.past s ≡ true → has_left w.past s ≡ false → SeesBounded w.past (base_in w s)
  base_above s on login stays o h =
      let there = session_there starts says proper w kept.sessions s login in
      let node = its_node starts says proper w kept.sessions s there in
      let alive = node_alive starts says proper w kept.sessions s there on in
      let pin = some_pin starts says proper w kept.sessions s alive login stays in
      ap (λ (x : Option Pin). sees (option_map_or (λ (p : Pin). p.base) x (memory_of w s).head) o) pin.1
      ∙ (kept.above.pins (node_of w s) (takes_part starts says proper w layers (node_of w s) node alive) pin.0 (found_in (is_at (nat_cmp s)) _ pin.0 pin.1)).base o (or_right (sees (origin w).at o) _ h)

  -- so do the pins of a session
  pub pin_above : (s : ℕ) → is_some (slice_get w.sessions s) ≡ true → (pin : Pin) → pin_of (memory_of w s) s ≡ Some pin → IsAboveBounds (origin w) w.past pin
  pin_above s there pin has =
      let node = its_node starts says proper w kept.sessions s there in
      let i = found_in (is_at (nat_cmp s)) _ pin has in
      kept.above.pins (node_of w s) (takes_part starts says proper w layers (node_of w s) node (pins_alive starts says proper w layers (node_of w s) node pin i)) pin i

  -- and the pair at which it reads
  pub actor_above : (s : ℕ) (pin : Pin) → has_login w.past s ≡ true → has_left w.past s ≡ false → actor_pin w s ≡ Some pin → IsAboveBounds (origin w) w.past pin
  actor_above s pin login stays has = by (is_attached w.past s) has
    where
      there : is_some (slice_get w.sessions s) ≡ true
      there = session_there starts says proper w kept.sessions s login

      by : (b : Bool) → cond b (reader_pin w.table s) (pin_of (memory_of w s) s) ≡ Some pin → IsAboveBounds (origin w) w.past pin
      by true k = kept.above.kept pin (kept_now starts says proper w layers pin (in_back pin (values_of kept.settings.document.checkpoints) (values_of kept.settings.document.readers)
          (found_in (is_at (nat_cmp s)) kept.settings.document.readers pin (sym (ap (λ (o : Option Document). option_and_then (λ d. lookup (is_at (nat_cmp s)) d.readers) o) kept.settings.there) ∙ k))))
      by false k = pin_above s there pin k

  -- the memory of a session's node pins its cursor
  pub its_cursor_pin : (s : ℕ) (from : RevVec) → is_stopped_under w.sessions w.past s ≡ false → slice_get w.sessions (cursor_owner s) ≡ None → has_login w.past s ≡ true → cursor_at w.past s ≡ Some from → (pin : Pin) × (pin_of (memory_of w s) (cursor_owner s) ≡ Some pin) × (pin.base ≡ from)
  its_cursor_pin s from on few login at =
      let there = session_there starts says proper w kept.sessions s login in
      let node = its_node starts says proper w kept.sessions s there in
      found_pin w.sessions w.past (node_of w s) (memory_of w s) (kept.sessions.memories.pins (node_of w s) node) (cursor_owner s) from (node_alive starts says proper w kept.sessions s there on)
      (cursor_owned w.sessions w.past (node_of w s) s (on_node starts says proper w kept.sessions s there) few ∙ at)

  pub login_whole : (s : ℕ) → IsFalse (is_stopped_under w.sessions w.past s) → IsTrue (is_some (slice_get w.sessions s)) → IsFalse (has_login w.past s) → IsKept starts says (after_login w s)
  login_whole s on there first = goes (after_login w s) refl refl (login_layers starts says proper w layers s on there first) (λ r. refl) (λ r. refl) (login_rises starts says proper w layers s on there first)
      (moved_pinned starts says proper w layers kept.pinned s there (no_reader starts says proper w kept.sessions s first) (no_observer starts says proper w kept.sessions s first) (event.Login s (memory_of w s).head ∷ w.past) (λ q f. ap (λ b. cond b false (is_attached w.past q)) f))

  pub refresh_whole : (s : ℕ) → IsFalse (is_stopped_under w.sessions w.past s) → IsTrue (has_login w.past s) → IsFalse (has_left w.past s) → w.running s ≡ None → w.reading s ≡ None → w.observing s ≡ None → IsKept starts says (after_refresh w s)
  refresh_whole s on login stays none unread unobserved = goes (after_refresh w s) refl refl (refresh_layers starts says proper w layers s on login stays none unread unobserved) (λ r. refl) (λ r. refl) (refresh_rises starts says proper w layers s login on stays none unread unobserved)
      (moved_pinned starts says proper w layers kept.pinned s (session_there starts says proper w kept.sessions s login) unread unobserved (event.Refresh s (memory_of w s).head ∷ w.past) (λ q f. ap (λ b. cond b false (is_attached w.past q)) f))

  pub leave_whole : (s : ℕ) → IsFalse (is_stopped_under w.sessions w.past s) → slice_get w.sessions (cursor_owner s) ≡ None → IsTrue (has_login w.past s) → IsFalse (has_left w.past s) → w.running s ≡ None → w.reading s ≡ None → w.observing s ≡ None → IsKept starts says (after_leave w s)
  leave_whole s on few login stays none unread unobserved = goes (after_leave w s) refl refl (leave_layers starts says proper w layers s on few login stays none unread unobserved) (λ r. refl) (λ r. refl) (leave_rises starts says proper w layers s login on few stays none unread unobserved)
      (left_pinned starts says proper w layers kept.pinned s (session_there starts says proper w kept.sessions s login) few unread unobserved)

  pub observe_whole : (s : ℕ) (pin : Pin) → slice_get w.sessions (cursor_owner s) ≡ None → IsTrue (has_login w.past s) → IsFalse (has_left w.past s) → w.reading s ≡ None → w.observing s ≡ None → pin_of (memory_of w s) s ≡ Some pin → IsKept starts says (after_observe w s pin)
  observe_whole s pin few login stays unread unobserved has = goes (after_observe w s pin) refl refl (observe_layers starts says proper w layers s pin few login stays unread unobserved has) (λ r. refl) (λ r. refl) (observe_rises starts says proper w layers s login pin few stays unread unobserved has)
      (observed_pinned starts says proper w layers kept.pinned s (session_there starts says proper w kept.sessions s login) few pin)

  pub said_whole : (s i : ℕ) (text : Text) → i ≡ next_index w.past s → says (history_in w) s i text → IsKept starts says (after_said w s i text)
  said_whole s i text next lawful = goes (after_said w s i text) refl refl (said_layers starts says proper w layers s i text next lawful) (λ r. refl) (λ r. refl) (said_rises starts says proper w layers s i text next lawful)
      (quiet_pinned starts says proper w layers kept.pinned (after_said w s i text) refl refl refl refl (λ q. refl) (refl))

  pub task_end_whole : (s : ℕ) (e : Event) → is_task_end s e ≡ true → MayFollow starts says (history_in w) e → IsKept starts says (after_task_end w e)
  task_end_whole s (event.Split t path end) own may = goes (after_task_end w (event.Split t path end)) refl refl (task_end_layers starts says proper w layers s (event.Split t path end) own may) (λ r. refl) (λ r. refl) (task_end_rises starts says proper w layers s (event.Split t path end) own may)
      (quiet_pinned starts says proper w layers kept.pinned (after_task_end w (event.Split t path end)) refl refl refl refl (λ q. refl) (refl))
  task_end_whole s (event.Collected t end) own may = goes (after_task_end w (event.Collected t end)) refl refl (task_end_layers starts says proper w layers s (event.Collected t end) own may) (λ r. refl) (λ r. refl) (task_end_rises starts says proper w layers s (event.Collected t end) own may)
      (quiet_pinned starts says proper w layers kept.pinned (after_task_end w (event.Collected t end)) refl refl refl refl (λ q. refl) (refl))
  task_end_whole s _ own may = absurd (false≢true own)

  pub went_whole : (s : ℕ) (k : StepKind) → IsFalse (is_kind k kind.End) → IsFalse (is_kind k kind.Pin) → IsTrue (has_login w.past s) → IsFalse (has_left w.past s) → IsKept starts says (after_went w s k)
  went_whole s k other apart login stays = goes (after_went w s k) refl refl (went_layers starts says proper w layers s k other apart login stays) (λ r. refl) (λ r. refl) (went_rises starts says proper w layers s login k other apart stays)
      (quiet_pinned starts says proper w layers kept.pinned (after_went w s k) refl refl refl refl (λ q. refl) (refl))

  pub load_whole : (s : ℕ) (a : Global) (pin : Pin) (p : Path) → IsFalse (is_stopped_under w.sessions w.past s) → IsTrue (has_login w.past s) → IsFalse (has_left w.past s) → actor_pin w s ≡ Some pin → IsKept starts says (with_reader w s (Some (node_reader a pin p)))
  load_whole s a pin p on login stays has = goes (with_reader w s (Some (node_reader a pin p))) refl refl (load_layers starts says proper w layers s a pin p on login stays has (actor_above s pin login stays has)) (λ r. refl) (λ r. refl) (reader_rises starts says proper w layers s (Some (node_reader a pin p)))
      (loaded_pinned starts says proper w layers kept.pinned s (node_reader a pin p) has)

  pub list_whole : (s : ℕ) (a : Global) (pin : Pin) (p : Path) → IsFalse (is_stopped_under w.sessions w.past s) → IsTrue (has_login w.past s) → IsFalse (has_left w.past s) → actor_pin w s ≡ Some pin → IsKept starts says (with_reader w s (Some (children_reader a pin p)))
  list_whole s a pin p on login stays has = goes (with_reader w s (Some (children_reader a pin p))) refl refl (list_layers starts says proper w layers s a pin p on login stays has (actor_above s pin login stays has)) (λ r. refl) (λ r. refl) (reader_rises starts says proper w layers s (Some (children_reader a pin p)))
      (loaded_pinned starts says proper w layers kept.pinned s (children_reader a pin p) has)

  pub read_whole : (s : ℕ) (r : Reader) → w.reading s ≡ Some r → IsTable w.table.documents → IsKept starts says (with_reader w s (Some (fed r (answer w.table.documents (due r)))))
  read_whole s r here table = goes (with_reader w s (Some (fed r (answer w.table.documents (due r))))) refl refl (read_layers starts says proper w layers s r here table) (λ r. refl) (λ r. refl) (reader_rises starts says proper w layers s (Some (fed r (answer w.table.documents (due r)))))
      (read_pinned starts says proper w layers kept.pinned s r here)

  pub gone_whole : (s : ℕ) → IsKept starts says (with_reader w s None)
  gone_whole s = goes (with_reader w s None) refl refl (gone_layers starts says proper w layers s) (λ r. refl) (λ r. refl) (reader_rises starts says proper w layers s None)
      (gone_pinned starts says proper w layers kept.pinned s)

  pub write_whole : (s : ℕ) (x : Running) (p : Path) (rest : List Path) → w.running s ≡ Some x → IsFalse x.committed → IsFalse x.writer.undoing → x.writer.due ≡ [] → x.writer.left ≡ p ∷ rest → IsKept starts says (after_write w s x p rest)
  write_whole s x p rest here uncommitted going unmet next = goes (after_write w s x p rest) refl refl (write_layers starts says proper w layers s x p rest here uncommitted going unmet next) (λ r. refl) (λ r. refl) (write_rises starts says proper w layers s x here uncommitted going p rest unmet next)
      (quiet_pinned starts says proper w layers kept.pinned (after_write w s x p rest) refl refl refl refl (λ q. refl) (update_apart w.table p (write_op x.draw.revision x.draw.edit.writes x.draw.marks p) refl))

  pub write_in_want_whole : (s : ℕ) (x : Running) (p : Path) (rest : List Path) → w.running s ≡ Some x → IsFalse x.committed → IsFalse x.writer.undoing → x.writer.due ≡ [] → x.writer.left ≡ p ∷ rest → IsKept starts says (after_write_in_want w s x p rest)
  write_in_want_whole s x p rest here uncommitted going unmet next = goes (after_write_in_want w s x p rest) refl refl (write_in_want_layers starts says proper w layers s x p rest here uncommitted going unmet next) (λ r. refl) (λ r. refl) (write_in_want_rises starts says proper w layers s x here uncommitted going p rest unmet next)
      (quiet_pinned starts says proper w layers kept.pinned (after_write_in_want w s x p rest) refl refl refl refl (λ q. refl) (update_apart w.table p (write_op x.draw.revision x.draw.edit.writes x.draw.marks p) refl))

  pub mark_whole : (s : ℕ) (x : Running) (f : Met) (rest : List Met) → w.running s ≡ Some x → IsFalse x.committed → IsFalse x.writer.undoing → x.writer.due ≡ f ∷ rest → IsKept starts says (after_mark w s x f rest)
  mark_whole s x f rest here uncommitted going next = goes (after_mark w s x f rest) (mark_clusters s x f rest _) (mark_origin s x f rest _) (mark_layers starts says proper w layers s x f rest here uncommitted going next) (mark_bounds s x f rest _).0 (mark_bounds s x f rest _).1 (mark_rises starts says proper w layers s x here uncommitted going f rest next)
      (mark_pinned starts says proper w layers kept.pinned s x f rest)

  pub last_whole : (s : ℕ) (x : Running) → w.running s ≡ Some x → IsFalse x.committed → IsFalse x.writer.undoing → x.writer.due ≡ [] → x.writer.left ≡ [] → IsKept starts says (after_last w s x)
  last_whole s x here uncommitted going unmet none_left = goes (after_last w s x) (last_clusters s x _) (last_origin s x _) (last_layers starts says proper w layers s x here uncommitted going unmet none_left) (last_bounds s x _).0 (last_bounds s x _).1 (last_rises starts says proper w layers s x here uncommitted going unmet none_left)
      (last_pinned starts says proper w layers kept.pinned s x)

  pub want_whole : (s : ℕ) (x : Running) → w.running s ≡ Some x → IsFalse x.committed → IsFalse x.writer.undoing → IsKept starts says (after_want w s x)
  want_whole s x here uncommitted going = goes (after_want w s x) refl refl (want_layers starts says proper w layers s x here uncommitted going) (λ r. refl) (λ r. refl) (want_rises starts says proper w layers s x)
      (quiet_pinned starts says proper w layers kept.pinned (after_want w s x) refl refl refl refl (λ q. refl) (refl))

  pub undo_whole : (s : ℕ) (x : Running) (p : Path) (rest : List Path) → w.running s ≡ Some x → IsFalse x.committed → IsTrue x.writer.undoing → x.writer.written ≡ p ∷ rest → IsKept starts says (after_undoing w s x p rest)
  undo_whole s x p rest here uncommitted undoing next = goes (after_undoing w s x p rest) refl refl (undo_layers starts says proper w layers s x p rest here uncommitted undoing next) (λ r. refl) (λ r. refl) (undo_rises starts says proper w layers s x here p rest uncommitted undoing next)
      (quiet_pinned starts says proper w layers kept.pinned (after_undoing w s x p rest) refl refl refl refl (λ q. refl) (undo_apart w.table p x.draw.revision))

  pub finish_whole : (s : ℕ) (x : Running) → w.running s ≡ Some x → IsThrough x → IsKept starts says (after_finish w s x)
  finish_whole s x here through = goes (after_finish w s x) refl refl (finish_layers starts says proper w layers s x here through) (finish_bounds s x _).0 (finish_bounds s x _).1 (finish_rises starts says proper w layers s x here through)
      (finish_pinned starts says proper w layers kept.pinned s x (ap is_some (on_its_node starts says proper w kept.sessions s x here)))

  pub pending_keeps : (s : ℕ) → has_login w.past s ≡ true → has_left w.past s ≡ false → IsKept starts says (after_pending w s)
  pending_keeps s login stays = goes (after_pending w s) refl refl (pending_layers starts says proper w layers s login stays) (λ r. refl) (λ r. refl) (pending_rises starts says proper w layers s login stays)
      (memory_pinned starts says proper w layers kept.pinned s (session_there starts says proper w kept.sessions s login) (without_seen (memory_of w s)) (after_pending w s).past w.running (λ q r h. refl) (λ q r h. refl) (λ q r h. refl))

  pub back_keeps : (s : ℕ) → has_login w.past s ≡ true → has_left w.past s ≡ false → (p : Path) (r : Revision) → eq_by_cmp path_cmp [] p ≡ false → IsKept starts says (after_back w s p r)
  back_keeps s login stays p r other = goes (after_back w s p r) refl refl (back_layers starts says proper w layers s login stays p r other) (λ r. refl) (λ r. refl) (back_rises starts says proper w layers s login p r stays other)
      (quiet_pinned starts says proper w layers kept.pinned (after_back w s p r) refl refl refl refl (λ q. refl) (update_apart w.table p (back_op p r) refl))

  pub out_keeps : (s : ℕ) → has_login w.past s ≡ true → (r : Revision) → r.cluster ≡ node_of w s → is_at_most r (local w.begin w.past (node_of w s)) ≡ true → IsKept starts says (after_out w s r)
  out_keeps s login r of low = goes (after_out w s r) refl refl (out_layers starts says proper w layers s login r of low) (λ r. refl) (λ r. refl) (out_rises starts says proper w layers s login r of low)
      (quiet_pinned starts says proper w layers kept.pinned (after_out w s r) refl refl refl refl (λ q. refl) (update_apart w.table [] (back_op [] r) refl))

  pub learn_keeps : (s : ℕ) → is_stopped_under w.sessions w.past s ≡ false → has_login w.past s ≡ true → (last sweep : RevVec) → WereOnRoot w.begin w.clusters w.past last sweep → IsKept starts says (after_learn w s last sweep)
  learn_keeps s on login last sweep were = goes (after_learn w s last sweep) refl refl (learn_layers starts says proper w layers s login on last sweep were) (λ r. refl) (λ r. refl) (learn_rises starts says proper w layers s login on last sweep were)
      (memory_pinned starts says proper w layers kept.pinned s (session_there starts says proper w kept.sessions s login) (learned (memory_of w s) last sweep) (after_learn w s last sweep).past w.running (λ q r h. refl) (λ q r h. refl) (λ q r h. refl))

  pub sweep_keeps : (s : ℕ) → has_login w.past s ≡ true → (r : Revision) → r.cluster ≡ node_of w s → is_at_most r (published w.begin w.past (node_of w s)) ≡ true → IsKept starts says (after_sweep w s r)
  sweep_keeps s login r of low = goes (after_sweep w s r) refl refl (sweep_layers starts says proper w layers s login r of low) (λ r. refl) (λ r. refl) (sweep_rises starts says proper w layers s login r of low)
      (quiet_pinned starts says proper w layers kept.pinned (after_sweep w s r) refl refl refl refl (λ q. refl) (update_apart w.table [] (sweep_op r) refl))

  pub learn_swept_keeps : (s : ℕ) → has_login w.past s ≡ true → has_left w.past s ≡ false → (r : Revision) → r.cluster ≡ node_of w s → is_at_most r (local w.begin w.past (node_of w s)) ≡ true → IsKept starts says (after_learn_swept w s r)
  learn_swept_keeps s login stays r of low = goes (after_learn_swept w s r) refl refl (learn_swept_layers starts says proper w layers s login stays r of low) (λ r. refl) (λ r. refl) (learn_swept_rises starts says proper w layers s login r stays of low)
      (memory_pinned starts says proper w layers kept.pinned s (session_there starts says proper w kept.sessions s login) (swept_to (memory_of w s) r) (after_learn_swept w s r).past w.running (λ q y h. refl) (λ q y h. refl) (λ q r h. refl))

  pub checkpoint_keeps : (s : ℕ) (i : Text) (pin : Pin) → is_stopped_under w.sessions w.past s ≡ false → has_login w.past s ≡ true → has_left w.past s ≡ false → is_attached w.past s ≡ false → pin_of (memory_of w s) s ≡ Some pin → IsKept starts says (after_checkpoint w s i pin)
  checkpoint_keeps s i pin on login stays detached has = goes (after_checkpoint w s i pin) refl refl (checkpoint_layers starts says proper w layers s i pin on login stays detached has) (λ r. refl) (λ r. refl) (checkpoint_rises starts says proper w layers s login i pin on stays detached has)
      (checkpoint_pinned starts says proper w layers kept.pinned s i pin)

  pub release_keeps : (i : Text) → IsSome (kept_checkpoint w.past i) → IsKept starts says (after_release w i)
  release_keeps i there = goes (after_release w i) refl refl (release_layers starts says proper w layers i there) (λ r. refl) (λ r. refl) (release_rises starts says proper w layers i there)
      (release_pinned starts says proper w layers kept.pinned i)

  pub attach_keeps : (s : ℕ) → is_stopped_under w.sessions w.past s ≡ false → has_login w.past s ≡ true → has_left w.past s ≡ false → (i : Text) (v : RevVec) → is_attached w.past s ≡ false → w.reading s ≡ None → kept_checkpoint w.past i ≡ Some v → IsKept starts says (after_attach w s i)
  attach_keeps s on login stays i v detached unread there = goes (after_attach w s i) refl refl (attach_layers starts says proper w layers s login stays on i v detached unread there) (λ r. refl) (λ r. refl) (attach_rises starts says proper w layers s login i v on stays detached unread there)
      (attach_pinned starts says proper w layers kept.pinned s i unread)

  pub detach_keeps : (s : ℕ) → has_login w.past s ≡ true → has_left w.past s ≡ false → is_attached w.past s ≡ false → has_reader w.past s ≡ true → IsKept starts says (after_detach w s)
  detach_keeps s login stays detached reads = goes (after_detach w s) refl refl (detach_layers starts says proper w layers s login stays detached reads) (λ r. refl) (λ r. refl) (detach_rises starts says proper w layers s login stays detached reads)
      (detach_pinned starts says proper w layers kept.pinned s detached)

  pub attach_unfound_keeps : (s : ℕ) → has_login w.past s ≡ true → has_left w.past s ≡ false → (i : Text) → kept_checkpoint w.past i ≡ None → IsKept starts says (after_unfound w s (change.Attach s i))
  attach_unfound_keeps s login stays i none = goes (after_unfound w s (change.Attach s i)) refl refl (attach_unfound_layers starts says proper w layers s login stays i none) (λ r. refl) (λ r. refl) (attach_unfound_rises starts says proper w layers s login i stays none)
      (attach_unfound_pinned starts says proper w layers kept.pinned s i none)

  pub release_unfound_keeps : (s : ℕ) → has_login w.past s ≡ true → has_left w.past s ≡ false → (i : Text) → kept_checkpoint w.past i ≡ None → IsKept starts says (after_unfound w s (change.Release i))
  release_unfound_keeps s login stays i none = goes (after_unfound w s (change.Release i)) refl refl (release_unfound_layers starts says proper w layers s login stays i none) (λ r. refl) (λ r. refl) (release_unfound_rises starts says proper w layers s login i stays none)
      (release_unfound_pinned starts says proper w layers kept.pinned s i)

  -- a reader of changes begins at the cursor of its session, up to its own pin
  pub notice_whole : (s : ℕ) (a : Global) (from : RevVec) (pin : Pin) → IsFalse (is_stopped_under w.sessions w.past s) → slice_get w.sessions (cursor_owner s) ≡ None → IsTrue (has_login w.past s) → IsFalse (has_left w.past s) → cursor_at w.past s ≡ Some from → pin_of (memory_of w s) s ≡ Some pin
      → IsKept starts says (with_observer w s (Some (changes_reader a from pin)))
  notice_whole s a from pin on few login stays at has =
      let there = session_there starts says proper w kept.sessions s login in
      let alive = node_alive starts says proper w kept.sessions s there on in
      let cursor = its_cursor_pin s from on few login at in
      let node = its_node starts says proper w kept.sessions s there in
      let between : IsBetweenPins (origin w) w.past s (changes_reader a from pin) = record {
        cursor = at;
        own = sym (its_base starts says proper w kept.sessions s there alive) ∙ ap base_of_pin has;
        pair = its_pair starts says proper w kept.sessions s there pin has;
        above = pin_above s there pin has;
        above_cursor = λ o h. subst (λ (v : RevVec). sees v o ≡ true) cursor.2
            ((kept.above.pins (node_of w s) (takes_part starts says proper w layers (node_of w s) node alive) cursor.0 (found_in (is_at (nat_cmp (cursor_owner s))) _ cursor.0 cursor.1)).base o h);
      } in
      goes (with_observer w s (Some (changes_reader a from pin))) refl refl (notice_layers starts says proper w layers s a from pin on few between) (λ r. refl) (λ r. refl) (observer_rises starts says proper w layers s (Some (changes_reader a from pin)))
      (noticed_pinned starts says proper w layers kept.pinned s (changes_reader a from pin) has)

  -- it is fed what the documents answer
  pub feed_whole : StartsWrite starts → (s : ℕ) (r : ChangesReader) → w.observing s ≡ Some r → IsTable w.table.documents → IsKept starts says (with_observer w s (Some (fed_changes r (answer w.table.documents (due_changes r)))))
  feed_whole writes s r here table =
      let x = answer w.table.documents (due_changes r) in
      goes (with_observer w s (Some (fed_changes r x))) refl refl (feed_layers starts says proper w layers writes s r here table) (λ q. refl) (λ q. refl) (observer_rises starts says proper w layers s (Some (fed_changes r x)))
      (noticed_pinned starts says proper w layers kept.pinned s (fed_changes r x) (kept.pinned.observes s r here ∙ ap (λ (p : Pin). Some p) (sym (reply_keeps r x).1)))

  -- and is taken away
  pub unnotice_whole : (s : ℕ) → IsKept starts says (with_observer w s None)
  unnotice_whole s = goes (with_observer w s None) refl refl (unnotice_layers starts says proper w layers s) (λ r. refl) (λ r. refl) (observer_rises starts says proper w layers s None) (unnoticed_pinned starts says proper w layers kept.pinned s)

  -- while it reads, its session's cursor and its own pin stay
  pub lies_whole : (s : ℕ) (r : ChangesReader) → w.observing s ≡ Some r → (cursor_at w.past s ≡ Some r.from) × (session_base w.past s ≡ Some r.pin.base)
  lies_whole s r here = let is = kept.sessions.observers.between s r here in (is.cursor, is.own)

  -- what it gives are the changes between the two
  pub changes_whole : (s : ℕ) (r : ChangesReader) (o : List CommitChanges) → w.observing s ≡ Some r → r.step ≡ observed.Done o → o ≡ changes_between w.begin w.past r.from r.pin.base
  changes_whole s r o here ends = changes_given starts says proper w kept.sessions s r here o ends

  pub draw_whole : (s : ℕ) (edit : Edit) (marks : List MarkAt) → IsFalse (is_stopped_under w.sessions w.past s) → IsTrue (has_login w.past s) → IsFalse (has_left w.past s) → IsFalse (is_attached w.past s) → w.running s ≡ None → starts (history_in w) s edit marks → IsKept starts says (after_draw w s edit marks (marked_paths marks))
  draw_whole s edit marks on login stays detached none lawful = goes (after_draw w s edit marks (marked_paths marks)) refl refl (draw_layers starts says proper w layers s edit marks on login stays detached none lawful (base_above s on login stays)) (λ r. refl) (λ r. refl)
      (draw_rises starts says proper w layers s edit marks on login stays detached none lawful (base_above s on login stays))
      (drawn_pinned starts says proper w layers kept.pinned s (session_there starts says proper w kept.sessions s login) (draw_in w s edit marks).revision (marked_paths marks) (after_draw w s edit marks (marked_paths marks)).past (after_draw w s edit marks (marked_paths marks)).running (λ q. refl))

  -- a bound that is at most what is held is at most the pair at which a session reads
  actor_below : (m t : RevVec) → IsBelowAll (record { base = m; sweep = t }) (holding_in w) → (s : ℕ) (pin : Pin) → has_login w.past s ≡ true → actor_pin w s ≡ Some pin → IsPairBelow (record { base = m; sweep = t }) pin
  actor_below m t below s pin login has = by (is_attached w.past s) has
    where
      there : is_some (slice_get w.sessions s) ≡ true
      there = session_there starts says proper w kept.sessions s login

      by : (b : Bool) → cond b (reader_pin w.table s) (pin_of (memory_of w s) s) ≡ Some pin → IsPairBelow (record { base = m; sweep = t }) pin
      by true k = below.kept pin (kept_now starts says proper w layers pin (in_back pin (values_of kept.settings.document.checkpoints) (values_of kept.settings.document.readers)
          (found_in (is_at (nat_cmp s)) kept.settings.document.readers pin (sym (ap (λ (o : Option Document). option_and_then (λ d. lookup (is_at (nat_cmp s)) d.readers) o) kept.settings.there) ∙ k))))
      by false k =
          let node = its_node starts says proper w kept.sessions s there in
          let i = found_in (is_at (nat_cmp s)) _ pin k in
          below.pins (node_of w s) (takes_part starts says proper w layers (node_of w s) node (pins_alive starts says proper w layers (node_of w s) node pin i)) pin i

  -- and at most what a reader of changes lies between
  observer_below : (m t : RevVec) → IsBelowAll (record { base = m; sweep = t }) (holding_in w) → (s : ℕ) (r : ChangesReader) → w.observing s ≡ Some r → IsPairBelow (record { base = m; sweep = t }) r.pin × (is_below m r.from ≡ true)
  observer_below m t below s r h =
      let own = kept.pinned.observes s r h in
      let cursor = its_cursor_pin s r.from (kept.sessions.observers.goes s r h) (kept.sessions.observers.apart s r h) (observer_login starts says proper w kept.sessions s r h) (kept.sessions.observers.between s r h).cursor in (
        below.pins (node_of w s) (taking s r h) r.pin (found_in (is_at (nat_cmp s)) _ r.pin own),
        subst (λ (v : RevVec). is_below m v ≡ true) cursor.2 (below.pins (node_of w s) (taking s r h) cursor.0 (found_in (is_at (nat_cmp (cursor_owner s))) _ cursor.0 cursor.1)).0,
      )
    where
      taking : (s : ℕ) (r : ChangesReader) → w.observing s ≡ Some r → (holding_in w).gone (node_of w s) ≡ false
      taking s r h =
          let there = session_there starts says proper w kept.sessions s (observer_login starts says proper w kept.sessions s r h) in
          takes_part starts says proper w layers (node_of w s) (its_node starts says proper w kept.sessions s there) (node_alive starts says proper w kept.sessions s there (kept.sessions.observers.goes s r h))

  pub bound_keeps : (m t : RevVec) → MayTakeBound w m t → IsKept starts says (after_bound w m t)
  bound_keeps m t takes =
      let later = bound_layers starts says proper w layers m t takes (λ s r h. actor_below m t takes.below s r.pin (reader_login starts says proper w kept.sessions s r h) (kept.pinned.reads s r h)) (observer_below m t takes.below) in
      record { sessions = later.sessions; root = later.root; settings = later.settings; above = above_bound (origin w) w.past m t (holding_in w) takes.below kept.above; pinned = quiet_pinned starts says proper w layers kept.pinned (after_bound w m t) refl refl refl refl (λ q. refl) (refl); begun = kept.begun }
