-- The memory of a stopped cluster node is recovered: all that it had in flight ends.
use Rattle.std.proofs.Common.{◌≡◌, ◌≤◌, ◌⊎◌, inl, inr, ℕ, Bool, true, false, cond, not, ◌&&◌, ◌||◌, Some, None, Option, List, [], ◌∷◌, ◌++◌, reverse, is_some, refl, sym, ap, subst, ◌∙◌, arith, append_assoc}
use Rattle.std.specs.Prelude.{◌==◌, slice_get}
use Rattle.std.specs.Option.{option_map, unwrap_or}
use mathlib.Core.Bool.{false≢true}
use Rattle.jr_rev.specs.declared.revision.Revision.{Revision}
use Rattle.jr_rev.specs.declared.vector.Pin.{Pin}
use Rattle.jr_rev.specs.Revisions.{is_same}
use Rattle.jr_rev.specs.declared.vector.RevVec.{RevVec}
use Rattle.jr_rev.specs.Vectors.{is_below}
use Rattle.jr_rev.proofs.Bounds.{below_itself}
use Rattle.oak_clash.specs.Clashes.{commit_root}
use Rattle.oak_clash.specs.declared.mark.Mark.{Mark}
use Rattle.oak_clash.specs.declared.mark.Mark.TheVariants as mark
use Rattle.oak_commit.specs.Clashing.{Writer, marked}
use Rattle.oak_doc.specs.declared.document.Document.{Document}
use Rattle.oak_doc.specs.Updates.{of_revision}
use Rattle.oak_machine.specs.declared.event.Draw.{Draw}
use Rattle.oak_machine.specs.declared.event.Event.{Event}
use Rattle.oak_machine.specs.declared.event.Event.TheVariants as event
use Rattle.oak_machine.specs.History.{Past, Begin}
use Rattle.oak_machine.specs.Commits.{draw_of, is_committed, is_drawn, is_ended, is_in_base, is_in_flight, is_commit_of}
use Rattle.oak_machine.specs.Heads.{draws_by, flying}
use Rattle.oak_machine.specs.Laws.{Says, Starts, StartsProper}
use Rattle.oak_machine.specs.Runs.{AreNodes, IsNode, IsRunOf}
use Rattle.oak_machine.specs.Sessions.{is_attached, is_recovered, is_stopped, is_stopped_under, is_stop_of}
use Rattle.oak_node.specs.Memory.{NodeState}
use Rattle.oak_node.specs.Pins.{pin_of}
use Rattle.oak_node.specs.Stops.{with_recovery}
use Rattle.oak_node.proofs.Recovering.{recovered_is}
use Rattle.oak_read.specs.Meaning.{documents_in}
use Rattle.oak_read.specs.declared.reader.Reader.{Reader}
use Rattle.oak_store.specs.Tables.{Table}
use Rattle.core_read.specs.Committing.{IsPartly, IsUnwritten}
use Rattle.core_read.specs.Holds.{root_entry}
use Rattle.core_read.specs.Told.{IsIn}
use Rattle.core_keep.specs.Formers.{Formers}
use Rattle.core_keep.specs.Holding.{IsHoldingStep}
use Rattle.core_keep.specs.Journal.{is_bounded, is_swept}
use Rattle.core_heads.proofs.Locals.{draws_in}
use Rattle.core_heads.proofs.Orders.{and_both, filter_in}
use Rattle.core_heads.proofs.Runs.{held_in_use, sound_run}
use Rattle.core_clash.specs.Core.{IsCleared, IsDead, with_writer}
use Rattle.core_clash.specs.Sessions.{IsTheirs, Running}
use Rattle.core_clash.proofs.Basics.{decide, not_both, same_revision, some_of, writer_other}
use Rattle.core_clash.proofs.Finished.{finish_keeps}
use Rattle.core_clash.proofs.Undone.{drop_keeps}
use Rattle.core_nodes.specs.Nodes.{after_ends, after_recovery}
use Rattle.core_nodes.proofs.Changes.{recovered_changes, recovered_past}
use Rattle.core_nodes.proofs.Lists.{reverse_in}
use Rattle.core_nodes.proofs.Recovering.{ends_before, none_flies, recovered_pins, recovered_pins_apart, recovery_apart, recovery_run}
use Rattle.core_world.specs.Held.{holding_in}
use Rattle.core_world.specs.Kept.{AreAtWork, AreCommitting, AreLayersKept, AreReading, AreSessionsKept, AreSettingsKept, IsKept, IsPinned, IsRootKept, has_written, AreObserving}
use Rattle.core_world.specs.States.{State, core_in, memory_at, node_of, nodes_in, reader_pin, origin}
use Rattle.core_world.specs.Steps.{after_recover}
use Rattle.core_world.proofs.Finishing.{committed_edit, quiet_commits, unswept}
use Rattle.core_world.proofs.Flights.{number_itself, work_quiet}
use Rattle.core_world.proofs.Held.{IsMemoryStep, holding, memory_still, same_kept}
use Rattle.core_world.proofs.Lives.{its_node, node_goes, reader_login, session_there, observer_login}
use Rattle.core_world.proofs.Memories.{at_memory, step_on}
use Rattle.core_world.proofs.Readers.{live_is, pair_held, quiet_reads}
use Rattle.core_world.proofs.Roots.{root_quiet}
use Rattle.core_world.proofs.Setting.{settings_quiet}
use Rattle.core_world.proofs.Undoing.{none_unwritten}
use Rattle.core_world.proofs.Whole.{goes, layers_of}
use Rattle.oak_changes.specs.declared.changes.ChangesReader.{ChangesReader}
use Rattle.core_world.proofs.Letting.{is_bound, lets_calm}
use Rattle.core_world.proofs.Observers.{event_observes, moves_pin_of}
use Rattle.oak_machine.specs.declared.event.Start.{Start}
use Rattle.core_begun.proofs.Runs.{told_run}
use Rattle.core_begun.proofs.Events.{kept_end}
use Rattle.core_begun.specs.Kept.{IsHeldSince as IsHeldPair, IsKeptSince}
use Rattle.core_begun.specs.Told.{IsToldSince, start_in}

never : {A : Type 0} → false ≡ true → A
never h = absurd (false≢true h)

-- a draw is of its revision
pub revision_is : (past : Past) (r : Revision) (d : Draw) → draw_of past r ≡ Some d → d.revision ≡ r
revision_is [] r d h = never (ap is_some h)
revision_is (event.Draw e ∷ past) r d h = by (is_same r e.revision) refl h (λ k. revision_is past r d k)
  where
    by : (b : Bool) → is_same r e.revision ≡ b → cond b (Some e) (draw_of past r) ≡ Some d → (draw_of past r ≡ Some d → d.revision ≡ r) → d.revision ≡ r
    by true s k rest = ap (λ (o : Option Draw). (unwrap_or o e).revision) (sym k) ∙ sym (same_revision r e.revision s)
    by false s k rest = rest k
revision_is (e ∷ past) r d h = revision_is past r d h

-- ---- one draw ends

none_is : {X : Type 0} (o : Option X) → is_some o ≡ false → o ≡ None
none_is None h = refl
none_is (Some x) h = never (sym h)

-- where no document has anything of it, none has it written
unwritten : (o : Option Document) (r : Revision) → ((m : Mark) → marked o r m ≡ false) → is_some (root_entry o r) ≡ false → IsUnwritten o r
unwritten None r marks root = none_unwritten r
unwritten (Some d) r marks root = record { node = ap (λ (o : Option Bool). option_map not o) (none_is (of_revision d.deleted r) (marks mark.Exists)); prop = λ n. none_is _ (marks (mark.Prop n)); root = none_is _ root }

module _ (start : Start) (past : Past) (t : Table) (running : ℕ → Option Running) (a : AreCommitting start past t running) (told : IsToldSince start past) (d : Draw) (drawn : draw_of past d.revision ≡ Some d) (flies : is_in_flight past d.revision ≡ true)
    (stopped : is_stopped past d.revision.cluster ≡ true) (clean : is_committed past d.revision ≡ false → IsCleared (nodes_in t) d.revision) where
  abbrev r : Revision
  r = d.revision

  abbrev later : Past
  later = event.End d.revision ∷ past

  abbrev v : Writer
  v = record (a.writers d.revision) { written = []; due = []; undoing = true }

  unended : is_ended past r ≡ false
  unended = by (is_ended past r) refl
    where
      by : (b : Bool) → is_ended past r ≡ b → b ≡ false
      by true h = not_both (not (is_ended past r)) (and_both (is_drawn past r) (not (is_ended past r)) flies).1 (ap not h)
      by false h = refl

  -- no committer at work is that of a stopped node
  other_than : (q : ℕ) (y : Running) → running q ≡ Some y → is_same y.draw.revision r ≡ false
  other_than q y h = by (decide y.draw.revision r)
    where
      by : (y.draw.revision ≡ r) ⊎ (is_same y.draw.revision r ≡ false) → is_same y.draw.revision r ≡ false
      by (inl e) = never (sym (a.unstopped q y h) ∙ (ap (λ (x : Revision). is_stopped past x.cluster) e ∙ stopped))
      by (inr f) = f

  theirs : (writers : Revision → Writer) → ((q : Revision) → is_same q r ≡ false → writers q ≡ a.writers q) → (q : ℕ) (y : Running) → running q ≡ Some y → IsTheirs later writers q y
  theirs writers same q y h =
      let its = a.theirs q y h in
      record { session = its.session; draw = its.draw; unended = ap (λ b. b || is_ended past y.draw.revision) (other_than q y h) ∙ its.unended; committed = its.committed; writer = same y.draw.revision (other_than q y h) ∙ its.writer }

  -- what is committed
  committed_ends : is_committed past r ≡ true → AreCommitting start later t running
  committed_ends c = record {
    writers = a.writers;
    sound = finish_keeps (core_in start past t a.writers) d a.sound (record { draw = drawn; unended = unended; done = inl c });
    theirs = theirs a.writers (λ q f. refl);
    listed = a.listed;
    kept = kept_end start (documents_in t.documents) past _ a.kept r d drawn flies (λ none p. committed_edit start past t running a told r (unswept start past t running a told r flies) c none);
    unstopped = a.unstopped;
  }

  -- and what isn't
  module _ (u : is_committed past r ≡ false) where
    dead : IsDead past d
    dead = record {
      stopped = stopped;
      draw = drawn;
      uncommitted = u;
    }

    nothing_left : IsKeptSince start (documents_in t.documents) past (λ q. has_written (with_writer a.writers r v q))
    nothing_left = record {
      first = a.kept.first;
      keeps = a.kept.keeps;
      told = a.kept.told;
      separate = a.kept.separate;
      bounded = a.kept.bounded;
      swept = a.kept.swept;
      partly = λ q f at flying none. by q f (decide q r) (a.kept.partly q f at flying none);
    }
      where
        by : (q : Revision) (f : Draw) → (q ≡ r) ⊎ (is_same q r ≡ false) → IsPartly (documents_in t.documents) q f.edit.writes (commit_root f.marks) (has_written (a.writers q)) → IsPartly (documents_in t.documents) q f.edit.writes (commit_root f.marks) (has_written (with_writer a.writers r v q))
        by q f (inl e) part = subst (λ (x : Revision). IsPartly (documents_in t.documents) x f.edit.writes (commit_root f.marks) (has_written (with_writer a.writers r v x))) (sym e)
            (subst (λ (w : Writer). IsPartly (documents_in t.documents) r f.edit.writes (commit_root f.marks) (has_written w)) (sym (Rattle.core_clash.proofs.Basics.writer_mine a.writers r v))
            (record { written_ = λ p h. never h; left = λ p h. unwritten (nodes_in t p) r ((clean u).marks p) ((clean u).roots p) }))
        by q f (inr n) part = subst (λ (w : Writer). IsPartly (documents_in t.documents) q f.edit.writes (commit_root f.marks) (has_written w)) (sym (writer_other a.writers r v q n)) part

    dead_ends : AreCommitting start later t running
    dead_ends = record {
      writers = with_writer a.writers r v;
      sound = drop_keeps (core_in start past t a.writers) d a.sound (record { dead = dead; unended = unended; cleared = clean u });
      theirs = theirs (with_writer a.writers r v) (writer_other a.writers r v);
      listed = a.listed;
      kept = kept_end start (documents_in t.documents) past _ nothing_left r d drawn flies (λ none p. ap (λ (w : Writer). has_written w p) (Rattle.core_clash.proofs.Basics.writer_mine a.writers r v));
      unstopped = a.unstopped;
    }

  pub draw_ends : AreCommitting start later t running
  draw_ends = by (is_committed past r) refl
    where
      by : (b : Bool) → is_committed past r ≡ b → AreCommitting start later t running
      by true c = committed_ends c
      by false u = dead_ends u

-- ---- all of them end

-- ends leave these
ends_are : {X : Type 0} (f : Past → X) → ((r : Revision) (past : Past) → f (event.End r ∷ past) ≡ f past) → (rs : List Revision) (past : Past) → f (after_ends rs past) ≡ f past
ends_are f same [] past = refl
ends_are f same (r ∷ rs) past = ends_are f same rs (event.End r ∷ past) ∙ same r past

-- what ends is behind it
ends_added : (rs : List Revision) (past : Past) → (added : Past) × (after_ends rs past ≡ added ++ past)
ends_added [] past = ([], refl)
ends_added (r ∷ rs) past = let rest = ends_added rs (event.End r ∷ past) in (rest.0 ++ event.End r ∷ [], rest.1 ∙ sym (append_assoc rest.0 (event.End r ∷ []) past))

module _ (starts : Starts) (says : Says) (proper : StartsProper starts) (clusters : ℕ) (sessions : List ℕ) (begin : Begin) (nodes : AreNodes clusters sessions) (t : Table) (running : ℕ → Option Running) (formers : Formers) (reading : ℕ → Option Reader) (observing : ℕ → Option ChangesReader) where
  -- the committers and the readers over some past
  pub record AreWorking (past : Past) : Type 0 where
    pub committing : AreCommitting (start_in clusters begin) past t running
    pub working : AreAtWork sessions past running reading
    pub readers : AreReading (start_in clusters begin) past t formers reading
    pub observers : AreObserving (start_in clusters begin) sessions past t formers observing

  -- an event without a change of documents that touches neither
  module _ (past : Past) (run : IsRunOf starts says clusters sessions begin past) (are : AreWorking past) where
    told_so : IsToldSince (start_in clusters begin) past
    told_so = told_run starts says proper clusters sessions nodes begin past run

    held : (s : ℕ) (r : Reader) → reading s ≡ Some r → IsHeldPair (start_in clusters begin) past r.pin.base r.pin.sweep
    held s r h = pair_held (start_in clusters begin) past r.pin (held_in_use begin past r.pin.base ((sound_run clusters sessions nodes begin starts says past run).bases s r.pin.base (live_is past s r.pin.base (are.readers.at_base s r h)).base)) (are.readers.pairs s r h) (are.readers.above s r h)

    -- readers of changes over such an event
    observes_quiet : (e : Event) → IsRunOf starts says clusters sessions begin (e ∷ past) → ((k : ℕ) → is_stop_of k e ≡ false) → ((q : Revision) → is_commit_of q e ≡ false) → is_bound e ≡ false → ((s : ℕ) → moves_pin_of s e ≡ false) → AreCommitting (start_in clusters begin) (e ∷ past) t running
        → AreObserving (start_in clusters begin) sessions (e ∷ past) t formers observing
    observes_quiet e later on calm unbound stays committing = event_observes starts says clusters sessions begin nodes proper past e later t t formers observing are.observers on (λ s r h. stays s) (λ q. has_written (committing.writers q)) committing.kept
        (lets_calm (start_in clusters begin) t past (λ q. has_written (are.committing.writers q)) are.committing.kept e calm unbound)

    one_ends : (k : ℕ) (r : Revision) → IsRunOf starts says clusters sessions begin (event.End r ∷ past) → r.cluster ≡ k → is_stopped past k ≡ true → is_in_flight past r ≡ true → (is_committed past r ≡ false → IsCleared (nodes_in t) r) → AreWorking (event.End r ∷ past)
    one_ends k r later of stopped flies clean = record {
      committing = committing;
      working = work_quiet sessions past running reading are.working (event.End r) refl (λ q. refl) (λ j. refl);
      readers = quiet_reads (start_in clusters begin) past t formers reading are.readers held (λ q. has_written (are.committing.writers q)) are.committing.kept (event.End r) (λ q. refl) refl (λ s x h. refl);
      observers = observes_quiet (event.End r) later (λ j. refl) (λ q. refl) refl (λ s. refl) committing;
    }
      where
        d : (f : Draw) × (draw_of past r ≡ Some f)
        d = some_of (draw_of past r) (and_both (is_drawn past r) (not (is_ended past r)) flies).0

        same : d.0.revision ≡ r
        same = revision_is past r d.0 d.1

        committing : AreCommitting (start_in clusters begin) (event.End r ∷ past) t running
        committing = subst (λ (x : Revision). AreCommitting (start_in clusters begin) (event.End x ∷ past) t running) same
            (draw_ends (start_in clusters begin) past t running are.committing told_so d.0 (ap (draw_of past) same ∙ d.1) (subst (λ (x : Revision). is_in_flight past x ≡ true) (sym same) flies)
            (subst (λ (x : Revision). is_stopped past x.cluster ≡ true) (sym same) (ap (is_stopped past) of ∙ stopped))
            (subst (λ (x : Revision). is_committed past x ≡ false → IsCleared (nodes_in t) x) (sym same) clean))

    recover_quiet : (k : ℕ) → IsRunOf starts says clusters sessions begin (event.Recover k ∷ past) → AreWorking (event.Recover k ∷ past)
    recover_quiet k later = record {
      committing = quiet_commits (start_in clusters begin) past t running are.committing told_so (event.Recover k) refl (λ j. refl);
      working = work_quiet sessions past running reading are.working (event.Recover k) refl (λ q. refl) (λ j. refl);
      readers = quiet_reads (start_in clusters begin) past t formers reading are.readers held (λ q. has_written (are.committing.writers q)) are.committing.kept (event.Recover k) (λ q. refl) refl (λ s x h. refl);
      observers = observes_quiet (event.Recover k) later (λ j. refl) (λ q. refl) refl (λ s. refl) (quiet_commits (start_in clusters begin) past t running are.committing told_so (event.Recover k) refl (λ j. refl));
    }

  all_end : (k : ℕ) (rs : List Revision) (past : Past) → IsRunOf starts says clusters sessions begin (after_ends rs past) → is_stopped past k ≡ true
      → ((r : Revision) → IsIn r rs → (r.cluster ≡ k) × (is_committed past r ≡ false → IsCleared (nodes_in t) r)) → AreWorking past → AreWorking (after_ends rs past)
  all_end k [] past run stopped of are = are
  all_end k (r ∷ rs) past run stopped of are =
      let before = ends_before begin starts says clusters sessions nodes rs (event.End r ∷ past) run in
      let first = of r (inl refl) in
      all_end k rs (event.End r ∷ past) run stopped (λ q i. of q (inr i)) (one_ends past before.1 are k r before first.0 stopped before.0 first.1)

  recovered_work : (k : ℕ) (past : Past) → IsRunOf starts says clusters sessions begin (after_recovery past k) → is_stopped past k ≡ true
      → ((r : Revision) → r.cluster ≡ k → is_in_flight past r ≡ true → is_committed past r ≡ false → IsCleared (nodes_in t) r) → AreWorking past → AreWorking (after_recovery past k)
  recovered_work k past run stopped clean are = recover_quiet (after_ends (reverse (flying past k)) past) run.1 (all_end k (reverse (flying past k)) past run.1 stopped of are) k run
    where
      of : (r : Revision) → IsIn r (reverse (flying past k)) → (r.cluster ≡ k) × (is_committed past r ≡ false → IsCleared (nodes_in t) r)
      of r i =
          let f = filter_in (is_in_flight past) (draws_by past k) r (reverse_in (flying past k) r i) in
          let node = (draws_in past k r f.0).1 in
          (node, clean r node f.1)

module _ (starts : Starts) (says : Says) (proper : StartsProper starts) (w : State) (k : ℕ) (node : IsNode w.clusters k) (stopped : is_stopped w.past k ≡ true)
    (clean : (r : Revision) → r.cluster ≡ k → is_in_flight w.past r ≡ true → is_committed w.past r ≡ false → IsCleared (nodes_in w.table) r) where
  abbrev ends : Past
  ends = after_ends (reverse (flying w.past k)) w.past

  abbrev recovered : Past
  recovered = after_recovery w.past k

  module _ (kept : AreSessionsKept starts says w) where
    runs : IsRunOf starts says w.clusters w.sessions w.begin (after_recovery w.past k)
    runs = (recovery_run w.begin starts says w.clusters w.sessions kept.nodes k node w.past (memory_at w.memories k) kept.run stopped (kept.memories.memory k node)).0

    works : AreWorking starts says proper w.clusters w.sessions w.begin kept.nodes w.table w.running w.formers w.reading w.observing (after_recovery w.past k)
    works = recovered_work starts says proper w.clusters w.sessions w.begin kept.nodes w.table w.running w.formers w.reading w.observing k w.past runs stopped clean
        (record { committing = kept.committing; working = kept.working; readers = kept.readers; observers = kept.observers })

    turned : (j : ℕ) → (j == k) ≡ false → (k == j) ≡ false
    turned j h = grind (arith, Rattle.std.proofs.lemmas.Bool.Decides.nat_tests)

    pub recover_sessions : AreSessionsKept starts says (after_recover w k)
    recover_sessions = record {
      nodes = kept.nodes;
      run = runs;
      committing = works.committing;
      working = works.working;
      memories = step_on starts says w.clusters w.sessions w.begin kept.nodes w.past w.memories kept.memories k node (with_recovery (memory_at w.memories k)) (after_recovery w.past k)
          (recovery_run w.begin starts says w.clusters w.sessions kept.nodes k node w.past (memory_at w.memories k) kept.run stopped (kept.memories.memory k node)).1
          (recovered_pins w.sessions w.past k (memory_at w.memories k))
          (λ j on h. recovery_apart w.begin starts says w.clusters w.sessions kept.nodes w.past k j (memory_at w.memories j) runs (turned j h) (kept.memories.memory j on))
          (λ j on h. recovered_pins_apart w.sessions w.past k j (memory_at w.memories j) (turned j h) (kept.memories.pins j on))
          (recovered_changes w.past k (memory_at w.memories k) (kept.memories.changes k node))
          (λ j on h. recovered_past w.past k j (memory_at w.memories j) (kept.memories.changes j on));
      readers = works.readers;
      observers = works.observers;
    }

  module _ (kept : AreLayersKept starts says w) where
    ends_root : (rs : List Revision) (past : Past) → IsRootKept w.begin w.clusters past w.table → IsRootKept w.begin w.clusters (after_ends rs past) w.table
    ends_root [] past root = root
    ends_root (r ∷ rs) past root = ends_root rs (event.End r ∷ past) (root_quiet w.clusters w.begin past w.table (event.End r) refl root)

    ends_set : (rs : List Revision) (past : Past) → AreSettingsKept w.sessions past w.table → AreSettingsKept w.sessions (after_ends rs past) w.table
    ends_set [] past set = set
    ends_set (r ∷ rs) past set = ends_set rs (event.End r ∷ past) (settings_quiet w.sessions past w.table w.table (event.End r) refl refl set)

    pub recover_layers : AreLayersKept starts says (after_recover w k)
    recover_layers = record {
      sessions = recover_sessions kept.sessions;
      root = root_quiet w.clusters w.begin ends w.table (event.Recover k) refl (ends_root (reverse (flying w.past k)) w.past kept.root);
      settings = settings_quiet w.sessions ends w.table w.table (event.Recover k) refl refl (ends_set (reverse (flying w.past k)) w.past kept.settings);
    }

    within : (P : NodeState → NodeState → Type 0) → (j : ℕ) → IsNode w.clusters j → P (memory_at w.memories k) (with_recovery (memory_at w.memories k)) → ((j == k) ≡ false → P (memory_at w.memories j) (memory_at w.memories j)) → P (memory_at w.memories j) (memory_at (after_recover w k).memories j)
    within P j on here there = at_memory (λ (i : ℕ) (x : NodeState). P (memory_at w.memories i) x) w.memories k (with_recovery (memory_at w.memories k)) j node.0 (subst (λ (n : ℕ). k ≤ n) (sym kept.sessions.memories.counted) node.1) on.0 here there

    gone_step : IsMemoryStep (memory_at w.memories k) (with_recovery (memory_at w.memories k))
    gone_step = record {
      sweep = subst (λ (v : RevVec). is_below (memory_at w.memories k).sweep v ≡ true) (sym (ap (λ (m : NodeState). m.sweep) (recovered_is (memory_at w.memories k) (kept.sessions.memories.memory k node).memory))) (below_itself (memory_at w.memories k).sweep);
      pins = λ x i. absurd i;
    }

    pub recover_rises : IsHoldingStep (holding_in w) (holding_in (after_recover w k))
    recover_rises =
        let added = ends_added (reverse (flying w.past k)) w.past in
        holding starts says proper w kept (after_recover w k) recover_layers (event.Recover k ∷ added.0) (ap (λ (es : Past). event.Recover k ∷ es) added.1) refl refl refl
        (λ j on. within IsMemoryStep j on gone_step (λ f. memory_still _ _ refl refl))
        (same_kept starts says proper w kept w.table refl)

    -- whoever reads is of another node
    apart : (s : ℕ) → is_some (slice_get w.sessions s) ≡ true → is_stopped_under w.sessions w.past s ≡ false → node_of w s ≡ k → ⊥
    apart s there goes e = false≢true (sym (node_goes starts says proper w kept.sessions s there goes) ∙ (ap (is_stopped w.past) e ∙ stopped))

    other : (s : ℕ) → is_some (slice_get w.sessions s) ≡ true → is_stopped_under w.sessions w.past s ≡ false → pin_of (memory_at (after_recover w k).memories (node_of w s)) s ≡ pin_of (memory_at w.memories (node_of w s)) s
    other s there goes = by (node_of w s == k) refl
      where
        by : (b : Bool) → (node_of w s == k) ≡ b → pin_of (memory_at (after_recover w k).memories (node_of w s)) s ≡ pin_of (memory_at w.memories (node_of w s)) s
        by true e = absurd (apart s there goes (Rattle.core_world.proofs.Flights.same_number (node_of w s) k e))
        by false e = at_memory (λ (i : ℕ) (x : NodeState). (i == k) ≡ false → pin_of x s ≡ pin_of (memory_at w.memories i) s) w.memories k (with_recovery (memory_at w.memories k)) (node_of w s) node.0 (subst (λ (n : ℕ). k ≤ n) (sym kept.sessions.memories.counted) node.1)
            (its_node starts says proper w kept.sessions s there).0 (λ f. never (sym f ∙ number_itself k)) (λ f g. refl) e

    pub recover_pinned : IsPinned w → IsPinned (after_recover w k)
    recover_pinned pinned = record {
      reads = λ s r h.
          ap (λ b. cond b (reader_pin w.table s) (pin_of (memory_at (after_recover w k).memories (node_of w s)) s)) (ends_are (λ past. is_attached past s) (λ q past. refl) (reverse (flying w.past k)) w.past)
          ∙ (ap (λ (o : Option Pin). cond (is_attached w.past s) (reader_pin w.table s) o) (other s (session_there starts says proper w kept.sessions s (reader_login starts says proper w kept.sessions s r h)) (kept.sessions.working.reads s r h))
          ∙ pinned.reads s r h);
      observes = λ s r h. other s (session_there starts says proper w kept.sessions s (observer_login starts says proper w kept.sessions s r h)) (kept.sessions.observers.goes s r h) ∙ pinned.observes s r h;
    }

  -- the memory of a stopped node is recovered, once no document has anything of what it left
  pub recover_whole : IsKept starts says w → IsKept starts says (after_recover w k)
  recover_whole kept =
      let layers = layers_of starts says w kept in
      goes starts says proper w kept (after_recover w k) refl refl (recover_layers layers)
      (λ q. ends_are (λ past. is_bounded past q) (λ r past. refl) (reverse (flying w.past k)) w.past)
      (λ q. ends_are (λ past. is_swept past q) (λ r past. refl) (reverse (flying w.past k)) w.past)
      (recover_rises layers) (recover_pinned layers kept.pinned)

-- ---- ever after

module _ (starts : Starts) (says : Says) (w : State) (kept : AreSessionsKept starts says w) (k : ℕ) (recovered_then : is_recovered w.past k ≡ true) (r : Revision) (of : r.cluster ≡ k) where
  -- nothing of a recovered node is in flight
  pub none_in_flight : is_in_flight w.past r ≡ false
  none_in_flight = none_flies w.begin starts says w.clusters w.sessions kept.nodes w.past kept.run k recovered_then r of

  pub has_ended : is_drawn w.past r ≡ true → is_ended w.past r ≡ true
  has_ended drawn = by (is_drawn w.past r) (is_ended w.past r) drawn none_in_flight
    where
      by : (a b : Bool) → a ≡ true → (a && not b) ≡ false → b ≡ true
      by a true h i = refl
      by true false h i = never (sym i)
      by false false h i = never h
