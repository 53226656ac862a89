-- The steps of a commit keep the world.
use Rattle.std.proofs.Common.{cond, ◌≡◌, ◌⊎◌, inl, inr, ℕ, true, false, not, ◌||◌, Some, None, Option, Ok, Err, Result, List, [], ◌∷◌, ◌++◌, is_some, refl, sym, ap, subst, ◌∙◌}
use Rattle.std.specs.Prelude.{◌==◌, slice_get}
use Rattle.std.specs.Option.{option_map_or}
use Rattle.jr_path.specs.declared.path.Path.{Path}
use Rattle.jr_path.specs.declared.path.Item.{Item}
use Rattle.jr_path.specs.declared.path.DocId.TheVariants as id
use Rattle.jr_rev.specs.declared.revision.Revision.{Revision}
use Rattle.oak_clash.specs.declared.mark.MarkAt.{MarkAt}
use Rattle.oak_clash.specs.Clashes.{commit_root}
use Rattle.oak_commit.specs.Clashing.{Met, Writer, collision, found, mark_op, noted}
use Rattle.oak_commit.specs.Writing.{last_op, write_op}
use Rattle.oak_doc.specs.declared.document.Document.{Document}
use Rattle.oak_doc.specs.declared.update.OpFault.{OpFault}
use Rattle.oak_doc.specs.declared.update.OpFault.TheVariants as fault
use Rattle.oak_doc.specs.declared.update.Kept.TheVariants as kept_as
use Rattle.oak_doc.specs.declared.update.Cond.TheVariants.{NoCollision}
use Rattle.oak_doc.specs.Updates.{after_changes, updated}
use Rattle.oak_machine.specs.declared.event.Draw.{Draw}
use Rattle.oak_machine.specs.declared.event.Event.{Event}
use Rattle.oak_machine.specs.declared.event.Event.TheVariants as event
use Rattle.oak_machine.specs.declared.event.StepKind.TheVariants as kind
use Rattle.oak_machine.specs.Commits.{marks_of}
use Rattle.oak_machine.specs.Laws.{Says, Starts, StartsProper}
use Rattle.oak_machine.specs.Runs.{MayFollow, MayRefuse}
use Rattle.oak_machine.specs.Sessions.{has_left, has_login, is_end_of_session, is_stop_of}
use Rattle.oak_store.specs.Tables.{Table, after_undo, next_number}
use Rattle.core_clash.specs.Core.{root_of}
use Rattle.oak_commit.specs.Looking.{whole}
use Rattle.core_clash.specs.Sessions.{IsTheirs, Running}
use Rattle.core_clash.specs.Sound.{Cause}
use Rattle.core_clash.proofs.Steps.{may_refuse_at_last, may_refuse_at_mark}
use Rattle.core_clash.proofs.Updates.{last_is, mark_is}
use Rattle.core_nodes.proofs.Pins.{leaves_both}
use Rattle.core_nodes.specs.Nodes.{is_of_node, leaves_memory, moved_pin}
use Rattle.core_world.specs.States.{State, core_in, history_in, nodes_in, with_session, moved_in, origin}
use Rattle.core_world.specs.Steps.{after_last, after_mark, after_undoing, after_update, after_want, after_write, after_write_in_want, lasted_by, marked_by, refused}
use Rattle.core_world.specs.Kept.{AreAtWork, AreCommitting, AreSessionsKept, has_written}
use Rattle.core_world.proofs.Committers.{session_twice, work_session}
use Rattle.core_world.proofs.Flights.{draws_nothing, number_itself, still_on, work_quiet}
use Rattle.core_world.proofs.Lasting.{commit_follows, commit_lets, last_commits, may_last}
use Rattle.core_world.proofs.Lives.{reader_held, told}
use Rattle.core_world.proofs.Letting.{LetsRead, lets_calm}
use Rattle.core_world.proofs.Logged.{IsDrawnBy, drawn_by}
use Rattle.core_world.proofs.Marking.{mark_cause, mark_commits, mark_lets, may_mark}
use Rattle.core_world.proofs.Memories.{aside}
use Rattle.core_world.proofs.Readers.{event_reads, moved_base}
use Rattle.core_world.proofs.Refusing.{refuse_commits, want_commits}
use Rattle.core_world.proofs.Undoing.{undo_commits, undo_lets}
use Rattle.core_world.proofs.Writing.{write_commits, write_lets}
use Rattle.core_world.proofs.Observers.{event_observes, moves_none}

module _ (starts : Starts) (says : Says) (proper : StartsProper starts) (w : State) (kept : AreSessionsKept starts says w) where
  module _ (s : ℕ) (x : Running) (here : w.running s ≡ Some x) where
    pub its : IsTheirs w.past kept.committing.writers s x
    its = kept.committing.theirs s x here

    pub drawn : IsDrawnBy w.sessions w.past x.draw.revision x.draw
    drawn = drawn_by starts says w.clusters w.sessions w.begin w.past x.draw.revision x.draw kept.run its.draw

    pub login : has_login w.past s ≡ true
    login = subst (λ (n : ℕ). has_login w.past n ≡ true) its.session drawn.login

    pub on_its_node : slice_get w.sessions s ≡ Some x.draw.revision.cluster
    on_its_node = subst (λ (n : ℕ). slice_get w.sessions n ≡ Some x.draw.revision.cluster) its.session drawn.node

    -- an event of this session that is neither a draw, nor an end, nor one of the pins, with a change of one document
    module _ (e : Event) (u : Table) (y : Running) (may : MayFollow starts says (history_in w) e) (draws : draws_nothing e ≡ true) (ends : (q : ℕ) → is_end_of_session q e ≡ false) (on : (k : ℕ) → is_stop_of k e ≡ false) (unbased : moved_base e ≡ None)
        (leaves : (j : ℕ) → leaves_memory j e ≡ true) (unmoved : moved_pin e ≡ None) (committing : AreCommitting (origin w) (e ∷ w.past) u (with_session w.running s (Some y)))
        (lets : LetsRead (origin w) w.table u w.past (e ∷ w.past)) where
      stay_on : (q : ℕ) → has_left w.past q ≡ false → has_left (e ∷ w.past) q ≡ false
      stay_on q h = ap (λ b. b || has_left w.past q) (ends q) ∙ h

      working : AreAtWork w.sessions (e ∷ w.past) (with_session w.running s (Some y)) w.reading
      working = work_session w.sessions (e ∷ w.past) w.running w.reading (work_quiet w.sessions w.past w.running w.reading kept.working e draws ends on) s y (stay_on s (kept.working.stays s x here)) (still_on w.sessions w.past e on s ∙ kept.working.goes s x here)

      pub with_event : AreSessionsKept starts says (record w { past = e ∷ w.past; table = u; running = with_session w.running s (Some y) })
      with_event = record {
        nodes = kept.nodes;
        run = (may, kept.run);
        committing = committing;
        working = working;
        memories = aside starts says w.clusters w.sessions w.begin kept.nodes w.past w.memories kept.memories e (may, kept.run) leaves (λ j. leaves_both w.sessions j e (leaves j) (ap (λ o. option_map_or (λ n. not (is_of_node w.sessions j n)) o true) unmoved));
        readers = event_reads (origin w) w.past w.table w.formers w.reading kept.readers (reader_held starts says proper w kept) e u lets (λ q r h. ap (λ o. option_map_or (λ n. n == q) o false) unbased);
        observers = event_observes starts says w.clusters w.sessions w.begin kept.nodes proper w.past e (may, kept.run) w.table u w.formers w.observing kept.observers on (λ q r h. moves_none e unmoved q)
            (λ r. has_written (committing.writers r)) committing.kept lets;
      }

    module _ (uncommitted : x.committed ≡ false) (going : x.writer.undoing ≡ false) where
      -- ---- a write

      pub write_keeps : (p : Path) (rest : List Path) → x.writer.due ≡ [] → x.writer.left ≡ p ∷ rest → AreSessionsKept starts says (after_write w s x p rest)
      write_keeps p rest unmet next =
          let op = write_op x.draw.revision x.draw.edit.writes x.draw.marks p in
          let wrote : Writer = record x.writer { left = rest; written = x.writer.written ++ p ∷ []; due = found x.draw.base x.draw.revision p x.draw.marks (whole p (nodes_in w.table p) (moved_in w.table p)) } in
          with_event (event.Went s kind.Write) (after_update w.table op) (record { draw = x.draw; writer = wrote; committed = x.committed }) (login, kept.working.stays s x here) refl (λ q. refl) (λ k. refl) refl (λ j. refl) refl
          (subst (λ (n : ℕ). AreCommitting (origin w) (event.Went n kind.Write ∷ w.past) (after_update w.table op) (with_session w.running s (Some (record { draw = x.draw; writer = wrote; committed = x.committed })))) its.session
          (write_commits (origin w) w.past w.table w.running kept.committing (told starts says proper w kept) s x here uncommitted going p rest unmet next))
          (subst (λ (n : ℕ). LetsRead (origin w) w.table (after_update w.table op) w.past (event.Went n kind.Write ∷ w.past)) its.session
          (write_lets (origin w) w.past w.table w.running kept.committing (told starts says proper w kept) s x here uncommitted going p rest unmet next))

      -- ---- a refusal

      pub refused_keeps : (item : Item) (o : Revision) → Cause w.past x.draw.revision item o → MayRefuse w.past x.draw.revision item o → AreSessionsKept starts says (refused w s x item o)
      refused_keeps item o cause may = with_event (event.Refuse x.draw.revision item o) w.table (record { draw = x.draw; writer = record x.writer { due = []; undoing = true }; committed = x.committed }) may refl (λ q. refl) (λ k. refl) refl (λ j. refl) refl
          (refuse_commits (origin w) w.past w.table w.running kept.committing (told starts says proper w kept) s x here uncommitted going item o cause)
          (lets_calm (origin w) w.table w.past (λ r. has_written (kept.committing.writers r)) kept.committing.kept (event.Refuse x.draw.revision item o) (λ q. refl) refl)

      -- ---- a mark

      module _ (f : Met) (rest : List Met) (next : x.writer.due ≡ f ∷ rest) where
        abbrev root : Path
        root = root_of w.past f.other

        abbrev doc : Document
        doc = after_changes (nodes_in w.table root) (mark_op root f.other x.draw.revision f.theirs) (next_number w.table)

        marked_keeps : noted (nodes_in w.table root) f.other ≡ false → AreSessionsKept starts says (marked_by w s x f rest (Ok doc))
        marked_keeps free =
            let now : Table = Rattle.oak_store.specs.Tables.with_document w.table (id.Node root) doc (next_number w.table) in
            with_event (event.Went s kind.Mark) now (record { draw = x.draw; writer = record x.writer { due = rest }; committed = x.committed }) (login, kept.working.stays s x here) refl (λ q. refl) (λ k. refl) refl (λ j. refl) refl
            (subst (λ (n : ℕ). AreCommitting (origin w) (event.Went n kind.Mark ∷ w.past) now (with_session w.running s (Some (record { draw = x.draw; writer = record x.writer { due = rest }; committed = x.committed })))) its.session
            (mark_commits (origin w) w.past w.table w.running kept.committing (told starts says proper w kept) s x here uncommitted going f rest next free))
            (subst (λ (n : ℕ). LetsRead (origin w) w.table now w.past (event.Went n kind.Mark ∷ w.past)) its.session
            (mark_lets (origin w) w.past w.table w.running kept.committing (told starts says proper w kept) s x here uncommitted going f rest next free))

        pub mark_keeps : AreSessionsKept starts says (after_mark w s x f rest)
        mark_keeps = by (mark_is (nodes_in w.table root) w.past x.draw.revision f (next_number w.table))
          where
            by : ((noted (nodes_in w.table root) f.other ≡ false) × (updated (nodes_in w.table root) (mark_op root f.other x.draw.revision f.theirs) (next_number w.table) ≡ Ok doc)) ⊎ ((g : OpFault) × (updated (nodes_in w.table root) (mark_op root f.other x.draw.revision f.theirs) (next_number w.table) ≡ Err g)) → AreSessionsKept starts says (after_mark w s x f rest)
            by (inl h) = subst (λ (o : Result Document OpFault). AreSessionsKept starts says (marked_by w s x f rest o)) (sym h.1) (marked_keeps h.0)
            by (inr h) = subst (λ (o : Result Document OpFault). AreSessionsKept starts says (marked_by w s x f rest o)) (sym h.1)
                (refused_keeps f.mine f.other (mark_cause (origin w) w.past w.table w.running kept.committing (told starts says proper w kept) s x here uncommitted going f rest next)
                (may_refuse_at_mark (core_in (origin w) w.past w.table kept.committing.writers) x.draw f rest kept.committing.sound (may_mark (origin w) w.past w.table w.running kept.committing (told starts says proper w kept) s x here uncommitted going f rest next)))

      -- ---- the last write

      module _ (unmet : x.writer.due ≡ []) (none_left : x.writer.left ≡ []) where
        marks_are : marks_of w.past x.draw.revision ≡ x.draw.marks
        marks_are = ap (λ (o : Option Draw). option_map_or (λ (d : Draw). d.marks) o []) its.draw

        abbrev last_doc : Document
        last_doc = after_changes (nodes_in w.table (commit_root x.draw.marks)) (last_op x.draw.revision x.draw.marks) (next_number w.table)

        abbrev IsLast : List MarkAt → Type 0
        IsLast ms =
            ((is_some (collision (nodes_in w.table (commit_root ms)) x.draw.revision) ≡ false) × (updated (nodes_in w.table (commit_root ms)) (last_op x.draw.revision ms) (next_number w.table) ≡ Ok (after_changes (nodes_in w.table (commit_root ms)) (last_op x.draw.revision ms) (next_number w.table))))
            ⊎ ((e : Revision × Item) × (collision (nodes_in w.table (commit_root ms)) x.draw.revision ≡ Some e) × (updated (nodes_in w.table (commit_root ms)) (last_op x.draw.revision ms) (next_number w.table) ≡ Err (fault.Unmet (NoCollision x.draw.revision) (kept_as.Entry e.0 e.1))))

        lasts : IsLast x.draw.marks
        lasts = subst (λ (ms : List MarkAt). IsLast ms) marks_are (last_is (nodes_in w.table (root_of w.past x.draw.revision)) w.past x.draw.revision (next_number w.table))

        committed_keeps : is_some (collision (nodes_in w.table (commit_root x.draw.marks)) x.draw.revision) ≡ false → AreSessionsKept starts says (lasted_by w s x (Ok last_doc))
        committed_keeps free =
            with_event (event.Commit x.draw.revision) (Rattle.oak_store.specs.Tables.with_document w.table (id.Node (commit_root x.draw.marks)) last_doc (next_number w.table)) (record { draw = x.draw; writer = x.writer; committed = true })
            (commit_follows (origin w) w.past w.table w.running kept.committing (told starts says proper w kept) s x here uncommitted going unmet none_left free) refl (λ q. refl) (λ k. refl) refl (λ j. refl) refl
            (last_commits (origin w) w.past w.table w.running kept.committing (told starts says proper w kept) s x here uncommitted going unmet none_left free)
            (commit_lets (origin w) w.past w.table w.running kept.committing (told starts says proper w kept) s x here uncommitted going unmet none_left free)

        pub last_keeps : AreSessionsKept starts says (after_last w s x)
        last_keeps = by lasts
          where
            at_root : (e : Revision × Item) → collision (nodes_in w.table (commit_root x.draw.marks)) x.draw.revision ≡ Some e → collision (nodes_in w.table (root_of w.past x.draw.revision)) x.draw.revision ≡ Some e
            at_root e h = subst (λ (ms : List MarkAt). collision (nodes_in w.table (commit_root ms)) x.draw.revision ≡ Some e) (sym marks_are) h

            by : IsLast x.draw.marks → AreSessionsKept starts says (after_last w s x)
            by (inl h) = subst (λ (o : Result Document OpFault). AreSessionsKept starts says (lasted_by w s x o)) (sym h.1) (committed_keeps h.0)
            by (inr h) = subst (λ (o : Result Document OpFault). AreSessionsKept starts says (lasted_by w s x o)) (sym h.2)
                (refused_keeps h.0.1 h.0.0 (kept.committing.sound.caused (commit_root x.draw.marks) x.draw.revision h.0.0 h.0.1 h.1)
                (may_refuse_at_last (core_in (origin w) w.past w.table kept.committing.writers) x.draw h.0.0 h.0.1 kept.committing.sound (may_last (origin w) w.past w.table w.running kept.committing (told starts says proper w kept) s x here uncommitted going unmet none_left) (at_root h.0 h.1)))

      -- ---- want of memory

      pub want_keeps : AreSessionsKept starts says (after_want w s x)
      want_keeps = record {
        nodes = kept.nodes;
        run = kept.run;
        committing = want_commits (origin w) w.past w.table w.running kept.committing (told starts says proper w kept) s x here uncommitted going;
        working = work_session w.sessions w.past w.running w.reading kept.working s _ (kept.working.stays s x here) (kept.working.goes s x here);
        memories = kept.memories;
        readers = kept.readers;
        observers = kept.observers;
      }

    -- ---- undoing

    pub undo_keeps : (p : Path) (rest : List Path) → x.committed ≡ false → x.writer.undoing ≡ true → x.writer.written ≡ p ∷ rest → AreSessionsKept starts says (after_undoing w s x p rest)
    undo_keeps p rest uncommitted undoing next =
        let now : Table = after_undo w.table (id.Node p) x.draw.revision in
        with_event (event.Went s kind.Undo) now (record { draw = x.draw; writer = record x.writer { written = rest }; committed = x.committed }) (login, kept.working.stays s x here) refl (λ q. refl) (λ k. refl) refl (λ j. refl) refl
        (subst (λ (n : ℕ). AreCommitting (origin w) (event.Went n kind.Undo ∷ w.past) now (with_session w.running s (Some (record { draw = x.draw; writer = record x.writer { written = rest }; committed = x.committed })))) its.session
        (undo_commits (origin w) w.past w.table w.running kept.committing (told starts says proper w kept) s x here uncommitted undoing p rest next))
        (subst (λ (n : ℕ). LetsRead (origin w) w.table now w.past (event.Went n kind.Undo ∷ w.past)) its.session
        (undo_lets (origin w) w.past w.table w.running kept.committing (told starts says proper w kept) s x here uncommitted undoing p rest next))

-- a write, and memory refused for what is met there
module _ (starts : Starts) (says : Says) (proper : StartsProper starts) (w : State) (kept : AreSessionsKept starts says w) (s : ℕ) (x : Running) (here : w.running s ≡ Some x) (uncommitted : x.committed ≡ false) (going : x.writer.undoing ≡ false)
    (p : Path) (rest : List Path) (unmet : x.writer.due ≡ []) (next : x.writer.left ≡ p ∷ rest) where
  abbrev wrote : Running
  wrote = record { draw = x.draw; writer = record x.writer { left = rest; written = x.writer.written ++ p ∷ []; due = found x.draw.base x.draw.revision p x.draw.marks (whole p (nodes_in w.table p) (moved_in w.table p)) }; committed = x.committed }

  abbrev wants : Running
  wants = record { draw = x.draw; writer = record x.writer { left = rest; written = x.writer.written ++ p ∷ []; due = []; undoing = true; wants = true }; committed = x.committed }

  pub write_in_want_keeps : AreSessionsKept starts says (after_write_in_want w s x p rest)
  write_in_want_keeps =
      let written = write_keeps starts says proper w kept s x here uncommitted going p rest unmet next in
      let there : (after_write w s x p rest).running s ≡ Some wrote = ap (λ b. cond b (Some wrote) (w.running s)) (number_itself s) in
      subst (λ (run : ℕ → Option Running). AreSessionsKept starts says (record (after_write w s x p rest) { running = run })) (session_twice w.running s (Some wrote) (Some wants))
      (want_keeps starts says proper (after_write w s x p rest) written s wrote there uncommitted going)
