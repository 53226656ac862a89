-- The draw of a commit, and the end of its revision, keep the world.
use Rattle.std.proofs.Common.{◌≡◌, ℕ, ◌≤◌, Bool, true, false, cond, Some, None, Option, List, ◌∷◌, is_some, refl, sym, ap, subst, ◌∙◌}
use Rattle.std.specs.Prelude.{slice_get}
use Rattle.std.specs.Option.{option_map_or, unwrap_or}
use mathlib.Core.Bool.{false≢true}
use Rattle.jr_rev.specs.declared.revision.Revision.{Revision}
use Rattle.jr_rev.specs.declared.vector.Pin.{Pin}
use Rattle.jr_rev.specs.declared.vector.RevVec.{RevVec}
use Rattle.jr_rev.specs.Revisions.{is_before}
use Rattle.jr_tree.specs.declared.edit.Edit.{Edit}
use Rattle.oak_clash.specs.Clashes.{marked_paths}
use Rattle.oak_clash.specs.declared.mark.MarkAt.{MarkAt}
use Rattle.oak_machine.specs.declared.event.Draw.{Draw}
use Rattle.oak_machine.specs.declared.event.Event.{Event}
use Rattle.oak_machine.specs.declared.event.Event.TheVariants as event
use Rattle.oak_machine.specs.History.{Past}
use Rattle.oak_machine.specs.Laws.{Says, Starts, StartsProper}
use Rattle.oak_machine.specs.Runs.{IsNode, IsRunOf, MayDraw}
use Rattle.oak_machine.specs.Sessions.{base_of, has_left, has_login, is_attached, is_drawing, is_recovered, is_stopped, is_stopped_under, pinned_at, session_base}
use Rattle.oak_node.specs.Heads.{finished, next_draw, with_draw}
use Rattle.oak_node.specs.Memory.{NodeState, own_entry}
use Rattle.oak_node.specs.Pins.{pin_of}
use Rattle.core_clash.specs.Collecting.{SeesBounded}
use Rattle.core_clash.specs.Sessions.{IsTheirs, Running}
use Rattle.core_nodes.specs.Nodes.{IsPair, base_of_pin}
use Rattle.core_nodes.proofs.Events.{next_is}
use Rattle.core_nodes.proofs.Pins.{alive_base, session_owner}
use Rattle.core_world.specs.States.{State, base_in, history_in, memory_at, memory_of, node_of, with_memory, with_session, origin}
use Rattle.core_world.specs.Steps.{IsThrough, after_draw, after_finish, after_notes, beginning, draw_in, memories_with}
use Rattle.core_world.specs.Kept.{AreAtWork, AreMemories, AreSessionsKept}
use Rattle.core_world.proofs.Committers.{at_idle, at_idle_now, at_others, at_session}
use Rattle.core_world.proofs.Commits.{drawn, its, on_its_node}
use Rattle.core_world.proofs.Drawing.{draw_commits}
use Rattle.core_world.proofs.Finishing.{finish_commits, quiet_commits}
use Rattle.std.specs.Prelude.{◌==◌}
use Rattle.core_world.proofs.Flights.{drawn_idle, ended_idle, same_number, still_idle, was_drawing, was_drawn, work_quiet}
use Rattle.core_world.proofs.Lives.{reads_calm, its_node, on_node, session_there, told, observes_calm}
use Rattle.core_world.proofs.Memories.{aside, draw_memories, end_memories, set_here}
use Rattle.core_world.proofs.Readers.{detached_base, session_based, some_pinned}

some_base : (o : Option RevVec) → is_some o ≡ true → (v : RevVec) × (o ≡ Some v)
some_base None h = absurd (false≢true h)
some_base (Some v) h = (v, refl)

module _ (starts : Starts) (says : Says) (proper : StartsProper starts) (w : State) (kept : AreSessionsKept starts says w) where
  -- ---- the pin of a session

  -- a node's memory has the session's pin, at its base
  pub its_base : (s : ℕ) → is_some (slice_get w.sessions s) ≡ true → is_recovered w.past (node_of w s) ≡ false → base_of_pin (pin_of (memory_of w s) s) ≡ session_base w.past s
  its_base s there alive =
      (kept.memories.pins (node_of w s) (its_node starts says proper w kept s there)).bases s
      ∙ (alive_base w.sessions w.past (node_of w s) alive s
      ∙ session_owner w.sessions w.past (node_of w s) s (on_node starts says proper w kept s there))

  pub its_pair : (s : ℕ) → is_some (slice_get w.sessions s) ≡ true → (pin : Pin) → pin_of (memory_of w s) s ≡ Some pin → IsPair pin.base pin.sweep
  its_pair s there pin h = (kept.memories.pins (node_of w s) (its_node starts says proper w kept s there)).pairs s pin h

  module _ (s : ℕ) (alive : is_recovered w.past (node_of w s) ≡ false) (login : has_login w.past s ≡ true) (stays : has_left w.past s ≡ false) where
    pinned_there : base_of_pin (pin_of (memory_of w s) s) ≡ pinned_at w.past s
    pinned_there =
        let v = some_base (pinned_at w.past s) (some_pinned w.past s login) in
        its_base s (session_there starts says proper w kept s login) alive ∙ (session_based w.past s v.0 login stays v.1 ∙ sym v.1)

    -- a session that is there has a pin
    pub some_pin : (pin : Pin) × (pin_of (memory_of w s) s ≡ Some pin)
    some_pin = by (pin_of (memory_of w s) s) refl (ap is_some pinned_there ∙ some_pinned w.past s login)
      where
        by : (o : Option Pin) → pin_of (memory_of w s) s ≡ o → is_some (base_of_pin o) ≡ true → (pin : Pin) × (pin_of (memory_of w s) s ≡ Some pin)
        by None e h = absurd (false≢true h)
        by (Some pin) e h = (pin, e)

    -- the base of the session's pin
    pub pinned_is : pinned_at w.past s ≡ Some (base_in w s)
    pinned_is =
        sym pinned_there
        ∙ (ap base_of_pin some_pin.1
        ∙ sym (ap (λ (o : Option Pin). Some (option_map_or (λ (pin : Pin). pin.base) o (memory_of w s).head)) some_pin.1))

    -- is its base, where it isn't attached
    pub base_is : is_attached w.past s ≡ false → base_of w.past s ≡ Some (base_in w s)
    base_is detached = detached_base w.past s detached ∙ pinned_is

    -- ---- a draw

    module _ (on : is_stopped_under w.sessions w.past s ≡ false) (detached : is_attached w.past s ≡ false) (none : w.running s ≡ None) (edit : Edit) (marks : List MarkAt) (lawful : starts (history_in w) s edit marks) (bounded : SeesBounded w.past (base_in w s)) where
      abbrev d : Draw
      d = draw_in w s edit marks

      there : is_some (slice_get w.sessions s) ≡ true
      there = session_there starts says proper w kept s login

      node : IsNode w.clusters (node_of w s)
      node = its_node starts says proper w kept s there

      same_node : d.revision.cluster ≡ node_of w s
      same_node = (kept.memories.memory (node_of w s) node).cluster

      pub may_draw : MayDraw starts (history_in w) (draw_in w s edit marks)
      may_draw = record {
        running = on;
        login = login;
        detached = detached;
        idle = kept.working.idle s none on;
        base = base_is detached;
        cluster = on_node starts says proper w kept s there ∙ ap (λ k. Some k) (sym same_node);
        next = next_is w.begin w.clusters w.past (node_of w s) (memory_of w s) (kept.memories.memory (node_of w s) node) ∙ ap (λ k. Rattle.oak_machine.specs.Heads.drawn_next w.clusters w.begin w.past k) (sym same_node);
        lawful = lawful;
      }

      apart : (q : ℕ) → is_stopped_under w.sessions w.past q ≡ true → (q == s) ≡ false
      apart q stopped = by (q == s) refl
        where
          by : (b : Bool) → (q == s) ≡ b → b ≡ false
          by false e = refl
          by true e = absurd (false≢true (sym on ∙ (ap (is_stopped_under w.sessions w.past) (sym (same_number q s e)) ∙ stopped)))

      run : IsRunOf starts says w.clusters w.sessions w.begin (event.Draw d ∷ w.past)
      run = (may_draw, kept.run)

      working : AreAtWork w.sessions (event.Draw d ∷ w.past) (with_session w.running s (Some (beginning d))) w.reading
      working = record {
        idle = at_idle (λ q. is_stopped_under w.sessions w.past q ≡ false → is_drawing (event.Draw d ∷ w.past) q ≡ false) w.running s (beginning d) (λ q f h goes. drawn_idle d w.past q f (kept.working.idle q h goes));
        stays = at_session (λ q (z : Running). has_left w.past q ≡ false) w.running s (beginning d) stays (λ q z f h. kept.working.stays q z h);
        goes = at_session (λ q (z : Running). is_stopped_under w.sessions w.past q ≡ false) w.running s (beginning d) on (λ q z f h. kept.working.goes q z h);
        reads = kept.working.reads;
        halted = λ q stopped drawing. kept.working.halted q stopped (was_drawn d w.past q (apart q stopped) drawing);
      }

      pub draw_keeps : AreSessionsKept starts says (after_draw w s edit marks (marked_paths marks))
      draw_keeps = record {
        nodes = kept.nodes;
        run = run;
        committing = draw_commits starts says proper w.clusters w.sessions w.begin kept.nodes w.past w.table w.running kept.committing d run bounded;
        working = working;
        memories = subst (λ (k : ℕ). AreMemories w.begin w.clusters w.sessions (event.Draw d ∷ w.past) (with_memory w.memories k (after_notes d.revision (with_draw (memory_at w.memories k) d.revision) (marked_paths marks)))) same_node
            (draw_memories starts says w.clusters w.sessions w.begin kept.nodes w.past w.memories kept.memories d run (ap (λ k. next_draw (memory_at w.memories k)) (sym same_node)));
        readers = reads_calm starts says proper w kept (event.Draw d) (λ q. refl) refl (λ q r h. refl);
        observers = observes_calm starts says proper w kept (event.Draw d) run (λ k. refl) (λ q. refl) refl (λ q r h. refl) (with_session w.running s (Some (beginning d)))
            (draw_commits starts says proper w.clusters w.sessions w.begin kept.nodes w.past w.table w.running kept.committing d run bounded);
      }

  -- ---- the end of a revision

  module _ (s : ℕ) (x : Running) (here : w.running s ≡ Some x) (through : IsThrough x) where
    abbrev r : Revision
    r = x.draw.revision

    abbrev later : Past
    later = event.End x.draw.revision ∷ w.past

    abbrev done : NodeState
    done = finished (memory_of w s) x.draw.revision

    mine : IsTheirs w.past kept.committing.writers s x
    mine = its starts says proper w kept s x here

    -- its node is that of the session
    at_node : node_of w s ≡ r.cluster
    at_node = ap (λ o. unwrap_or o 0) (on_its_node starts says proper w kept s x here)

    its_cluster : IsNode w.clusters r.cluster
    its_cluster = kept.nodes.node s r.cluster (on_its_node starts says proper w kept s x here)

    run_ended : IsRunOf starts says w.clusters w.sessions w.begin later
    run_ended = (Rattle.core_clash.proofs.Pasts.in_flight w.past r x.draw mine.draw mine.unended, kept.run)

    ended_memories : AreMemories w.begin w.clusters w.sessions later (memories_with w s done)
    ended_memories = subst (λ (k : ℕ). AreMemories w.begin w.clusters w.sessions later (with_memory w.memories k (finished (memory_at w.memories k) r))) (sym at_node)
        (end_memories starts says w.clusters w.sessions w.begin kept.nodes w.past w.memories kept.memories r its_cluster run_ended)

    -- no other session's committer ends
    now_idle : is_drawing later s ≡ false
    now_idle = subst (λ (n : ℕ). is_drawing later n ≡ false) mine.session (ended_idle starts says w.clusters w.sessions w.begin w.past r x.draw kept.run mine.draw mine.unended)

    ended_kept : AreSessionsKept starts says (record w { past = event.End x.draw.revision ∷ w.past; memories = memories_with w s (finished (memory_of w s) x.draw.revision); running = with_session w.running s None })
    ended_kept = record {
      nodes = kept.nodes;
      run = run_ended;
      committing = finish_commits (origin w) w.past w.table w.running kept.committing (told starts says proper w kept) s x here through;
      working = record {
        idle = at_idle_now (λ q. is_stopped_under w.sessions w.past q ≡ false → is_drawing later q ≡ false) w.running s (λ goes. now_idle) (λ q f h goes. still_idle (event.End r) w.past q refl (kept.working.idle q h goes));
        stays = at_others (λ q (z : Running). has_left w.past q ≡ false) w.running s (λ q z f h. kept.working.stays q z h);
        goes = at_others (λ q (z : Running). is_stopped_under w.sessions w.past q ≡ false) w.running s (λ q z f h. kept.working.goes q z h);
        reads = kept.working.reads;
        halted = λ q stopped drawing. kept.working.halted q stopped (was_drawing (event.End r) w.past q refl drawing);
      };
      memories = ended_memories;
      readers = reads_calm starts says proper w kept (event.End r) (λ q. refl) refl (λ q y h. refl);
      observers = observes_calm starts says proper w kept (event.End r) run_ended (λ k. refl) (λ q. refl) refl (λ q y h. refl) (with_session w.running s None)
          (finish_commits (origin w) w.past w.table w.running kept.committing (told starts says proper w kept) s x here through);
    }

-- ---- the head moves

-- an event of the head of cluster node k, as its memory has it
module _ (starts : Starts) (says : Says) (proper : StartsProper starts) (w : State) (kept : AreSessionsKept starts says w) (k : ℕ) (node : IsNode w.clusters k) (goes : is_stopped w.past k ≡ false) where
  pub head_keeps : AreSessionsKept starts says (record w { past = event.Head k (memory_at w.memories k).head ∷ w.past })
  head_keeps =
      let e : Event = event.Head k (memory_at w.memories k).head in
      let run : IsRunOf starts says w.clusters w.sessions w.begin (e ∷ w.past) = ((goes, (kept.memories.memory k node).head), kept.run) in
      record {
        nodes = kept.nodes;
        run = run;
        committing = quiet_commits (origin w) w.past w.table w.running kept.committing (told starts says proper w kept) e refl (λ k. refl);
        working = work_quiet w.sessions w.past w.running w.reading kept.working e refl (λ q. refl) (λ k. refl);
        memories = aside starts says w.clusters w.sessions w.begin kept.nodes w.past w.memories kept.memories e run (λ j. refl) (λ j. refl);
        readers = reads_calm starts says proper w kept e (λ q. refl) refl (λ q r h. refl);
        observers = observes_calm starts says proper w kept e run (λ k. refl) (λ q. refl) refl (λ q r h. refl) w.running (quiet_commits (origin w) w.past w.table w.running kept.committing (told starts says proper w kept) e refl (λ k. refl));
      }

module _ (starts : Starts) (says : Says) (proper : StartsProper starts) (w : State) (kept : AreSessionsKept starts says w) (s : ℕ) (x : Running) (here : w.running s ≡ Some x) (through : IsThrough x) where
  abbrev ended : State
  ended = record w { past = event.End x.draw.revision ∷ w.past; memories = memories_with w s (finished (memory_of w s) x.draw.revision); running = with_session w.running s None }

  kept_ended : AreSessionsKept starts says ended
  kept_ended = ended_kept starts says proper w kept s x here through

  the_node : IsNode w.clusters (node_of w s)
  the_node = its_node starts says proper w kept s (session_there starts says proper w kept s (Rattle.core_world.proofs.Commits.login starts says proper w kept s x here))

  -- the memory that is set is read
  set_is : memory_at (memories_with w s (finished (memory_of w s) x.draw.revision)) (node_of w s) ≡ finished (memory_of w s) x.draw.revision
  set_is = set_here w.memories (node_of w s) (finished (memory_of w s) x.draw.revision) the_node.0 (subst (λ (n : ℕ). node_of w s ≤ n) (sym kept.memories.counted) the_node.1)

  -- its node wasn't stopped
  going : is_stopped w.past (node_of w s) ≡ false
  going = ap (is_stopped w.past) (ap (λ o. unwrap_or o 0) (on_its_node starts says proper w kept s x here)) ∙ kept.committing.unstopped s x here

  moved_kept : (b : Bool) → AreSessionsKept starts says (record ended { past = cond b (event.Head (node_of w s) (finished (memory_of w s) x.draw.revision).head ∷ ended.past) ended.past })
  moved_kept false = kept_ended
  moved_kept true = subst (λ (m : NodeState). AreSessionsKept starts says (record ended { past = event.Head (node_of w s) m.head ∷ ended.past })) set_is (head_keeps starts says proper ended kept_ended (node_of w s) the_node going)

  pub finish_keeps : AreSessionsKept starts says (after_finish w s x)
  finish_keeps = moved_kept (is_before (own_entry (memory_of w s)) (own_entry (finished (memory_of w s) x.draw.revision)))
