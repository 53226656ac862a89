-- The steps of background work and on the settings, from one state to the next.
use Rattle.oak_world.proofs.Changing.{plainly, settings_plain, untouched, update_plain}
use Rattle.std.proofs.Common.{Bool, None, Option, Some, [], ap, cond, false, inl, inr, is_some, refl, subst, sym, true, ℕ, ◌&&◌, ◌∙◌, ◌∷◌, ◌≡◌, ◌⊎◌}
use Rattle.std.specs.Prelude.{◌==◌, IsSome, length, slice_get}
use Rattle.std.specs.BTreeMap.{is_at}
use Rattle.std.specs.Map.{lookup}
use Rattle.std.specs.Option.{option_and_then, option_map_or}
use Rattle.std.specs.Ordering.{eq_by_cmp}
use mathlib.Core.Bool.{false≢true}
use Rattle.jr_path.specs.Names.{name_cmp, path_cmp}
use Rattle.jr_path.specs.declared.path.Path.{Path}
use Rattle.jr_path.specs.Lists.{Text}
use Rattle.jr_rev.specs.declared.revision.Revision.{Revision}
use Rattle.jr_rev.specs.declared.vector.Pin.{Pin}
use Rattle.jr_rev.specs.declared.vector.RevVec.{RevVec}
use Rattle.jr_rev.specs.Revisions.{is_at_most}
use Rattle.oak_doc.specs.declared.document.Document.{Document}
use Rattle.oak_doc.specs.declared.update.Change.TheVariants as change
use Rattle.oak_machine.specs.declared.event.Event.TheVariants as event
use Rattle.oak_machine.specs.declared.event.StepKind.TheVariants as kind
use Rattle.oak_machine.specs.Heads.{local, published}
use Rattle.oak_machine.specs.History.{History}
use Rattle.oak_machine.specs.Laws.{Says, Starts, StartsProper, after}
use Rattle.oak_machine.specs.Runs.{IsNode}
use Rattle.oak_machine.specs.Sessions.{has_reader, is_attached, is_stopped, is_stopped_under, kept_checkpoint}
use Rattle.oak_machine.specs.Steps.{is_on}
use Rattle.oak_node.specs.declared.pending.Pending.{Pending}
use Rattle.oak_node.specs.Heads.{learned}
use Rattle.oak_node.specs.Notes.{IsPending}
use Rattle.oak_node.specs.Pins.{pin_now, pin_of}
use Rattle.core_heads.proofs.Orders.{at_most_itself}
use Rattle.core_nodes.specs.Nodes.{IsMemoryOf, base_of_pin, cursor_owner}
use Rattle.core_world.specs.Kept.{AreLayersKept, IsKept, WereOnRoot}
use Rattle.core_world.specs.States.{State, history_in, memory_of, node_of, nodes_in}
use Rattle.core_world.specs.Steps.{after_attach, after_back, after_checkpoint, after_detach, after_learn, after_learn_swept, after_observe, after_out, after_pending, after_refresh, after_release, after_sweep, after_unfound, after_went}
use Rattle.oak_sync.specs.Publishing.{back_op}
use Rattle.core_world.proofs.Backs.{heard, own_entry_is, told_now}
use Rattle.core_world.proofs.Draws.{base_is}
use Rattle.core_world.proofs.Flights.{number_itself}
use Rattle.core_world.proofs.Lives.{its_node, on_node, node_alive}
use Rattle.core_world.proofs.Numbering.{back_numbers, settings_numbers}
use Rattle.core_world.proofs.Rising.{attach_rises, attach_unfound_rises, back_rises, checkpoint_rises, detach_rises, learn_rises, learn_swept_rises, observe_rises, out_rises, pending_rises, refresh_rises, release_rises, release_unfound_rises, sweep_rises, went_rises}
use Rattle.core_world.proofs.Sweeps.{published_local}
use Rattle.core_world.proofs.Whole.{attach_keeps, attach_unfound_keeps, back_keeps, checkpoint_keeps, detach_keeps, layers_of, learn_keeps, learn_swept_keeps, observe_whole, out_keeps, pending_keeps, refresh_whole, release_keeps, release_unfound_keeps, sweep_keeps, went_whole}
use Rattle.oak_port.specs.declared.task.StepOut.{StepOut}
use Rattle.oak_port.specs.declared.task.StepOut.TheVariants as answers
use Rattle.oak_port.specs.declared.task.TaskEnd.TheVariants as ends
use Rattle.oak_port.specs.Ports.{AreOfStep, Idle, Learning, Makes as Tells, Passing, Publishing, Sweeping, Work as Shows}
use Rattle.oak_step.specs.declared.work.Work.{Work}
use Rattle.oak_step.specs.declared.work.Work.TheVariants as work
use Rattle.oak_sweep.specs.Sweeping as sweeping
use Rattle.oak_sweep.specs.declared.stage.Stage.{Stage as Swept}
use Rattle.oak_sweep.specs.declared.stage.Stage.TheVariants as swept
use Rattle.oak_sweep.specs.declared.sweeper.Sweeper.{Sweeper}
use Rattle.oak_sync.specs.Learning as learning
use Rattle.oak_sync.specs.Publishing.{stage_of, went_on}
use Rattle.oak_sync.specs.declared.back_read.BackRead.{BackRead}
use Rattle.oak_sync.specs.declared.back_write.BackWrite.{BackWrite}
use Rattle.oak_sync.specs.declared.stage.Stage.{Stage}
use Rattle.oak_sync.specs.declared.stage.Stage.TheVariants as stage
use Rattle.oak_sync.proofs.Standing.{below_due, one_due}
use Rattle.oak_step.specs.declared.upkeep.Upkeep.{Upkeep}
use Rattle.oak_step.specs.declared.upkeep.Upkeep.TheVariants as upkeep
use Rattle.oak_world.specs.Kept.{EndsInRoot, IsOwn, IsOwnPublished, MayKeepUp, MayReadOn, MaySweepOn}
use Rattle.oak_world.specs.Seen.{shown_read, shown_sweep, shown_upkeep, shown_work}
use Rattle.oak_world.specs.Steps.{BeginsBackWrite, IsPresent, MakesBackRead, MakesBackWrite, MakesSweep, MakesUpkeep, PassesTo, attached_after, attaching, is_made}
use Rattle.oak_step.specs.Parts.{swept_on}
use Rattle.oak_step.specs.Upkeeps.{set_checkpoint}
use Rattle.oak_world.proofs.Ahead.{begins_ahead, below_root, goes_ahead}
use Rattle.oak_world.proofs.Lasting.{local_lasts}
use Rattle.oak_world.proofs.Attached.{attached_reads}
use Rattle.oak_world.proofs.Sweepers.{document_passed, either_stage, root_read, sweep_told, target_own, target_published}
use Rattle.oak_world.proofs.StepsOf.{IsPlainStepOf, apart_one, chosen, flipped, holds_still, kind_told, none_stopped, numbers_stay, refused_stays, with_true}

module _ (starts : Starts) (says : Says) (proper : StartsProper starts) (w : State) (kept : IsKept starts says w) (s : ℕ) (there : is_some (slice_get w.sessions s) ≡ true) (none_halted : (k : ℕ) → is_stopped w.past k ≡ false) where
  -- its cluster node isn't stopped
  on_now : is_stopped_under w.sessions w.past s ≡ false
  on_now = none_stopped w.sessions w.past none_halted s

  abbrev h : History
  h = history_in w

  abbrev layers : AreLayersKept starts says w
  layers = layers_of starts says w kept

  abbrev StepOf : Work → State → Work → StepOut → Type 0
  StepOf v u x o = IsPlainStepOf starts says s w v u x o

  on : slice_get w.sessions s ≡ Some (node_of w s)
  on = on_node starts says proper w kept.sessions s there

  node : IsNode w.clusters (node_of w s)
  node = its_node starts says proper w kept.sessions s there

  is_mine : is_on (history_in w) s (node_of w s) ≡ true
  is_mine = ap (λ (o : Option ℕ). option_map_or (λ m. m == node_of w s) o false) on ∙ number_itself (node_of w s)

  -- a step to a state and a work that are equal to those of a step
  at_those : (v : Work) (o : StepOut) (t : State) (y : Work) (u : State) (x : Work) → u ≡ t → x ≡ y → StepOf v t y o → StepOf v u x o
  at_those v o t y u x same is f = subst (λ (z : State). StepOf v z x o) (sym same) (subst (λ (z : Work). StepOf v t z o) (sym is) f)

  -- memory was refused
  refused_step : (k : Upkeep) → Tells (history_in w) s (shown_upkeep k) answers.Memory [] Idle → (u : State) (x : Work) → u ≡ w → x ≡ work.Rest → StepOf (work.Upkeep k) u x answers.Memory
  refused_step k tells u x same is = at_those (work.Upkeep k) answers.Memory w work.Rest u x same is (record { own = []; grown = refl; kept = kept; may = tt; apart = λ q m. refl; attached = refused_stays (work.Upkeep k) (is_attached w.past s); unstopped = λ q m. m; changes = untouched w _ refl refl; numbers = numbers_stay w.table; holds = holds_still w; tells = tells; of_step = refl; as_due = refl })

  module _ (come : IsPresent (history_in w) s) (few : slice_get w.sessions (cursor_owner s) ≡ None) (unobserved : w.observing s ≡ None) (idle : w.running s ≡ None) (unread : w.reading s ≡ None) where
    -- ---- a background write

    write_step : (n : Pending) → IsPending (memory_of w s) n → StepOf (work.Upkeep upkeep.Write) (after_pending w s) (work.Upkeep (upkeep.Noted n)) (answers.Went kind.Back)
    write_step n pending = record {
      own = event.Went s kind.Back ∷ [];
      grown = refl;
      kept = kept_then;
      may = (record { login = come.login; stays = come.stays }, (on ∙ ap Some (sym cluster_is), local_lasts starts says w.clusters w.sessions w.begin kept.sessions.nodes (event.Went s kind.Back ∷ []) w.past kept_then.sessions.run n.upto n.upto.cluster low));
      apart = apart_one w.past s (event.Went s kind.Back) (λ q m. flipped q s m);
      attached = refl;
      unstopped = λ q k. k;
      changes = untouched w _ refl refl;
      numbers = numbers_stay w.table;
      holds = pending_rises starts says proper w layers s come.login come.stays;
      tells = (node_of w s, on, refl, refl, ap Publishing upto_is);
      of_step = kind_told kind.Back (s == s && true) (with_true (s == s) (number_itself s));
      as_due = refl;
    }
      where
        kept_then : IsKept starts says (after_pending w s)
        kept_then = pending_keeps starts says proper w kept s come.login come.stays

        upto_is : n.upto ≡ local w.begin w.past (node_of w s)
        upto_is = pending.upto ∙ own_entry_is starts says proper w (layers_of starts says w kept) s come.login

        is : IsMemoryOf w.begin w.clusters w.past (node_of w s) (memory_of w s)
        is = kept.sessions.memories.memory (node_of w s) node

        cluster_is : n.upto.cluster ≡ node_of w s
        cluster_is = ap (λ (r : Revision). r.cluster) pending.upto ∙ (is.memory.own_node ∙ is.cluster)

        low : is_at_most n.upto (local w.begin w.past n.upto.cluster) ≡ true
        low = subst (λ (r : Revision). is_at_most n.upto r ≡ true) (upto_is ∙ ap (local w.begin w.past) (sym cluster_is)) (at_most_itself n.upto)

    module _ (v : Work) (b : BackWrite) (shown : shown_work v ≡ Publishing b.upto) (unmoved : attaching v ≡ None) (own : IsOwn (history_in w) s b.upto) (ahead : EndsInRoot b) where
      -- the session is attached as before
      still : (o : StepOut) → attached_after v o (is_attached w.past s) ≡ is_attached w.past s
      still o = ap (λ (x : Option Bool). option_map_or (λ now. cond (is_made o) now (is_attached w.past s)) x (is_attached w.past s)) unmoved

      -- the revision is of the session's node
      of_node : b.upto.cluster ≡ node_of w s
      of_node = let k : Some b.upto.cluster ≡ Some (node_of w s) = sym own.0 ∙ on in ap (λ (o : Option ℕ). option_map_or (λ m. m) o b.upto.cluster) k

      tell_step : (p : Path) → stage_of b ≡ stage.Write → eq_by_cmp path_cmp [] p ≡ false → StepOf v (after_back w s p b.upto) (work.Upkeep (upkeep.Publish (went_on b))) (answers.Went kind.Back)
      tell_step p at other = record {
        own = event.Went s kind.Back ∷ [];
        grown = refl;
        kept = kept_then;
        may = (record { login = come.login; stays = come.stays }, ((own.0, local_lasts starts says w.clusters w.sessions w.begin kept.sessions.nodes (event.Went s kind.Back ∷ []) w.past kept_then.sessions.run b.upto b.upto.cluster own.1), goes_ahead b at ahead));
        apart = apart_one w.past s (event.Went s kind.Back) (λ q m. flipped q s m);
        attached = still (answers.Went kind.Back);
        unstopped = λ q k. k;
        changes = plainly w _ (update_plain w.table p (back_op p b.upto) refl refl) refl;
        numbers = λ n. (back_numbers w n s p b.upto).0;
        holds = back_rises starts says proper w layers s come.login p b.upto come.stays other;
        tells = subst (λ (y : Shows). Tells (history_in w) s y (answers.Went kind.Back) (event.Went s kind.Back ∷ []) (Publishing b.upto)) (sym shown) (refl, refl, refl);
        of_step = kind_told kind.Back (s == s && true) (with_true (s == s) (number_itself s));
        as_due = refl;
      }
        where
          kept_then : IsKept starts says (after_back w s p b.upto)
          kept_then = back_keeps starts says proper w kept s come.login come.stays p b.upto other

      out_step : StepOf v (after_out w s b.upto) work.Rest (answers.Ready (ends.Published b.upto))
      out_step = record {
        own = event.Out (node_of w s) b.upto ∷ [];
        grown = refl;
        kept = out_keeps starts says proper w kept s come.login b.upto of_node (subst (λ (k : ℕ). is_at_most b.upto (local w.begin w.past k) ≡ true) of_node own.1);
        may = tt;
        apart = apart_one w.past s (event.Out (node_of w s) b.upto) (λ q m. refl);
        attached = still (answers.Ready (ends.Published b.upto));
        unstopped = λ q k. k;
        changes = plainly w _ (update_plain w.table [] (back_op [] b.upto) refl refl) refl;
        numbers = λ n. (back_numbers w n s [] b.upto).1;
        holds = out_rises starts says proper w layers s come.login b.upto of_node (subst (λ (k : ℕ). is_at_most b.upto (local w.begin w.past k) ≡ true) of_node own.1);
        tells = subst (λ (y : Shows). Tells (history_in w) s y (answers.Ready (ends.Published b.upto)) (event.Out (node_of w s) b.upto ∷ []) Idle) (sym shown) (node_of w s, on, refl, refl, refl);
        of_step = subst (λ (y : Shows). AreOfStep (history_in w) s y (answers.Ready (ends.Published b.upto)) (event.Out (node_of w s) b.upto ∷ [])) (sym shown) (kind_told kind.Back (is_on (history_in w) s (node_of w s)) is_mine);
        as_due = refl;
      }

      still_step : (u : State) (x : Work) → u ≡ w → x ≡ work.Rest → StepOf v u x answers.Memory
      still_step u x same is = at_those v answers.Memory w work.Rest u x same is (record { own = []; grown = refl; kept = kept; may = tt; apart = λ q m. refl; attached = refused_stays v (is_attached w.past s); unstopped = λ q m. m; changes = untouched w _ refl refl; numbers = numbers_stay w.table; holds = holds_still w; tells = subst (λ (y : Shows). Tells (history_in w) s y answers.Memory [] Idle) (sym shown) (refl, refl); of_step = refl; as_due = refl })

      publish_step : (u : State) (x : Work) (o : StepOut) → MakesBackWrite s w b u x o → StepOf v u x o
      publish_step u x (answers.Went kind.Back) m =
          let p = below_due b m.0 in
          let other = below_root m.1 (subst (λ (q : Path). (length q == 0) ≡ false) (one_due b p.0 m.1 (p.1).asks m.2) p.2) in
          at_those v (answers.Went kind.Back) (after_back w s m.1 b.upto) (work.Upkeep (upkeep.Publish (went_on b))) u x m.3 m.4 (tell_step m.1 m.0 other)
      publish_step u x (answers.Ready (ends.Published o)) m =
          subst (λ (y : Revision). StepOf v u x (answers.Ready (ends.Published y))) (sym m.1) (at_those v (answers.Ready (ends.Published b.upto)) (after_out w s b.upto) work.Rest u x m.2 m.3 out_step)
      publish_step u x answers.Memory m = still_step u x m.0 m.1
      publish_step u x _ m = absurd m

    -- a background write that begins
    begin_step : (n : Pending) → IsOwn (history_in w) s n.upto → (u : State) (x : Work) (o : StepOut) → BeginsBackWrite s w n u x o → StepOf (work.Upkeep (upkeep.Noted n)) u x o
    begin_step n own u x o (inl m) =
        subst (λ (y : StepOut). StepOf (work.Upkeep (upkeep.Noted n)) u x y) (sym m.0) (refused_step (upkeep.Noted n) (refl, refl) u x m.1 m.2)
    begin_step n own u x o (inr m) =
        let same : (m.1).upto ≡ n.upto = ap (λ (c : BackWrite). c.upto) (m.2).state in
        publish_step (work.Upkeep (upkeep.Noted n)) m.1 (ap Publishing (sym same)) refl (subst (λ (r : Revision). IsOwn (history_in w) s r) (sym same) own) (begins_ahead m.0 n m.1 m.2) u x o m.3

    -- ---- a background read

    module _ (b : BackRead) where
      -- the root's document is read
      read_step : learning.stage_of b ≡ stage.Read → StepOf (work.Upkeep (upkeep.Read b)) (after_went w s kind.Back) (work.Upkeep (upkeep.Read (learning.with_root b (nodes_in w.table [])))) (answers.Went kind.Back)
      read_step at =
          let d = kept.root.document in
          let told = told_now w.clusters w.begin w.past w.table kept.root d kept.root.there in
          subst (λ (c : BackRead). StepOf (work.Upkeep (upkeep.Read b)) (after_went w s kind.Back) (work.Upkeep (upkeep.Read c)) (answers.Went kind.Back)) (sym (ap (learning.with_root b) kept.root.there))
          (record {
            own = event.Went s kind.Back ∷ [];
            grown = refl;
            kept = went_whole starts says proper w kept s kind.Back refl refl come.login come.stays;
            may = (record { login = come.login; stays = come.stays }, (1, told));
            apart = apart_one w.past s (event.Went s kind.Back) (λ q m. flipped q s m);
            attached = refl;
            unstopped = λ q k. k;
            changes = untouched w _ refl refl;
            numbers = numbers_stay w.table;
            holds = went_rises starts says proper w layers s come.login kind.Back refl refl come.stays;
            tells = subst (λ (y : Shows). Tells (history_in w) s y (answers.Went kind.Back) (event.Went s kind.Back ∷ []) (Learning d.last_rev)) (sym (ap (shown_read b) at)) (d.last_rev, told.public, refl, refl, refl);
            of_step = kind_told kind.Back (s == s && true) (with_true (s == s) (number_itself s));
            as_due = refl;
          })

      learn_step : learning.stage_of b ≡ stage.Learn → WereOnRoot w.begin w.clusters w.past b.last b.sweep → StepOf (work.Upkeep (upkeep.Read b)) (after_learn w s b.last b.sweep) work.Rest (answers.Ready (ends.Learnt (learned (memory_of w s) b.last b.sweep).head))
      learn_step at were = record {
        own = event.In (node_of w s) (learned (memory_of w s) b.last b.sweep).head ∷ [];
        grown = refl;
        kept = learn_keeps starts says proper w kept s on_now come.login b.last b.sweep were;
        may = tt;
        apart = apart_one w.past s (event.In (node_of w s) (learned (memory_of w s) b.last b.sweep).head) (λ q m. refl);
        attached = refl;
        unstopped = λ q k. k;
        changes = untouched w _ refl refl;
        numbers = numbers_stay w.table;
        holds = learn_rises starts says proper w layers s come.login on_now b.last b.sweep were;
        tells = subst (λ (y : Shows). Tells (history_in w) s y (answers.Ready (ends.Learnt (learned (memory_of w s) b.last b.sweep).head)) (event.In (node_of w s) (learned (memory_of w s) b.last b.sweep).head ∷ []) Idle) (sym (ap (shown_read b) at)) (node_of w s, on, λ r seen. heard starts says proper w (layers_of starts says w kept) s come.login b.last b.sweep were r seen, refl, refl);
        of_step = subst (λ (y : Shows). AreOfStep (history_in w) s y (answers.Ready (ends.Learnt (learned (memory_of w s) b.last b.sweep).head)) (event.In (node_of w s) (learned (memory_of w s) b.last b.sweep).head ∷ [])) (sym (ap (shown_read b) at)) (kind_told kind.Learn (is_on (history_in w) s (node_of w s)) is_mine);
        as_due = refl;
      }

      -- memory was refused
      unread_step : (at : Stage) → Tells (history_in w) s (shown_read b at) answers.Memory [] Idle
      unread_step stage.Write = (refl, refl)
      unread_step stage.Publish = (refl, refl)
      unread_step stage.Read = (refl, refl)
      unread_step stage.Learn = (refl, refl)
      unread_step stage.Done = (refl, refl)

      learns_step : MayReadOn (history_in w) b (learning.stage_of b) → (u : State) (x : Work) (o : StepOut) → MakesBackRead s w b u x o → StepOf (work.Upkeep (upkeep.Read b)) u x o
      learns_step may u x (answers.Went kind.Back) m =
          at_those (work.Upkeep (upkeep.Read b)) (answers.Went kind.Back) (after_went w s kind.Back) (work.Upkeep (upkeep.Read (learning.with_root b (nodes_in w.table [])))) u x m.1 m.2 (read_step m.0)
      learns_step may u x (answers.Ready (ends.Learnt v)) m =
          subst (λ (y : RevVec). StepOf (work.Upkeep (upkeep.Read b)) u x (answers.Ready (ends.Learnt y))) (sym m.1)
          (at_those (work.Upkeep (upkeep.Read b)) (answers.Ready (ends.Learnt (learned (memory_of w s) b.last b.sweep).head)) (after_learn w s b.last b.sweep) work.Rest u x m.2 m.3
          (learn_step m.0 (subst (MayReadOn (history_in w) b) m.0 may)))
      learns_step may u x answers.Memory m = refused_step (upkeep.Read b) (unread_step (learning.stage_of b)) u x m.0 m.1
      learns_step may u x _ m = absurd m

    -- ---- a sweep

    -- a revision of the session's node that is published
    own_published : (r : Revision) → r.cluster ≡ node_of w s → is_at_most r (published w.begin w.past (node_of w s)) ≡ true → IsOwnPublished (history_in w) s r
    own_published r of low = (on ∙ ap Some (sym of), subst (λ (k : ℕ). is_at_most r (published w.begin w.past k) ≡ true) (sym of) low)

    module _ (v : Work) (y : Sweeper) (shown : shown_work v ≡ shown_sweep y (sweeping.stage_of y)) (unmoved : attaching v ≡ None) where
      -- the sweep, once the documents have answered
      abbrev next : Sweeper
      next = swept_on w.table y

      -- the session is attached as before
      unmoved_stays : (o : StepOut) → attached_after v o (is_attached w.past s) ≡ is_attached w.past s
      unmoved_stays o = ap (λ (x : Option Bool). option_map_or (λ now. cond (is_made o) now (is_attached w.past s)) x (is_attached w.past s)) unmoved

      shown_there : (z : Swept) → sweeping.stage_of y ≡ z → shown_sweep y z ≡ shown_work v
      shown_there z at = sym (shown ∙ ap (shown_sweep y) at)

      abbrev PassStep : State → Type 0
      PassStep t = StepOf v t (work.Upkeep (upkeep.Sweeping next)) (answers.Went kind.Sweep)

      -- the root is read
      root_step : sweeping.stage_of y ≡ swept.Root → slice_get w.sessions s ≡ Some y.cluster → PassStep (after_went w s kind.Sweep)
      root_step at mine = record {
        own = event.Went s kind.Sweep ∷ [];
        grown = refl;
        kept = went_whole starts says proper w kept s kind.Sweep refl refl come.login come.stays;
        may = (record { login = come.login; stays = come.stays }, subst (MaySweepOn (after (event.Went s kind.Sweep ∷ []) (history_in w)) s next) (sym read.0) (subst (λ (r : Revision). IsOwnPublished (history_in w) s r) (sym target) (own_published _ goal.0 goal.1)));
        apart = apart_one w.past s (event.Went s kind.Sweep) (λ q m. flipped q s m);
        attached = unmoved_stays (answers.Went kind.Sweep);
        unstopped = λ q k. k;
        changes = untouched w _ refl refl;
        numbers = numbers_stay w.table;
        holds = went_rises starts says proper w layers s come.login kind.Sweep refl refl come.stays;
        tells = subst (λ (z : Shows). Tells (history_in w) s z (answers.Went kind.Sweep) (event.Went s kind.Sweep ∷ []) (shown_sweep next (sweeping.stage_of next))) (shown_there swept.Root at) (node_of w s, on, refl, refl, ap (shown_sweep next) read.0 ∙ ap Passing (target ∙ target_published starts says w kept (node_of w s) node));
        of_step = kind_told kind.Sweep (s == s && true) (with_true (s == s) (number_itself s));
        as_due = refl;
      }
        where
          read : (sweeping.stage_of next ≡ swept.Document) × (next.target ≡ sweeping.target_in y.cluster (nodes_in w.table []))
          read = root_read w.table y at

          its_own : y.cluster ≡ node_of w s
          its_own = let k : Some y.cluster ≡ Some (node_of w s) = sym mine ∙ on in ap (λ (o : Option ℕ). option_map_or (λ m. m) o y.cluster) k

          target : next.target ≡ sweeping.target_in (node_of w s) (nodes_in w.table [])
          target = read.1 ∙ ap (λ (k : ℕ). sweeping.target_in k (nodes_in w.table [])) its_own

          goal : ((sweeping.target_in (node_of w s) (nodes_in w.table [])).cluster ≡ node_of w s) × (is_at_most (sweeping.target_in (node_of w s) (nodes_in w.table [])) (published w.begin w.past (node_of w s)) ≡ true)
          goal = target_own starts says w kept (node_of w s) node

      -- a document is passed
      document_step : sweeping.stage_of y ≡ swept.Document → IsOwnPublished (history_in w) s y.target → PassStep (after_went w s kind.Sweep)
      document_step at mine = record {
        own = event.Went s kind.Sweep ∷ [];
        grown = refl;
        kept = went_whole starts says proper w kept s kind.Sweep refl refl come.login come.stays;
        may = (record { login = come.login; stays = come.stays }, either_stage (sweeping.stage_of next) passed.0 (MaySweepOn (after (event.Went s kind.Sweep ∷ []) (history_in w)) s next) still_own still_own);
        apart = apart_one w.past s (event.Went s kind.Sweep) (λ q m. flipped q s m);
        attached = unmoved_stays (answers.Went kind.Sweep);
        unstopped = λ q k. k;
        changes = untouched w _ refl refl;
        numbers = numbers_stay w.table;
        holds = went_rises starts says proper w layers s come.login kind.Sweep refl refl come.stays;
        tells = subst (λ (z : Shows). Tells (history_in w) s z (answers.Went kind.Sweep) (event.Went s kind.Sweep ∷ []) (shown_sweep next (sweeping.stage_of next))) (shown_there swept.Document at)
            (refl, inl (refl, either_stage (sweeping.stage_of next) passed.0 (λ z. shown_sweep next z ≡ Passing y.target) (ap Passing passed.1) (ap Passing passed.1)));
        of_step = kind_told kind.Sweep (s == s && true) (with_true (s == s) (number_itself s));
        as_due = refl;
      }
        where
          passed : ((sweeping.stage_of next ≡ swept.Document) ⊎ (sweeping.stage_of next ≡ swept.Publish)) × (next.target ≡ y.target)
          passed = document_passed w.table y at

          still_own : IsOwnPublished (history_in w) s next.target
          still_own = subst (λ (r : Revision). IsOwnPublished (history_in w) s r) (sym passed.1) mine

      -- what a sweep goes up to is of its node, and published
      of_its_node : IsOwnPublished (history_in w) s y.target → y.target.cluster ≡ node_of w s
      of_its_node mine = let k : Some y.target.cluster ≡ Some (node_of w s) = sym mine.0 ∙ on in ap (λ (o : Option ℕ). option_map_or (λ m. m) o y.target.cluster) k

      low : IsOwnPublished (history_in w) s y.target → is_at_most y.target (published w.begin w.past (node_of w s)) ≡ true
      low mine = subst (λ (k : ℕ). is_at_most y.target (published w.begin w.past k) ≡ true) (of_its_node mine) mine.1

      -- the root is told
      sweep_tell_step : sweeping.stage_of y ≡ swept.Publish → IsOwnPublished (history_in w) s y.target → PassStep (after_sweep w s y.target)
      sweep_tell_step at mine = record {
        own = event.Sweep (node_of w s) y.target ∷ [];
        grown = refl;
        kept = sweep_keeps starts says proper w kept s come.login y.target (of_its_node mine) (low mine);
        may = (record { login = come.login; stays = come.stays }, subst (MaySweepOn (after (event.Sweep (node_of w s) y.target ∷ []) (history_in w)) s next) (sym told.0) (subst (λ (r : Revision). IsOwnPublished (history_in w) s r) (sym told.1) mine));
        apart = apart_one w.past s (event.Sweep (node_of w s) y.target) (λ q m. refl);
        attached = unmoved_stays (answers.Went kind.Sweep);
        unstopped = λ q k. k;
        changes = plainly w _ (update_plain w.table [] (sweeping.sweep_op y.target) refl refl) refl;
        numbers = λ n. (back_numbers w n s [] y.target).2;
        holds = sweep_rises starts says proper w layers s come.login y.target (of_its_node mine) (low mine);
        tells = subst (λ (z : Shows). Tells (history_in w) s z (answers.Went kind.Sweep) (event.Sweep (node_of w s) y.target ∷ []) (shown_sweep next (sweeping.stage_of next))) (shown_there swept.Publish at)
            (refl, inr (node_of w s, on, refl, ap (shown_sweep next) told.0 ∙ ap Sweeping told.1));
        of_step = kind_told kind.Sweep (is_on (history_in w) s (node_of w s)) is_mine;
        as_due = refl;
      }
        where
          told : (sweeping.stage_of next ≡ swept.Learn) × (next.target ≡ y.target)
          told = sweep_told w.table y at

      -- the memory learns
      swept_step : sweeping.stage_of y ≡ swept.Learn → IsOwnPublished (history_in w) s y.target → StepOf v (after_learn_swept w s y.target) work.Rest (answers.Ready (ends.Swept y.target))
      swept_step at mine = record {
        own = event.Went s kind.Learn ∷ [];
        grown = refl;
        kept = learn_swept_keeps starts says proper w kept s come.login come.stays y.target (of_its_node mine) (published_local starts says w (layers_of starts says w kept) (node_of w s) y.target (low mine));
        may = tt;
        apart = apart_one w.past s (event.Went s kind.Learn) (λ q m. flipped q s m);
        attached = unmoved_stays (answers.Ready (ends.Swept y.target));
        unstopped = λ q k. k;
        changes = untouched w _ refl refl;
        numbers = numbers_stay w.table;
        holds = learn_swept_rises starts says proper w layers s come.login y.target come.stays (of_its_node mine) (published_local starts says w layers (node_of w s) y.target (low mine));
        tells = subst (λ (z : Shows). Tells (history_in w) s z (answers.Ready (ends.Swept y.target)) (event.Went s kind.Learn ∷ []) Idle) (shown_there swept.Learn at) (refl, refl, refl);
        of_step = subst (λ (z : Shows). AreOfStep (history_in w) s z (answers.Ready (ends.Swept y.target)) (event.Went s kind.Learn ∷ [])) (shown_there swept.Learn at) (kind_told kind.Learn (s == s && true) (with_true (s == s) (number_itself s)));
        as_due = refl;
      }

      -- memory was refused
      unswept_step : (z : Swept) → Tells (history_in w) s (shown_sweep y z) answers.Memory [] Idle
      unswept_step swept.Root = (refl, refl)
      unswept_step swept.Document = (refl, refl)
      unswept_step swept.Publish = (refl, refl)
      unswept_step swept.Learn = (refl, refl)
      unswept_step swept.Done = (refl, refl)

      pass_step : (u : State) (z : Swept) → sweeping.stage_of y ≡ z → MaySweepOn (history_in w) s y z → PassesTo s w y z u → PassStep u
      pass_step u swept.Root at may to = subst PassStep (sym to) (root_step at may)
      pass_step u swept.Document at may to = subst PassStep (sym to) (document_step at may)
      pass_step u swept.Publish at may to = subst PassStep (sym to) (sweep_tell_step at may)
      pass_step u swept.Learn at may to = absurd to
      pass_step u swept.Done at may to = absurd to

      sweep_step : MaySweepOn (history_in w) s y (sweeping.stage_of y) → (u : State) (x : Work) (o : StepOut) → MakesSweep s w y u x o → StepOf v u x o
      sweep_step may u x (answers.Went kind.Sweep) m = at_those v (answers.Went kind.Sweep) u (work.Upkeep (upkeep.Sweeping next)) u x refl m.1 (pass_step u (sweeping.stage_of y) refl may m.0)
      sweep_step may u x (answers.Ready (ends.Swept r)) m =
          subst (λ (z : Revision). StepOf v u x (answers.Ready (ends.Swept z))) (sym m.1)
          (at_those v (answers.Ready (ends.Swept y.target)) (after_learn_swept w s y.target) work.Rest u x m.2 m.3 (swept_step m.0 (subst (MaySweepOn (history_in w) s y) m.0 may)))
      sweep_step may u x answers.Memory m = at_those v answers.Memory w work.Rest u x m.0 m.1 (record { own = []; grown = refl; kept = kept; may = tt; apart = λ q m. refl; attached = refused_stays v (is_attached w.past s); unstopped = λ q m. m; changes = untouched w _ refl refl; numbers = numbers_stay w.table; holds = holds_still w; tells = subst (λ (z : Shows). Tells (history_in w) s z answers.Memory [] Idle) (sym shown) (unswept_step (sweeping.stage_of y)); of_step = refl; as_due = refl })
      sweep_step may u x _ m = absurd m

    -- ---- the settings

    checkpoint_step : (i : Text) (pin : Pin) → is_attached w.past s ≡ false → pin_of (memory_of w s) s ≡ Some pin → StepOf (work.Upkeep (upkeep.Checkpoint i)) (after_checkpoint w s i pin) work.Rest (answers.Ready (ends.Set None))
    checkpoint_step i pin detached has = record {
      own = event.Checkpoint i pin.base ∷ [];
      grown = refl;
      kept = checkpoint_keeps starts says proper w kept s i pin on_now come.login come.stays detached has;
      may = tt;
      apart = apart_one w.past s (event.Checkpoint i pin.base) (λ q m. refl);
      attached = refl;
      unstopped = λ q k. k;
      changes = plainly w _ (settings_plain w.table (change.Checkpoint i pin)) refl;
      numbers = λ n. settings_numbers w n (change.Checkpoint i pin);
      holds = checkpoint_rises starts says proper w layers s come.login i pin on_now come.stays detached has;
      tells = (pin.base, base_is starts says proper w kept.sessions s (node_alive starts says proper w kept.sessions s there on_now) come.login come.stays detached ∙ ap (λ (o : Option Pin). Some (option_map_or (λ (p : Pin). p.base) o (memory_of w s).head)) has, refl, refl);
      of_step = refl;
      as_due = refl;
    }

    -- the settings have just what the journal keeps
    set_is : (i : Text) → base_of_pin (set_checkpoint w.table i) ≡ kept_checkpoint w.past i
    set_is i = ap (λ (o : Option Document). base_of_pin (option_and_then (λ d. lookup (is_at (name_cmp i)) d.checkpoints) o)) kept.settings.there ∙ kept.settings.checkpoints i

    some_kept : (i : Text) → is_some (set_checkpoint w.table i) ≡ true → IsSome (kept_checkpoint w.past i)
    some_kept i h = by (set_checkpoint w.table i) h (set_is i)
      where
        by : (o : Option Pin) → is_some o ≡ true → base_of_pin o ≡ kept_checkpoint w.past i → IsSome (kept_checkpoint w.past i)
        by None k is = absurd (false≢true k)
        by (Some pin) k is = subst (λ (v : Option RevVec). IsSome v) is refl

    release_step : (i : Text) → is_some (set_checkpoint w.table i) ≡ true → StepOf (work.Upkeep (upkeep.Release i)) (after_release w i) work.Rest (answers.Ready (ends.Set None))
    release_step i has = record {
      own = event.Release i ∷ [];
      grown = refl;
      kept = release_keeps starts says proper w kept i (some_kept i has);
      may = tt;
      apart = apart_one w.past s (event.Release i) (λ q m. refl);
      attached = refl;
      unstopped = λ q k. k;
      changes = plainly w _ (settings_plain w.table (change.Release i)) refl;
      numbers = λ n. settings_numbers w n (change.Release i);
      holds = release_rises starts says proper w layers i (some_kept i has);
      tells = (refl, refl);
      of_step = refl;
      as_due = refl;
    }

    unfound_step : (i : Text) → set_checkpoint w.table i ≡ None → StepOf (work.Upkeep (upkeep.Release i)) (after_unfound w s (change.Release i)) work.Rest (answers.Ready ends.NoCheckpoint)
    unfound_step i none =
        let gone : kept_checkpoint w.past i ≡ None = sym (set_is i) ∙ ap base_of_pin none in
        record {
          own = event.Went s kind.Settings ∷ [];
          grown = refl;
          kept = release_unfound_keeps starts says proper w kept s come.login come.stays i gone;
          may = tt;
          apart = apart_one w.past s (event.Went s kind.Settings) (λ q m. flipped q s m);
          attached = refl;
          unstopped = λ q k. k;
          changes = plainly w _ (settings_plain w.table (change.Release i)) refl;
          numbers = λ n. settings_numbers w n (change.Release i);
          holds = release_unfound_rises starts says proper w layers s come.login i come.stays gone;
          tells = (gone, refl, refl);
          of_step = kind_told kind.Settings (s == s && true) (with_true (s == s) (number_itself s));
          as_due = refl;
        }

    -- ---- attaching

    attach_step : (i : Text) (pin : Pin) → is_attached w.past s ≡ false → set_checkpoint w.table i ≡ Some pin → StepOf (work.Upkeep (upkeep.Attach i)) (after_attach w s i) work.Rest (answers.Ready (ends.Set (Some pin)))
    attach_step i pin detached has =
        let there_is : kept_checkpoint w.past i ≡ Some pin.base = sym (set_is i) ∙ ap base_of_pin has in
        record {
          own = event.Attach s i ∷ [];
          grown = refl;
          kept = attach_keeps starts says proper w kept s on_now come.login come.stays i pin.base detached unread there_is;
          may = tt;
          apart = apart_one w.past s (event.Attach s i) (λ q m. flipped q s m);
          attached = chosen s true (is_attached w.past s);
          unstopped = λ q k. k;
          changes = plainly w _ (settings_plain w.table (change.Attach s i)) refl;
          numbers = λ n. settings_numbers w n (change.Attach s i);
          holds = attach_rises starts says proper w layers s come.login i pin.base on_now come.stays detached unread there_is;
          tells = (there_is, refl, refl);
          of_step = kind_told kind.Settings (s == s) (number_itself s);
          as_due = refl;
        }

    attach_unfound_step : (i : Text) → set_checkpoint w.table i ≡ None → StepOf (work.Upkeep (upkeep.Attach i)) (after_unfound w s (change.Attach s i)) work.Rest (answers.Ready ends.NoCheckpoint)
    attach_unfound_step i none =
        let gone : kept_checkpoint w.past i ≡ None = sym (set_is i) ∙ ap base_of_pin none in
        record {
          own = event.Went s kind.Settings ∷ [];
          grown = refl;
          kept = attach_unfound_keeps starts says proper w kept s come.login come.stays i gone;
          may = tt;
          apart = apart_one w.past s (event.Went s kind.Settings) (λ q m. flipped q s m);
          attached = refl;
          unstopped = λ q k. k;
          changes = plainly w _ (settings_plain w.table (change.Attach s i)) refl;
          numbers = λ n. settings_numbers w n (change.Attach s i);
          holds = attach_unfound_rises starts says proper w layers s come.login i come.stays gone;
          tells = (gone, refl, refl);
          of_step = kind_told kind.Settings (s == s && true) (with_true (s == s) (number_itself s));
          as_due = refl;
        }

    -- ---- detaching

    -- first the session is pinned at the head
    detach_step : is_attached w.past s ≡ true → StepOf (work.Upkeep upkeep.Detach) (after_refresh w s) (work.Upkeep (upkeep.Detaching (pin_now (memory_of w s)))) (answers.Went kind.Pin)
    detach_step attached = record {
      own = event.Refresh s (memory_of w s).head ∷ [];
      grown = refl;
      kept = refresh_whole starts says proper w kept s on_now come.login come.stays idle unread unobserved;
      may = (record { login = come.login; stays = come.stays }, (sym (chosen s false (is_attached w.past s)), attached_reads starts says w.clusters w.sessions w.begin w.past kept.sessions.run s attached));
      apart = apart_one w.past s (event.Refresh s (memory_of w s).head) (λ q m. flipped q s m);
      attached = chosen s false (is_attached w.past s);
      unstopped = λ q k. k;
      changes = untouched w _ refl refl;
      numbers = numbers_stay w.table;
      holds = refresh_rises starts says proper w layers s come.login on_now come.stays idle unread unobserved;
      tells = ((memory_of w s).head, refl, refl, refl);
      of_step = kind_told kind.Pin (s == s) (number_itself s);
      as_due = refl;
    }

    -- and then it is no reader any more
    detaching_step : (pin : Pin) → is_attached w.past s ≡ false → has_reader w.past s ≡ true → StepOf (work.Upkeep (upkeep.Detaching pin)) (after_detach w s) work.Rest (answers.Ready (ends.Pinned pin))
    detaching_step pin detached reads = record {
      own = event.Detach s ∷ [];
      grown = refl;
      kept = detach_keeps starts says proper w kept s come.login come.stays detached reads;
      may = tt;
      apart = apart_one w.past s (event.Detach s) (λ q m. flipped q s m);
      attached = refl;
      unstopped = λ q k. k;
      changes = plainly w _ (settings_plain w.table (change.Detach s)) refl;
      numbers = λ n. settings_numbers w n (change.Detach s);
      holds = detach_rises starts says proper w layers s come.login come.stays detached reads;
      tells = (refl, refl, refl);
      of_step = kind_told kind.Settings (s == s) (number_itself s);
      as_due = refl;
    }

    -- ---- the cursor

    observe_step : (pin : Pin) → is_attached w.past s ≡ false → pin_of (memory_of w s) s ≡ Some pin → StepOf (work.Upkeep upkeep.Observe) (after_observe w s pin) work.Rest (answers.Ready (ends.Pinned pin))
    observe_step pin detached has = record {
      own = event.Went s kind.Pin ∷ [];
      grown = refl;
      kept = observe_whole starts says proper w kept s pin few come.login come.stays unread unobserved has;
      may = tt;
      apart = apart_one w.past s (event.Went s kind.Pin) (λ q m. flipped q s m);
      attached = refl;
      unstopped = λ q k. k;
      changes = untouched w _ refl refl;
      numbers = numbers_stay w.table;
      holds = observe_rises starts says proper w layers s come.login pin few come.stays unread unobserved has;
      tells = (base_is starts says proper w kept.sessions s (node_alive starts says proper w kept.sessions s there on_now) come.login come.stays detached ∙ ap (λ (o : Option Pin). Some (option_map_or (λ (p : Pin). p.base) o (memory_of w s).head)) has, refl, refl);
      of_step = kind_told kind.Pin (s == s && true) (with_true (s == s) (number_itself s));
      as_due = refl;
    }

    -- ---- all

    pub upkeep_step : (k : Upkeep) → MayKeepUp (history_in w) s k → (u : State) (x : Work) (o : StepOut) → MakesUpkeep s w k u x o → StepOf (work.Upkeep k) u x o
    upkeep_step upkeep.Write may u x (answers.Went kind.Back) m = at_those (work.Upkeep upkeep.Write) (answers.Went kind.Back) (after_pending w s) (work.Upkeep (upkeep.Noted m.0)) u x m.2 m.3 (write_step m.0 m.1)
    upkeep_step upkeep.Write may u x answers.Memory m = refused_step upkeep.Write (refl, refl) u x m.0 m.1
    upkeep_step upkeep.Write may u x _ m = absurd m
    upkeep_step (upkeep.Noted n) may u x o m = begin_step n may u x o m
    upkeep_step (upkeep.Publish b) may u x o m = publish_step (work.Upkeep (upkeep.Publish b)) b refl refl may.0 may.1 u x o m
    upkeep_step (upkeep.Read b) may u x o m = learns_step b may u x o m
    upkeep_step upkeep.Sweep may u x o m = sweep_step (work.Upkeep upkeep.Sweep) (sweeping.begun m.0 (node_of w s)) refl refl on u x o m.1
    upkeep_step (upkeep.Sweeping y) may u x o m = sweep_step (work.Upkeep (upkeep.Sweeping y)) y refl refl may u x o m
    upkeep_step (upkeep.Checkpoint i) may u x (answers.Ready (ends.Set None)) m = at_those (work.Upkeep (upkeep.Checkpoint i)) (answers.Ready (ends.Set None)) (after_checkpoint w s i m.0) work.Rest u x m.2 m.3 (checkpoint_step i m.0 may m.1)
    upkeep_step (upkeep.Checkpoint i) may u x answers.Memory m = refused_step (upkeep.Checkpoint i) (refl, refl) u x m.0 m.1
    upkeep_step (upkeep.Checkpoint i) may u x _ m = absurd m
    upkeep_step (upkeep.Release i) may u x (answers.Ready (ends.Set None)) m = at_those (work.Upkeep (upkeep.Release i)) (answers.Ready (ends.Set None)) (after_release w i) work.Rest u x m.1 m.2 (release_step i m.0)
    upkeep_step (upkeep.Release i) may u x (answers.Ready ends.NoCheckpoint) m = at_those (work.Upkeep (upkeep.Release i)) (answers.Ready ends.NoCheckpoint) (after_unfound w s (change.Release i)) work.Rest u x m.1 m.2 (unfound_step i m.0)
    upkeep_step (upkeep.Release i) may u x answers.Memory m = refused_step (upkeep.Release i) (refl, refl) u x m.0 m.1
    upkeep_step (upkeep.Release i) may u x _ m = absurd m
    upkeep_step (upkeep.Attach i) may u x (answers.Ready (ends.Set (Some pin))) m = at_those (work.Upkeep (upkeep.Attach i)) (answers.Ready (ends.Set (Some pin))) (after_attach w s i) work.Rest u x m.1 m.2 (attach_step i pin may m.0)
    upkeep_step (upkeep.Attach i) may u x (answers.Ready ends.NoCheckpoint) m = at_those (work.Upkeep (upkeep.Attach i)) (answers.Ready ends.NoCheckpoint) (after_unfound w s (change.Attach s i)) work.Rest u x m.1 m.2 (attach_unfound_step i m.0)
    upkeep_step (upkeep.Attach i) may u x answers.Memory m = refused_step (upkeep.Attach i) (refl, refl) u x m.0 m.1
    upkeep_step (upkeep.Attach i) may u x _ m = absurd m
    upkeep_step upkeep.Detach may u x (answers.Went kind.Pin) m = at_those (work.Upkeep upkeep.Detach) (answers.Went kind.Pin) (after_refresh w s) (work.Upkeep (upkeep.Detaching (pin_now (memory_of w s)))) u x m.0 m.1 (detach_step may)
    upkeep_step upkeep.Detach may u x answers.Memory m = refused_step upkeep.Detach (refl, refl) u x m.0 m.1
    upkeep_step upkeep.Detach may u x _ m = absurd m
    upkeep_step (upkeep.Detaching pin) may u x (answers.Ready (ends.Pinned o)) m =
        subst (λ (y : Pin). StepOf (work.Upkeep (upkeep.Detaching pin)) u x (answers.Ready (ends.Pinned y))) (sym m.0)
        (at_those (work.Upkeep (upkeep.Detaching pin)) (answers.Ready (ends.Pinned pin)) (after_detach w s) work.Rest u x m.1 m.2 (detaching_step pin may.0 may.1))
    upkeep_step (upkeep.Detaching pin) may u x answers.Memory m = refused_step (upkeep.Detaching pin) (refl, refl) u x m.0 m.1
    upkeep_step (upkeep.Detaching pin) may u x _ m = absurd m
    upkeep_step upkeep.Observe may u x (answers.Ready (ends.Pinned pin)) m = at_those (work.Upkeep upkeep.Observe) (answers.Ready (ends.Pinned pin)) (after_observe w s pin) work.Rest u x m.1 m.2 (observe_step pin may m.0)
    upkeep_step upkeep.Observe may u x answers.Memory m = refused_step upkeep.Observe (refl, refl) u x m.0 m.1
    upkeep_step upkeep.Observe may u x _ m = absurd m
