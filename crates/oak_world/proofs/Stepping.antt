-- A step of a session on its parts, or over all memories, is by what it does one of the steps of the state.
use Rattle.jr_path.specs.declared.path.Path.{Path}
use Rattle.std.proofs.Common.{Bool, List, None, Option, Some, [], ap, cond, false, inl, inr, length, map, refl, subst, sym, true, ℕ, ◌++◌, ◌<◌, ◌∙◌, ◌∷◌, ◌≡◌}
use mathlib.Core.Bool.{false≢true}
use Rattle.std.proofs.lemmas.List.{reverse-append, reverse-reverse}
use Rattle.std.specs.Option.{option_map_or}
use Rattle.std.specs.Prelude.{reverse}
use Rattle.jr_rev.specs.declared.revision.Revision.{Revision}
use Rattle.jr_tree.specs.declared.edit.Edit.{Edit}
use Rattle.oak_changes.specs.declared.changes.ChangesReader.{ChangesReader}
use Rattle.oak_clash.specs.declared.mark.MarkAt.{MarkAt}
use Rattle.oak_clash.specs.Clashes.{marked_paths}
use Rattle.oak_commit.specs.Clashing.{Met}
use Rattle.oak_commit.specs.Committing.{Committing, begun, first_path, is_past, wanting}
use Rattle.oak_commit.specs.Kept.{undoes}
use Rattle.oak_commit.specs.declared.look.Look.{Look}
use Rattle.oak_commit.specs.declared.outcome.CommitEnd.TheVariants as end
use Rattle.oak_machine.specs.declared.event.Event.{Event}
use Rattle.oak_machine.specs.declared.event.Event.TheVariants as event
use Rattle.oak_machine.specs.declared.event.StepKind.{StepKind}
use Rattle.oak_machine.specs.declared.event.StepKind.TheVariants as kind
use Rattle.oak_machine.specs.History.{Past}
use Rattle.oak_doc.specs.declared.asks.Ask.{Ask}
use Rattle.oak_doc.specs.declared.asks.Ask.TheVariants as ask
use Rattle.oak_doc.specs.declared.update.Change.TheVariants as change
use Rattle.oak_node.specs.Heads.{learned, next_draw, with_draw}
use Rattle.oak_node.specs.Memory.{NodeState}
use Rattle.oak_node.specs.Notes.{with_notes, without_seen}
use Rattle.oak_node.specs.Pins.{pin_now, with_pin}
use Rattle.core_nodes.specs.Nodes.{cursor_owner, without_session}
use Rattle.oak_read.specs.declared.reader.Reader.{Reader}
use Rattle.oak_store.specs.Tables.{Table}
use Rattle.core_clash.specs.Core.{root_of}
use Rattle.core_clash.specs.Sessions.{Running}
use Rattle.core_tidy.specs.Steps.{after_tidied, tidied_in}
use Rattle.core_tidy.specs.Tidying.{reader_at, reader_of}
use Rattle.core_world.specs.States.{State, memory_at, with_memory, with_session}
use Rattle.core_world.specs.Steps.{after_finish, after_sweep, after_update, after_want, after_went, setting_op, swept_to, with_observer, with_reader}
use Rattle.oak_port.specs.declared.task.StepOut.{StepOut}
use Rattle.oak_port.specs.declared.task.StepOut.TheVariants as answers
use Rattle.oak_port.specs.declared.task.TaskEnd.{TaskEnd}
use Rattle.oak_port.specs.declared.task.TaskEnd.TheVariants as ends
use Rattle.oak_step.specs.declared.work.Work.{Work}
use Rattle.oak_step.specs.declared.work.Work.TheVariants as work
use Rattle.oak_node.specs.declared.pending.Pending.{Pending}
use Rattle.jr_rev.specs.Vectors.{no_entries, raised}
use Rattle.oak_sweep.specs.Sweeping as sweeping
use Rattle.oak_sweep.specs.declared.stage.Stage.{Stage as Swept}
use Rattle.oak_sweep.specs.declared.stage.Stage.TheVariants as swept
use Rattle.oak_sweep.specs.declared.sweeper.Sweeper.{Sweeper}
use Rattle.oak_sync.specs.Learning as learning
use Rattle.oak_sync.specs.Publishing as publishing
use Rattle.oak_sync.specs.declared.back_read.BackRead.{BackRead}
use Rattle.oak_sync.specs.declared.back_write.BackWrite.{BackWrite}
use Rattle.oak_sync.proofs.Standing.{IsPathDue, below_due, root_due}
use Rattle.oak_step.specs.declared.upkeep.Upkeep.{Upkeep}
use Rattle.oak_step.specs.declared.upkeep.Upkeep.TheVariants as upkeep
use Rattle.oak_step.proofs.Backs.{goes_on, read_table, reads_on, told_table}
use Rattle.oak_step.specs.Parts.{CommitsOn, EndsSo, IsGivenUp, IsPassing, KeepsUp, LearnsOn, PassesOn, PublishesFirst, PublishesOn, Steps, UpdatesOn, after_ask, changes_on, learned_on, pinned_base, published_on, read_on, stepping, sweep_event, swept_on}
use Rattle.oak_saves.specs.Saves.{Parts, UpdatesDocument, parts, parts_ended, saving}
use Rattle.oak_tidy.specs.declared.tidying.Tidied.{Tidied}
use Rattle.oak_tidy.specs.declared.tidying.Tidying.{Tidying}
use Rattle.oak_tidy.specs.declared.tidying.Tidying.TheVariants as tidying
use Rattle.oak_tidy.specs.Replies.{AllParts, all_parts, table_after, told_to}
use Rattle.oak_tidy.specs.Tidyings.{GoesOrEnds, Tidies, TidiesTo, bound_told, kind_tidied, parts_on, takes_bound, tidied_on, tidy_events, tidying_ask, tidying_fed, went}
use Rattle.oak_world.specs.Steps.{BeginsBackWrite, MakesBackRead, MakesBackWrite, MakesCommit, MakesState, MakesSweep, MakesUpdate, MakesUpkeep, PassesTo, work_left}
use Rattle.oak_world.specs.Worlds.{ActorState, WorldOf, node_in, observing_of, once_looked, parts_at, reading_of, running_as, running_of, state_of, with_parts, work_in}
use Rattle.oak_world.specs.Looks.{IsLooking}
use Rattle.oak_world.proofs.Looking.{SamePrevious, both_previous, once_alone, same_previous, update_previous}
use Rattle.oak_world.proofs.Making.{begins_is, ended_is, makes_last, makes_look, makes_mark, makes_undo, makes_write, observes_is, reads_is, runs_is, same_is, sets_is, told_is}
use Rattle.oak_world.proofs.States.{LeavesLooks, SameReaders, memory_same, moved, moved_is, newest, rest_is, same_readers, session_same, with_readers}
use Rattle.oak_saves.proofs.Stages.{IsLookStage, IsMarkStage, last_stage, look_stage, mark_stage, undo_stage, write_stage}
use Rattle.oak_world.proofs.Sweepers.{IsLookingFor, looks_stay, root_told}

-- parts with the same documents, memory and events
same_parts : (p q : Parts) → p.table ≡ q.table → p.memory ≡ q.memory → p.list ≡ q.list → p ≡ q
same_parts p q t m es = ap (λ (x : Table). parts x p.memory p.list) t ∙ (ap (λ (x : NodeState). parts q.table x p.list) m ∙ ap (λ (x : List Event). parts q.table q.memory x) es)

module _ {L : Type 0} (w : WorldOf L) (s : ℕ) (there : s < length w.actors) (q : Parts) (v : Work) (a : ActorState) (does : a.work ≡ v) (leaves : (t : Table) → SamePrevious w.table t → LeavesLooks w s there t) (alone : (r : Revision) → learned (memory_at w.memories (node_in w.history s)) no_entries (raised no_entries r) ≡ swept_to (memory_at w.memories (node_in w.history s)) r) where
  abbrev node : ℕ
  node = node_in w.history s

  abbrev memory : NodeState
  memory = memory_at w.memories node

  abbrev now : State
  now = state_of (with_parts w s q a)

  running_now : (t : Table) (y : Work) → v ≡ y → running_of t s a.work ≡ running_of t s y
  running_now t y is = ap (running_of t s) (does ∙ is)

  reading_now : (y : Work) → v ≡ y → reading_of a.work ≡ reading_of y
  reading_now y is = ap reading_of (does ∙ is)

  observing_now : (y : Work) → v ≡ y → observing_of a.work ≡ observing_of y
  observing_now y is = ap observing_of (does ∙ is)

  -- nothing changes
  module _ (u y : Work) (here : work_in w.actors s ≡ u) (is : v ≡ y) (running : (t : Table) → running_of w.table s u ≡ running_of t s y) (same : SameReaders u y) where
    abbrev runs : (t : Table) → running_of w.table s (work_in w.actors s) ≡ running_of t s a.work
    runs t = ap (running_of w.table s) here ∙ (running t ∙ sym (running_now t y is))

    abbrev reads : SameReaders (work_in w.actors s) a.work
    reads = same_readers (work_in w.actors s) a.work u y here (does ∙ is) same

    still : q ≡ parts_at w s → now ≡ state_of w
    still alike = ap (λ (p : Parts). state_of (with_parts w s p a)) alike ∙ same_is w s there leaves a (runs w.table) reads

    tells : (e : Event) (m : NodeState) → q ≡ parts w.table m (reverse w.history.past ++ e ∷ []) → now ≡ record (state_of w) { past = e ∷ w.history.past; memories = with_memory w.memories node m }
    tells e m alike = ap (λ (p : Parts). state_of (with_parts w s p a)) alike ∙ told_is w s there leaves e m a (runs w.table) reads

    sets : (e : Event) (t : Table) → SamePrevious w.table t → q ≡ parts t memory (reverse w.history.past ++ e ∷ []) → now ≡ record (state_of w) { past = e ∷ w.history.past; table = t }
    sets e t previous alike = ap (λ (p : Parts). state_of (with_parts w s p a)) alike ∙ sets_is w s there leaves e t a previous (runs t) reads

  login_makes : work_in w.actors s ≡ work.Login → (o : StepOut) → Steps s node (parts_at w s) work.Login q v o → MakesState s (state_of w) work.Login now v o
  login_makes here (answers.Ready (ends.Pinned pin)) h = (tells work.Login work.Rest here h.2 (λ t. refl) (refl, refl) (event.Login s memory.head) (with_pin memory s (pin_now memory)) h.1, h.2, h.0)
  login_makes here answers.Memory h = (still work.Login work.Rest here h.1 (λ t. refl) (refl, refl) h.0, h.1)
  login_makes here _ h = absurd h

  end_makes : work_in w.actors s ≡ work.End → (o : StepOut) → Steps s node (parts_at w s) work.End q v o → MakesState s (state_of w) work.End now v o
  end_makes here (answers.Ready ends.Ended) h = (tells work.End work.Rest here h.1 (λ t. refl) (refl, refl) (event.Went s kind.End) (without_session memory s) h.0, h.1)
  end_makes here answers.Memory h = (still work.End work.Rest here h.1 (λ t. refl) (refl, refl) h.0, h.1)
  end_makes here _ h = absurd h

  refresh_makes : work_in w.actors s ≡ work.Refresh → (o : StepOut) → Steps s node (parts_at w s) work.Refresh q v o → MakesState s (state_of w) work.Refresh now v o
  refresh_makes here (answers.Ready (ends.Pinned pin)) h = (tells work.Refresh work.Rest here h.2 (λ t. refl) (refl, refl) (event.Refresh s memory.head) (with_pin memory s (pin_now memory)) h.1, h.2, h.0)
  refresh_makes here answers.Memory h = (still work.Refresh work.Rest here h.1 (λ t. refl) (refl, refl) h.0, h.1)
  refresh_makes here _ h = absurd h

  -- a reader alone
  module _ (r : Reader) (here : work_in w.actors s ≡ work.Read r) where
    reader_on : (y : Work) → v ≡ y → running_of w.table s y ≡ None → observing_of y ≡ None → q ≡ parts_at w s → now ≡ with_reader (state_of w) s (reading_of y)
    reader_on y is none unobserved same =
        ap (λ (p : Parts). state_of (with_parts w s p a)) same
        ∙ (reads_is w s there leaves a (ap (running_of w.table s) here ∙ sym (running_now w.table y is ∙ none)) (ap observing_of here ∙ sym (observing_now y is ∙ unobserved))
        ∙ ap (λ (x : Option Reader). with_reader (state_of w) s x) (reading_now y is))

    read_makes : (o : StepOut) → Steps s node (parts_at w s) (work.Read r) q v o → MakesState s (state_of w) (work.Read r) now v o
    read_makes (answers.Went kind.Read) h = (reader_on (work.Read (read_on w.table r)) h.1.0 refl refl h.0, h.1.0, h.1.1)
    read_makes (answers.Ready e) h = (reader_on work.Rest h.1.0 refl refl h.0, h.1.0, h.1.1)
    read_makes answers.Memory h = (reader_on work.Rest h.1 refl refl h.0, h.1)
    read_makes (answers.Went _) h = absurd h.1
    read_makes (answers.Wait o) h = absurd h.1
    read_makes (answers.Stopped position) h = absurd h.1

  -- a reader of changes alone
  module _ (r : ChangesReader) (here : work_in w.actors s ≡ work.Changes r) where
    observes_on : (y : Work) → v ≡ y → running_of w.table s y ≡ None → reading_of y ≡ None → q ≡ parts_at w s → now ≡ with_observer (state_of w) s (observing_of y)
    observes_on y is none unread same =
        ap (λ (p : Parts). state_of (with_parts w s p a)) same
        ∙ (observes_is w s there leaves a (ap (running_of w.table s) here ∙ sym (running_now w.table y is ∙ none)) (ap reading_of here ∙ sym (reading_now y is ∙ unread))
        ∙ ap (λ (x : Option ChangesReader). with_observer (state_of w) s x) (observing_now y is))

    changes_make : (o : StepOut) → Steps s node (parts_at w s) (work.Changes r) q v o → MakesState s (state_of w) (work.Changes r) now v o
    changes_make (answers.Went kind.Read) h = (observes_on (work.Changes (changes_on w.table r)) h.1.0 refl refl h.0, h.1.0, h.1.1)
    changes_make (answers.Ready (ends.Changes commits)) h = (observes_on work.Rest h.1.0 refl refl h.0, h.1.0, h.1.1)
    changes_make answers.Memory h = (observes_on work.Rest h.1 refl refl h.0, h.1)
    changes_make _ h = absurd h.1

  plan_makes : (edit : Edit) (marks : List MarkAt) → work_in w.actors s ≡ work.Plan edit marks → (o : StepOut) → Steps s node (parts_at w s) (work.Plan edit marks) q v o → MakesState s (state_of w) (work.Plan edit marks) now v o
  plan_makes edit marks here (answers.Went kind.Draw) h = (
    ap (λ (p : Parts). state_of (with_parts w s p a)) h.0
        ∙ begins_is w s there leaves (event.Draw (record { revision = next_draw memory; session = s; base = pinned_base memory s; edit = edit; marks = marks })) (with_notes (next_draw memory) (with_draw memory (next_draw memory)) (marked_paths marks)) a
        (Some (running_as s (begun (next_draw memory) (pinned_base memory s) edit marks))) (running_now w.table _ h.1) (same_readers (work_in w.actors s) a.work (work.Plan edit marks) _ here (does ∙ h.1) (refl, refl)),
    h.1,
  )
  plan_makes edit marks here answers.Memory h = (still (work.Plan edit marks) work.Rest here h.1 (λ t. refl) (refl, refl) h.0, h.1)
  plan_makes edit marks here _ h = absurd h

  move_makes : (r : Revision) → work_in w.actors s ≡ work.Move r → (o : StepOut) → Steps s node (parts_at w s) (work.Move r) q v o → MakesState s (state_of w) (work.Move r) now v o
  move_makes r here (answers.Wait o) h = (still (work.Move r) (work.Move r) here h.1 (λ t. refl) (refl, refl) h.0, h.1, h.2)
  move_makes r here (answers.Ready (ends.Commit (end.Committed o))) h = (tells (work.Move r) work.Rest here h.3 (λ t. refl) (refl, refl) (event.Refresh s memory.head) (with_pin memory s (pin_now memory)) h.2, h.3, h.0, h.1)
  move_makes r here _ h = absurd h

  -- ---- a commit

  module _ (c : Committing) (here : work_in w.actors s ≡ work.Commit c) (roots : (once_looked w.table c).roots ≡ map (λ (f : Met). root_of w.history.past f.other) (once_looked w.table c).writer.due) (looks : (k : Look) → c.looking ≡ Some k → IsLooking c k) where
    root_first : (at : IsMarkStage c) → first_path c.roots ≡ root_of w.history.past at.first.other
    root_first at = ap first_path (subst (λ (e : Committing). e.roots ≡ map (λ (f : Met). root_of w.history.past f.other) e.writer.due) (once_alone w.table c at.looked) roots ∙ ap (map (λ (f : Met). root_of w.history.past f.other)) at.due)

    -- one that undoes looks at no previous document
    unlooking : undoes c.outcome ≡ true → c.looking ≡ None
    unlooking undoing = by c.looking refl
      where
        by : (o : Option Look) → c.looking ≡ o → o ≡ None
        by None is = refl
        by (Some k) is = absurd (false≢true (sym (ap undoes (looks k is).going) ∙ undoing))

    alike : (d : Committing) → v ≡ work.Commit d → SameReaders (work_in w.actors s) a.work
    alike d is = same_readers (work_in w.actors s) a.work (work.Commit c) (work.Commit d) here (does ∙ is) (refl, refl)

    updates : (x : StepKind) (d : Committing) → q.memory ≡ memory → v ≡ work.Commit d → UpdatesDocument s (saving w.table (reverse w.history.past) c) (saving q.table q.list d) x → MakesUpdate s (state_of w) c now d x
    updates kind.Mark d same is h = let at : IsMarkStage c = mark_stage c h.0 in makes_mark w s there leaves c q a d same (does ∙ is) (alike d is) at (root_first at) h.1
    updates kind.Write d same is h = makes_write w s there leaves c q a d same (does ∙ is) (alike d is) (write_stage c h.0) h.1
    updates kind.Read d same is h = let at : IsLookStage c = look_stage c h.0 in makes_look w s there leaves c q a d same (does ∙ is) (alike d is) at (looks at.looking at.looked) here h.1
    updates kind.Last d same is h = makes_last w s there leaves c q a d same (does ∙ is) (alike d is) (last_stage c h.0) h.1
    updates kind.Undo d same is h = makes_undo w s there leaves c q a d same (does ∙ is) (alike d is) (undo_stage c h.0) (unlooking (undo_stage c h.0).undoing) h.1
    updates _ d same is h = absurd h

    wants : (d : Committing) → v ≡ work.Commit d → d ≡ wanting c → v ≡ work.Commit (wanting c)
    wants d is so = is ∙ ap (λ (e : Committing). work.Commit e) so

    given_up : (d : Committing) (o : StepOut) → q.memory ≡ memory → v ≡ work.Commit d → IsGivenUp (saving w.table (reverse w.history.past) c) (saving q.table q.list d) o → now ≡ after_want (state_of w) s (running_as s c)
    given_up d o same is h =
        ap (λ (p : Parts). state_of (with_parts w s p a)) (same_parts q (parts_at w s) h.table same h.list)
        ∙ (runs_is w s there leaves w.history.past (reverse w.history.past) w.table a (Some (running_as s (wanting c))) (λ k p. refl) (reverse-reverse w.history.past) (running_now w.table (work.Commit (wanting c)) (wants d is h.committer)) (alike (wanting c) (wants d is h.committer))
        ∙ ap (λ (b : Bool). record (state_of w) { running = with_session (state_of w).running s (Some (record (running_as s (wanting c)) { committed = b })) }) (sym (ap is_past h.going)))

    ends_so : (y : Work) (o : StepOut) → EndsSo c y o → (running_of w.table s y ≡ None) × SameReaders (work.Commit c) y
    ends_so y (answers.Went kind.Finish) h = (ap (running_of w.table s) h.1, same_readers (work.Commit c) y (work.Commit c) (work.Move c.revision) refl h.1 (refl, refl))
    ends_so y (answers.Ready (ends.Commit e)) h = (ap (running_of w.table s) h.2, same_readers (work.Commit c) y (work.Commit c) work.Rest refl h.2 (refl, refl))
    ends_so y _ h = absurd h

    ended : (o : StepOut) → q ≡ parts_ended node (parts_at w s) c.revision → EndsSo c v o → now ≡ after_finish (state_of w) s (running_as s c)
    ended o same h =
        let quiet = ends_so v o h in
        ap (λ (p : Parts). state_of (with_parts w s p a)) same
        ∙ ended_is w s there leaves c.revision a (ap (running_of w.table s) does ∙ quiet.0) (same_readers (work_in w.actors s) a.work (work.Commit c) v here does quiet.1)

    commit_makes : (o : StepOut) → CommitsOn (stepping s node (parts_at w s)) c q v o → MakesCommit s (state_of w) c now v o
    commit_makes o (inl h) = inr (inl (h.0, ended o h.1 h.2, h.2))
    commit_makes o (inr h) = by h.3
      where
        by : UpdatesOn s (saving w.table (reverse w.history.past) c) (saving q.table q.list h.1) o → MakesCommit s (state_of w) c now v o
        by (inl g) = inl (g.0, g.1, h.1, h.2, updates g.0 h.1 h.0 h.2 g.2)
        by (inr g) = inr (inr (g.answer, g.going, given_up h.1 o h.0 h.2 g, wants h.1 h.2 g.committer))

  -- ---- background work, and the settings

  module _ (k : Upkeep) (here : work_in w.actors s ≡ work.Upkeep k) where
    nothing : q ≡ parts_at w s → v ≡ work.Rest → now ≡ state_of w
    nothing same rest = still (work.Upkeep k) work.Rest here rest (λ t. refl) (refl, refl) same

    -- what a background write tells is a node's document
    told_previous : (b : BackWrite) (p : Path) → IsPathDue b p → SamePrevious w.table (after_ask w.table (publishing.due b))
    told_previous b p told = both_previous w.table (after_update w.table (publishing.back_op p b.upto)) (after_ask w.table (publishing.due b)) (update_previous w.table (publishing.back_op p b.upto) refl) (told_table w.table b p told)

    publishes : (b : BackWrite) (o : StepOut) → PublishesOn (stepping s node (parts_at w s)) b q v o → MakesBackWrite s (state_of w) b now v o
    publishes b (answers.Went kind.Back) h =
        let p = below_due b h.0 in
        let goes = goes_on w.table b p.0 p.1 in (
          h.0,
          p.0,
          (p.1).asks,
          sets (work.Upkeep k) (work.Upkeep (upkeep.Publish (published_on w.table b))) here h.2 (λ t. refl) (refl, refl) (event.Went s kind.Back) (after_ask w.table (publishing.due b)) (told_previous b p.0 p.1) h.1
              ∙ ap (λ (t : Table). record (state_of w) { past = event.Went s kind.Back ∷ w.history.past; table = t }) (told_table w.table b p.0 p.1),
          h.2 ∙ ap (λ (c : BackWrite). work.Upkeep (upkeep.Publish c)) goes,
        )
    publishes b (answers.Ready (ends.Published o)) h =
        let root = root_due b h.0 in (
          h.0,
          h.1,
          sets (work.Upkeep k) work.Rest here h.3 (λ t. refl) (refl, refl) (event.Out node b.upto) (after_ask w.table (publishing.due b)) (told_previous b [] root) h.2
              ∙ ap (λ (t : Table). record (state_of w) { past = event.Out node b.upto ∷ w.history.past; table = t }) (told_table w.table b [] root),
          h.3,
        )
    publishes b answers.Memory h = (nothing h.0 h.1, h.1)
    publishes b _ h = absurd h

    publishes_first : (n : Pending) (o : StepOut) → PublishesFirst (stepping s node (parts_at w s)) n q v o → BeginsBackWrite s (state_of w) n now v o
    publishes_first n o (inl h) = inl (h.0, nothing h.1.0 h.1.1, h.1.1)
    publishes_first n o (inr h) = inr (h.0, h.1, h.2, publishes h.1 o h.3)

    learns : (b : BackRead) (o : StepOut) → LearnsOn (stepping s node (parts_at w s)) b q v o → MakesBackRead s (state_of w) b now v o
    learns b (answers.Went kind.Back) h = (
      h.0,
      sets (work.Upkeep k) (work.Upkeep (upkeep.Read (learned_on w.table b))) here h.2 (λ t. refl) (refl, refl) (event.Went s kind.Back) (after_ask w.table (learning.due b)) (same_previous w.table (after_ask w.table (learning.due b)) (read_table w.table b h.0)) h.1
          ∙ ap (λ (t : Table). record (state_of w) { past = event.Went s kind.Back ∷ w.history.past; table = t }) (read_table w.table b h.0),
      h.2 ∙ ap (λ (c : BackRead). work.Upkeep (upkeep.Read c)) (reads_on w.table b h.0),
    )
    learns b (answers.Ready (ends.Learnt u)) h =
        (h.0, h.1, tells (work.Upkeep k) work.Rest here h.3 (λ t. refl) (refl, refl) (event.In node (learned memory b.last b.sweep).head) (learned memory b.last b.sweep) h.2, h.3)
    learns b answers.Memory h = (nothing h.0 h.1, h.1)
    learns b _ h = absurd h

    passes : (x : Sweeper) (o : StepOut) → PassesOn (stepping s node (parts_at w s)) x q v o → MakesSweep s (state_of w) x now v o
    passes x (answers.Went kind.Sweep) h = (by (sweeping.stage_of x) refl h.0, h.2)
      where
        made : (e : Event) (t : Table) → SamePrevious w.table t → q ≡ parts t memory (reverse w.history.past ++ e ∷ []) → now ≡ record (state_of w) { past = e ∷ w.history.past; table = t }
        made e t same is = sets (work.Upkeep k) (work.Upkeep (upkeep.Sweeping (swept_on w.table x))) here h.2 (λ u. refl) (refl, refl) e t same is

        -- a document is looked for
        looked : IsLookingFor (sweeping.stage_of x) → now ≡ after_went (state_of w) s kind.Sweep
        looked looks =
            let stay = looks_stay w.table s node x looks in
            made (event.Went s kind.Sweep) w.table (λ k p. refl)
            (h.1 ∙ (ap (λ (t : Table). parts t memory (reverse w.history.past ++ sweep_event s node x (sweeping.due x) ∷ [])) stay.0 ∙ ap (λ (e : Event). parts w.table memory (reverse w.history.past ++ e ∷ [])) stay.1))

        -- the root is told
        told : sweeping.stage_of x ≡ swept.Publish → now ≡ after_sweep (state_of w) s x.target
        told at = made (event.Sweep node x.target) (after_update w.table (sweeping.sweep_op x.target)) (update_previous w.table (sweeping.sweep_op x.target) refl) (h.1 ∙ ap (λ (a : Ask). parts (after_ask w.table a) memory (reverse w.history.past ++ sweep_event s node x a ∷ [])) (root_told x at))

        by : (y : Swept) → sweeping.stage_of x ≡ y → IsPassing y → PassesTo s (state_of w) x y now
        by swept.Root at m = looked (subst IsLookingFor (sym at) tt)
        by swept.Document at m = looked (subst IsLookingFor (sym at) tt)
        by swept.Publish at m = told at
        by swept.Learn at m = absurd m
        by swept.Done at m = absurd m
    passes x (answers.Ready (ends.Swept r)) h = (
      h.0,
      h.1,
      tells (work.Upkeep k) work.Rest here h.3 (λ t. refl) (refl, refl) (event.Went s kind.Learn) (learned memory no_entries (raised no_entries x.target)) h.2
          ∙ ap (λ (m : NodeState). record (state_of w) { past = event.Went s kind.Learn ∷ w.history.past; memories = with_memory w.memories node m }) (alone x.target),
      h.3,
    )
    passes x answers.Memory h = (nothing h.0 h.1, h.1)
    passes x _ h = absurd h

  upkeep_makes : (k : Upkeep) → work_in w.actors s ≡ work.Upkeep k → (o : StepOut) → KeepsUp (stepping s node (parts_at w s)) k q v o → MakesUpkeep s (state_of w) k now v o
  upkeep_makes upkeep.Write here (answers.Went kind.Back) h = (h.0, h.1, tells (work.Upkeep upkeep.Write) (work.Upkeep (upkeep.Noted h.0)) here h.3 (λ t. refl) (refl, refl) (event.Went s kind.Back) (without_seen memory) h.2, h.3)
  upkeep_makes upkeep.Write here answers.Memory h = (still (work.Upkeep upkeep.Write) work.Rest here h.1 (λ t. refl) (refl, refl) h.0, h.1)
  upkeep_makes upkeep.Write here _ h = absurd h
  upkeep_makes (upkeep.Noted n) here o h = publishes_first (upkeep.Noted n) here n o h
  upkeep_makes (upkeep.Publish b) here o h = publishes (upkeep.Publish b) here b o h
  upkeep_makes (upkeep.Read b) here o h = learns (upkeep.Read b) here b o h
  upkeep_makes upkeep.Sweep here o h = (h.0, passes upkeep.Sweep here (sweeping.begun h.0 node) o h.1)
  upkeep_makes (upkeep.Sweeping x) here o h = passes (upkeep.Sweeping x) here x o h
  upkeep_makes (upkeep.Checkpoint i) here (answers.Ready (ends.Set None)) h = (h.0, h.1, sets (work.Upkeep (upkeep.Checkpoint i)) work.Rest here h.3 (λ t. refl) (refl, refl) (event.Checkpoint i (h.0).base) (after_update w.table (setting_op (change.Checkpoint i h.0))) (update_previous w.table (setting_op (change.Checkpoint i h.0)) refl) h.2, h.3)
  upkeep_makes (upkeep.Checkpoint i) here answers.Memory h = (still (work.Upkeep (upkeep.Checkpoint i)) work.Rest here h.1 (λ t. refl) (refl, refl) h.0, h.1)
  upkeep_makes (upkeep.Checkpoint i) here _ h = absurd h
  upkeep_makes (upkeep.Release i) here (answers.Ready (ends.Set None)) h = (h.0, sets (work.Upkeep (upkeep.Release i)) work.Rest here h.2 (λ t. refl) (refl, refl) (event.Release i) (after_update w.table (setting_op (change.Release i))) (update_previous w.table (setting_op (change.Release i)) refl) h.1, h.2)
  upkeep_makes (upkeep.Release i) here (answers.Ready ends.NoCheckpoint) h = (h.0, sets (work.Upkeep (upkeep.Release i)) work.Rest here h.2 (λ t. refl) (refl, refl) (event.Went s kind.Settings) (after_update w.table (setting_op (change.Release i))) (update_previous w.table (setting_op (change.Release i)) refl) h.1, h.2)
  upkeep_makes (upkeep.Release i) here answers.Memory h = (still (work.Upkeep (upkeep.Release i)) work.Rest here h.1 (λ t. refl) (refl, refl) h.0, h.1)
  upkeep_makes (upkeep.Release i) here _ h = absurd h
  upkeep_makes (upkeep.Attach i) here (answers.Ready (ends.Set (Some pin))) h = (h.0, sets (work.Upkeep (upkeep.Attach i)) work.Rest here h.2 (λ t. refl) (refl, refl) (event.Attach s i) (after_update w.table (setting_op (change.Attach s i))) (update_previous w.table (setting_op (change.Attach s i)) refl) h.1, h.2)
  upkeep_makes (upkeep.Attach i) here (answers.Ready ends.NoCheckpoint) h = (h.0, sets (work.Upkeep (upkeep.Attach i)) work.Rest here h.2 (λ t. refl) (refl, refl) (event.Went s kind.Settings) (after_update w.table (setting_op (change.Attach s i))) (update_previous w.table (setting_op (change.Attach s i)) refl) h.1, h.2)
  upkeep_makes (upkeep.Attach i) here answers.Memory h = (still (work.Upkeep (upkeep.Attach i)) work.Rest here h.1 (λ t. refl) (refl, refl) h.0, h.1)
  upkeep_makes (upkeep.Attach i) here _ h = absurd h
  upkeep_makes upkeep.Detach here (answers.Went kind.Pin) h = (tells (work.Upkeep upkeep.Detach) (work.Upkeep (upkeep.Detaching (pin_now memory))) here h.1 (λ t. refl) (refl, refl) (event.Refresh s memory.head) (with_pin memory s (pin_now memory)) h.0, h.1)
  upkeep_makes upkeep.Detach here answers.Memory h = (still (work.Upkeep upkeep.Detach) work.Rest here h.1 (λ t. refl) (refl, refl) h.0, h.1)
  upkeep_makes upkeep.Detach here _ h = absurd h
  upkeep_makes (upkeep.Detaching pin) here (answers.Ready (ends.Pinned o)) h = (h.0, sets (work.Upkeep (upkeep.Detaching pin)) work.Rest here h.2 (λ t. refl) (refl, refl) (event.Detach s) (after_update w.table (setting_op (change.Detach s))) (update_previous w.table (setting_op (change.Detach s)) refl) h.1, h.2)
  upkeep_makes (upkeep.Detaching pin) here answers.Memory h = (still (work.Upkeep (upkeep.Detaching pin)) work.Rest here h.1 (λ t. refl) (refl, refl) h.0, h.1)
  upkeep_makes (upkeep.Detaching pin) here _ h = absurd h
  upkeep_makes upkeep.Observe here (answers.Ready (ends.Pinned pin)) h = (h.0, tells (work.Upkeep upkeep.Observe) work.Rest here h.2 (λ t. refl) (refl, refl) (event.Went s kind.Pin) (with_pin memory (cursor_owner s) pin) h.1, h.2)
  upkeep_makes upkeep.Observe here answers.Memory h = (still (work.Upkeep upkeep.Observe) work.Rest here h.1 (λ t. refl) (refl, refl) h.0, h.1)
  upkeep_makes upkeep.Observe here _ h = absurd h

  -- ---- all

  pub makes : (u : Work) → work_in w.actors s ≡ u → ((c : Committing) → u ≡ work.Commit c → ((once_looked w.table c).roots ≡ map (λ (f : Met). root_of w.history.past f.other) (once_looked w.table c).writer.due) × ((k : Look) → c.looking ≡ Some k → IsLooking c k))
      → (o : StepOut) → Steps s node (parts_at w s) u q v o → MakesState s (state_of w) u now v o
  makes work.Rest here roots o h = absurd h
  makes work.Login here roots o h = login_makes here o h
  makes work.End here roots o h = end_makes here o h
  makes work.Refresh here roots o h = refresh_makes here o h
  makes (work.Read r) here roots o h = read_makes r here o h
  makes (work.Changes r) here roots o h = changes_make r here o h
  makes (work.Plan edit marks) here roots o h = plan_makes edit marks here o h
  makes (work.Commit c) here roots o h = commit_makes c here (roots c refl).0 (roots c refl).1 o h
  makes (work.Upkeep k) here roots o h = upkeep_makes k here o h
  makes (work.Move r) here roots o h = move_makes r here o h
  makes (work.Tidy x) here roots o h = absurd h
  makes (work.Told e) here roots o h = absurd h

-- ---- over all memories

-- what is answered hangs on no event
told_alike : (t : Table) (ms : List NodeState) (es fs : List Event) (a : Ask) → told_to (all_parts t ms es) a ≡ told_to (all_parts t ms fs) a
told_alike t ms es fs (ask.RemoveIf i n) = refl
told_alike t ms es fs (ask.Memory m) = refl
told_alike t ms es fs _ = refl

-- the events of a step, of which there is one at most, are the newest
went_newest : (past : Past) (s : ℕ) (k : StepKind) → reverse (reverse past ++ went s k) ≡ went s k ++ past
went_newest past s kind.Read = reverse-append (reverse past) [] ∙ reverse-reverse past
went_newest past s k = newest past (event.Went s k)

abbrev bound_of : Tidying → Event
bound_of y = event.Bound (bound_told y).base (bound_told y).sweep

tidy_newest : (past : Past) (s : ℕ) (x y : Tidying) → reverse (reverse past ++ tidy_events s x y) ≡ tidy_events s x y ++ past
tidy_newest past s x y = by (takes_bound x (tidying_ask x))
  where
    by : (b : Bool) → reverse (reverse past ++ option_map_or (λ e. e ∷ []) (cond b (Some (bound_of y)) None) (went s (kind_tidied x))) ≡ option_map_or (λ e. e ∷ []) (cond b (Some (bound_of y)) None) (went s (kind_tidied x)) ++ past
    by true = newest past (bound_of y)
    by false = went_newest past s (kind_tidied x)

-- what has ended reads nothing
ended_unread : (s : ℕ) (x : Tidying) (e : TaskEnd) (told : Event) → TidiesTo s x e told → reader_of x ≡ None
ended_unread s (tidying.Split x) (ends.Split e) told h = ap (reader_at x) h.0
ended_unread s (tidying.Split x) _ told h = absurd h
ended_unread s (tidying.Collect x) e told h = refl

module _ {L : Type 0} (w : WorldOf L) (s : ℕ) (there : s < length w.actors) (q : Parts) (v : Work) (a : ActorState) (does : a.work ≡ v) (x : Tidying) (here : work_in w.actors s ≡ work.Tidy x) (still : q.memory ≡ memory_at w.memories (node_in w.history s)) where
  abbrev stands : State
  stands = state_of (with_parts w s q a)

  abbrev next : Tidying
  next = tidied_in (state_of w) x

  abbrev answered : Table
  answered = table_after w.table (tidying_ask x)

  abbrev events : Past
  events = tidy_events s x next

  abbrev own_memory : NodeState
  own_memory = memory_at w.memories (node_in w.history s)

  -- the state where what was asked is answered
  tidied_state : (y : Work) → a.work ≡ y → running_of answered s y ≡ None → observing_of y ≡ None → reading_of y ≡ reader_of next → q.table ≡ answered → reverse q.list ≡ events ++ w.history.past → LeavesLooks w s there answered → stands ≡ after_tidied (state_of w) s x
  tidied_state y is runs observes reads table list leaves =
      moved_is w s there q a (λ p. ap (λ (t : Table). running_of t p (work_in w.actors p)) table ∙ leaves p)
      ∙ (ap (λ (past : Past). moved w s there past q.table q.memory (running_of q.table s a.work) a.work) list
      ∙ (ap (λ (t : Table). moved w s there (events ++ w.history.past) t q.memory (running_of t s a.work) a.work) table
      ∙ (ap (λ (m : NodeState). moved w s there (events ++ w.history.past) answered m (running_of answered s a.work) a.work) still
      ∙ (ap (λ (z : Work). moved w s there (events ++ w.history.past) answered own_memory (running_of answered s z) z) is
      ∙ (ap (λ (ms : List NodeState). record (moved w s there (events ++ w.history.past) answered own_memory (running_of answered s y) y) { memories = ms }) (memory_same w.memories (node_in w.history s))
      ∙ (ap (λ (f : ℕ → Option Running). record (after_tidied (state_of w) s x) { running = f; reading = with_session (state_of w).reading s (reading_of y); observing = with_session (state_of w).observing s (observing_of y) }) (session_same (state_of w).running s (running_of answered s y) (ap (running_of w.table s) here ∙ sym runs))
      ∙ (ap (λ (f : ℕ → Option ChangesReader). record (after_tidied (state_of w) s x) { reading = with_session (state_of w).reading s (reading_of y); observing = f }) (session_same (state_of w).observing s (observing_of y) (ap observing_of here ∙ sym observes))
      ∙ ap (λ (r : Option Reader). record (after_tidied (state_of w) s x) { reading = with_session (state_of w).reading s r }) reads)))))))

  -- where memory was refused
  gone_state : a.work ≡ work.Rest → q ≡ parts_at w s → stands ≡ with_reader (state_of w) s None
  gone_state is same =
      ap (λ (p : Parts). state_of (with_parts w s p a)) same
      ∙ (rest_is w s there a
      ∙ (ap (λ (z : Work). with_readers w s there (record (state_of w) { running = with_session (state_of w).running s (running_of w.table s z) }) z) is
      ∙ (ap (λ (f : ℕ → Option Running). with_readers w s there (record (state_of w) { running = f }) work.Rest) (session_same (state_of w).running s None (ap (running_of w.table s) here))
      ∙ ap (λ (f : ℕ → Option ChangesReader). record (with_reader (state_of w) s None) { observing = f }) (session_same (state_of w).observing s None (ap observing_of here)))))

  module _ (leaves : LeavesLooks w s there answered) (left : Tidied) (is : v ≡ work_left left) where
    abbrev before : AllParts
    before = all_parts w.table w.memories (reverse w.history.past)

    next_is : tidied_on before x ≡ next
    next_is = ap (tidying_fed x) (told_alike w.table w.memories (reverse w.history.past) [] (tidying_ask x))

    list_is : all_parts q.table w.memories q.list ≡ parts_on s before x → reverse q.list ≡ events ++ w.history.past
    list_is same =
        ap (λ (p : AllParts). reverse p.list) same
        ∙ (ap (λ (y : Tidying). reverse (reverse w.history.past ++ tidy_events s x y)) next_is
        ∙ tidy_newest w.history.past s x next)

    there_makes : (o : StepOut) → Tidies s before x (all_parts q.table w.memories q.list) left o → MakesState s (state_of w) (work.Tidy x) stands v o
    there_makes answers.Memory h = (
      gone_state (does ∙ (is ∙ ap work_left h.1)) (same_parts q (parts_at w s) (ap (λ (p : AllParts). p.table) h.0) still (ap (λ (p : AllParts). p.list) h.0)),
      is ∙ ap work_left h.1,
    )
    there_makes (answers.Went k) h =
        let goes = subst (λ (y : Tidying). GoesOrEnds s (kind_tidied x) y left (answers.Went k)) next_is h.1 in (
          tidied_state (work.Tidy next) (does ∙ (is ∙ ap work_left goes.1)) refl refl refl (ap (λ (p : AllParts). p.table) h.0) (list_is h.0) leaves,
          left,
          is,
          goes,
        )
    there_makes (answers.Ready e) h =
        let goes = subst (λ (y : Tidying). GoesOrEnds s (kind_tidied x) y left (answers.Ready e)) next_is h.1 in (
          tidied_state (work.Told goes.0) (does ∙ (is ∙ ap work_left goes.2)) refl refl (sym (ended_unread s next e goes.0 goes.1)) (ap (λ (p : AllParts). p.table) h.0) (list_is h.0) leaves,
          left,
          is,
          goes,
        )
    there_makes _ h = absurd h.1

    -- a step of a split or a collection is one of the state
    pub tidies_make : (es : List Event) → es ≡ reverse w.history.past → (ns : List NodeState) → ns ≡ w.memories → (o : StepOut) → Tidies s (all_parts w.table w.memories es) x (all_parts q.table ns q.list) left o → MakesState s (state_of w) (work.Tidy x) stands v o
    tidies_make es told ns kept o h =
        there_makes o
        (subst (λ (ms : List NodeState). Tidies s before x (all_parts q.table ms q.list) left o) kept
        (subst (λ (fs : List Event). Tidies s (all_parts w.table w.memories fs) x (all_parts q.table ns q.list) left o) told h))
