-- A step of a session on its parts is a step of the state.
use Rattle.std.proofs.Common.{◌≡◌, ◌⊎◌, inl, inr, ℕ, ◌<◌, Bool, true, false, cond, Option, Some, None, List, [], ◌∷◌, ◌++◌, length, drop, refl, sym, ap, subst, ◌∙◌}
use Rattle.std.proofs.lemmas.List.{reverse-append, reverse-reverse}
use Rattle.std.specs.Prelude.{reverse}
use Rattle.jr_path.specs.declared.path.Path.{Path}
use Rattle.jr_path.specs.declared.path.Item.{Item}
use Rattle.jr_path.specs.declared.path.DocId.TheVariants as id
use Rattle.jr_rev.specs.declared.revision.Revision.{Revision}
use Rattle.jr_rev.specs.Revisions.{is_before}
use Rattle.oak_changes.specs.declared.changes.ChangesReader.{ChangesReader}
use Rattle.oak_clash.specs.Clashes.{commit_root}
use Rattle.oak_commit.specs.Clashing.{Met, mark_op}
use Rattle.oak_commit.specs.Committing.{Committing, fed, first_path, is_past, meeting, refused as refused_as, wanting, with_undone, written, wrote}
use Rattle.oak_commit.specs.Looking.{whole}
use Rattle.oak_commit.specs.Writing.{last_op, write_op}
use Rattle.oak_doc.specs.declared.asks.Reply.TheVariants as reply
use Rattle.oak_doc.specs.declared.update.UpdateOp.{UpdateOp}
use Rattle.oak_machine.specs.declared.event.Event.{Event}
use Rattle.oak_machine.specs.declared.event.Event.TheVariants as event
use Rattle.oak_machine.specs.declared.event.StepKind.TheVariants as kind
use Rattle.oak_machine.specs.History.{Past}
use Rattle.oak_node.specs.Heads.{finished}
use Rattle.oak_node.specs.Memory.{NodeState, own_entry}
use Rattle.oak_read.specs.declared.reader.Reader.{Reader}
use Rattle.oak_store.specs.Tables.{Table, after_undo, found as found_in, next_number, with_document}
use Rattle.core_clash.specs.Core.{root_of}
use Rattle.core_clash.specs.Sessions.{Running}
use Rattle.core_world.specs.States.{State, memory_at, moved_in, nodes_in, with_memory, with_session}
use Rattle.core_world.specs.Steps.{after_last, after_mark, after_update, after_want, after_write, after_write_in_want, lasted_by, marked_by, moved_head, with_observer, with_reader, with_result}
use Rattle.oak_step.specs.declared.work.Work.TheVariants as work
use Rattle.oak_saves.specs.Saves.{IsLast, IsLooked, IsUpdateMade, IsMarked, IsDocumentUndone, IsWritten, Parts, committed, end_events, fed_previous, fed_made, mark_made, op_due, parts, mark_refusal, result_of, saving}
use Rattle.oak_world.specs.Looks.{IsLooking}
use Rattle.oak_world.specs.Steps.{MakesUpdate}
use Rattle.oak_world.specs.Worlds.{ActorState, WorldOf, node_in, observing_of, once_looked, parts_at, reading_of, running_as, running_of, state_of, with_parts, work_in}
use Rattle.oak_saves.proofs.Feeding.{blocked_last, blocked_mark, fed_last, fed_mark, fed_undo, fed_write, op_last, op_mark, op_write}
use Rattle.oak_world.proofs.Going.{going_is}
use Rattle.oak_world.proofs.Looking.{SamePrevious, once_alone, once_found, once_written, put_previous, undo_previous, update_previous, wanting_found, wanting_written}
use Rattle.oak_saves.proofs.Stages.{IsLastStage, IsLookStage, IsMarkStage, IsUndoStage, IsWriteStage}
use Rattle.oak_world.proofs.States.{LeavesLooks, SameReaders, memory_same, moved, moved_is, newest, quiet_is, readers_same, rest_is, session_same, with_readers}

-- the end of a revision, with the head where that moved
pub ends_newest : (past : Past) (k : ℕ) (m : NodeState) (r : Revision) → reverse (reverse past ++ end_events k m r) ≡ moved_head k m (finished m r) (event.End r ∷ past)
ends_newest past k m r = by (is_before (own_entry m) (own_entry (finished m r)))
  where
    by : (b : Bool) → reverse (reverse past ++ (event.End r ∷ cond b (event.Head k (finished m r).head ∷ []) [])) ≡ cond b (event.Head k (finished m r).head ∷ event.End r ∷ past) (event.End r ∷ past)
    by true = reverse-append (reverse past) (event.End r ∷ event.Head k (finished m r).head ∷ []) ∙ ap (λ (q : Past). event.Head k (finished m r).head ∷ event.End r ∷ q) (reverse-reverse past)
    by false = newest past (event.End r)

module _ {L : Type 0} (w : WorldOf L) (s : ℕ) (there : s < length w.actors) (leaves : (t : Table) → SamePrevious w.table t → LeavesLooks w s there t) where
  abbrev node : ℕ
  node = node_in w.history s

  abbrev memory : NodeState
  memory = memory_at w.memories node

  -- ---- sessions

  -- no committer is changed
  not_running : (a : ActorState) → running_of w.table s (work_in w.actors s) ≡ running_of w.table s a.work → with_readers w s there (record (state_of w) { running = with_session (state_of w).running s (running_of w.table s a.work) }) a.work ≡ with_readers w s there (state_of w) a.work
  not_running a running = ap (λ (f : ℕ → Option Running). with_readers w s there (record (state_of w) { running = f }) a.work) (session_same (state_of w).running s (running_of w.table s a.work) running)

  -- nothing changes
  pub same_is : (a : ActorState) → running_of w.table s (work_in w.actors s) ≡ running_of w.table s a.work → SameReaders (work_in w.actors s) a.work → state_of (with_parts w s (parts_at w s) a) ≡ state_of w
  same_is a running same = rest_is w s there a ∙ (not_running a running ∙ readers_same w s there (state_of w) a.work same)

  -- the reader alone
  pub reads_is : (a : ActorState) → running_of w.table s (work_in w.actors s) ≡ running_of w.table s a.work → observing_of (work_in w.actors s) ≡ observing_of a.work → state_of (with_parts w s (parts_at w s) a) ≡ with_reader (state_of w) s (reading_of a.work)
  reads_is a running observing =
      rest_is w s there a
      ∙ (not_running a running
      ∙ ap (λ (f : ℕ → Option ChangesReader). record (with_reader (state_of w) s (reading_of a.work)) { observing = f }) (session_same (state_of w).observing s (observing_of a.work) observing))

  -- the reader of changes alone
  pub observes_is : (a : ActorState) → running_of w.table s (work_in w.actors s) ≡ running_of w.table s a.work → reading_of (work_in w.actors s) ≡ reading_of a.work → state_of (with_parts w s (parts_at w s) a) ≡ with_observer (state_of w) s (observing_of a.work)
  observes_is a running reading =
      rest_is w s there a
      ∙ (not_running a running
      ∙ ap (λ (f : ℕ → Option Reader). record (with_observer (state_of w) s (observing_of a.work)) { reading = f }) (session_same (state_of w).reading s (reading_of a.work) reading))

  -- an event, the documents and the memory
  pub keeps_is : (e : Event) (t : Table) (m : NodeState) (a : ActorState) → SamePrevious w.table t → running_of w.table s (work_in w.actors s) ≡ running_of t s a.work → SameReaders (work_in w.actors s) a.work
      → state_of (with_parts w s (parts t m (reverse w.history.past ++ e ∷ [])) a) ≡ record (state_of w) { past = e ∷ w.history.past; table = t; memories = with_memory w.memories node m }
  keeps_is e t m a previous running same =
      moved_is w s there (parts t m (reverse w.history.past ++ e ∷ [])) a (leaves t previous)
      ∙ (ap (λ (past : Past). moved w s there past t m (running_of t s a.work) a.work) (newest w.history.past e)
      ∙ quiet_is w s there (e ∷ w.history.past) t m (running_of t s a.work) a.work running same)

  -- an event, and the memory
  pub told_is : (e : Event) (m : NodeState) (a : ActorState) → running_of w.table s (work_in w.actors s) ≡ running_of w.table s a.work → SameReaders (work_in w.actors s) a.work
      → state_of (with_parts w s (parts w.table m (reverse w.history.past ++ e ∷ [])) a) ≡ record (state_of w) { past = e ∷ w.history.past; memories = with_memory w.memories node m }
  told_is e m a running same = keeps_is e w.table m a (λ k p. refl) running same

  -- an event and the documents
  pub sets_is : (e : Event) (t : Table) (a : ActorState) → SamePrevious w.table t → running_of w.table s (work_in w.actors s) ≡ running_of t s a.work → SameReaders (work_in w.actors s) a.work
      → state_of (with_parts w s (parts t memory (reverse w.history.past ++ e ∷ [])) a) ≡ record (state_of w) { past = e ∷ w.history.past; table = t }
  sets_is e t a previous running same = keeps_is e t memory a previous running same ∙ ap (λ (ms : List NodeState). record (state_of w) { past = e ∷ w.history.past; table = t; memories = ms }) (memory_same w.memories node)

  -- ---- a commit

  -- the events, the documents and the committer
  pub runs_is : (past : Past) (es : List Event) (t : Table) (a : ActorState) (x : Option Running) → SamePrevious w.table t → reverse es ≡ past → running_of t s a.work ≡ x → SameReaders (work_in w.actors s) a.work
      → state_of (with_parts w s (parts t memory es) a) ≡ record (state_of w) { past = past; table = t; running = with_session (state_of w).running s x }
  runs_is past es t a x previous told runs same =
      moved_is w s there (parts t memory es) a (leaves t previous)
      ∙ (ap (λ (q : Past). moved w s there q t memory (running_of t s a.work) a.work) told
      ∙ (ap (λ (y : Option Running). moved w s there past t memory y a.work) runs
      ∙ (ap (λ (ms : List NodeState). record (moved w s there past t memory x a.work) { memories = ms }) (memory_same w.memories node)
      ∙ readers_same w s there (record (state_of w) { past = past; table = t; running = with_session (state_of w).running s x }) a.work same)))

  -- the end
  pub ended_is : (r : Revision) (a : ActorState) → running_of w.table s a.work ≡ None → SameReaders (work_in w.actors s) a.work
      → state_of (with_parts w s (parts w.table (finished memory r) (reverse w.history.past ++ end_events node memory r)) a)
      ≡ record (state_of w) { past = moved_head node memory (finished memory r) (event.End r ∷ w.history.past); memories = with_memory w.memories node (finished memory r); running = with_session (state_of w).running s None }
  ended_is r a runs same =
      moved_is w s there (parts w.table (finished memory r) (reverse w.history.past ++ end_events node memory r)) a (λ q. refl)
      ∙ (ap (λ (q : Past). moved w s there q w.table (finished memory r) (running_of w.table s a.work) a.work) (ends_newest w.history.past node memory r)
      ∙ (ap (λ (y : Option Running). moved w s there (moved_head node memory (finished memory r) (event.End r ∷ w.history.past)) w.table (finished memory r) y a.work) runs
      ∙ readers_same w s there (record (state_of w) { past = moved_head node memory (finished memory r) (event.End r ∷ w.history.past); memories = with_memory w.memories node (finished memory r); running = with_session (state_of w).running s None }) a.work same))

  -- an event, the memory and the committer
  pub begins_is : (e : Event) (m : NodeState) (a : ActorState) (x : Option Running) → running_of w.table s a.work ≡ x → SameReaders (work_in w.actors s) a.work
      → state_of (with_parts w s (parts w.table m (reverse w.history.past ++ e ∷ [])) a) ≡ record (state_of w) { past = e ∷ w.history.past; memories = with_memory w.memories node m; running = with_session (state_of w).running s x }
  begins_is e m a x runs same =
      moved_is w s there (parts w.table m (reverse w.history.past ++ e ∷ [])) a (λ q. refl)
      ∙ (ap (λ (past : Past). moved w s there past w.table m (running_of w.table s a.work) a.work) (newest w.history.past e)
      ∙ (ap (λ (y : Option Running). moved w s there (e ∷ w.history.past) w.table m y a.work) runs
      ∙ readers_same w s there (record (state_of w) { past = e ∷ w.history.past; memories = with_memory w.memories node m; running = with_session (state_of w).running s x }) a.work same))

  -- ---- an operation of a commit on a document

  module _ (c : Committing) (q : Parts) (a : ActorState) (d : Committing) (still : q.memory ≡ memory) (does : a.work ≡ work.Commit d) (same : SameReaders (work_in w.actors s) a.work) where
    abbrev now : State
    now = state_of (with_parts w s q a)

    told : (e : Event) → q.list ≡ reverse w.history.past ++ e ∷ [] → reverse q.list ≡ e ∷ w.history.past
    told e list = ap (λ (es : List Event). reverse es) list ∙ newest w.history.past e

    -- the state after these events, with these documents, where the committer stands so
    stands_is : (past : Past) (t : Table) (y : Committing) → SamePrevious w.table t → reverse q.list ≡ past → q.table ≡ t → once_looked t d ≡ y
        → now ≡ record (state_of w) { past = past; table = t; running = with_session (state_of w).running s (Some (running_as s y)) }
    stands_is past t y previous list table stands =
        ap (λ (m : NodeState). state_of (with_parts w s (parts q.table m q.list) a)) still
        ∙ (ap (λ (u : Table). state_of (with_parts w s (parts u memory q.list) a)) table
        ∙ runs_is past q.list t a (Some (running_as s y)) previous list (ap (running_of t s) does ∙ ap (λ (z : Committing). Some (running_as s z)) stands) same)

    -- and after one more event
    update_is : (e : Event) (t : Table) (y : Committing) → SamePrevious w.table t → q.list ≡ reverse w.history.past ++ e ∷ [] → q.table ≡ t → once_looked t d ≡ y
        → now ≡ record (state_of w) { past = e ∷ w.history.past; table = t; running = with_session (state_of w).running s (Some (running_as s y)) }
    update_is e t y previous list table stands = stands_is (e ∷ w.history.past) t y previous (told e list) table stands

    -- it stands so, and looks at no previous document
    alone : (t : Table) (y : Committing) → d ≡ y → y.looking ≡ None → once_looked t d ≡ y
    alone t y is none = ap (once_looked t) is ∙ once_alone t y none

    -- a mark
    module _ (at : IsMarkStage c) (roots : first_path c.roots ≡ root_of w.history.past at.first.other) where
      abbrev op : UpdateOp
      op = mark_op (root_of w.history.past at.first.other) at.first.other c.revision at.first.theirs

      op_is : op_due c ≡ op
      op_is = op_mark c at.going at.looked at.first at.rest at.due ∙ ap (λ (p : Path). mark_op p at.first.other c.revision at.first.theirs) roots

      refusal_is : (e : Event) → mark_refusal c e → e ≡ event.Refuse c.revision at.first.mine at.first.other
      refusal_is e is = subst (λ (ds : List Met). mark_refusal (record c { writer = record c.writer { due = ds } }) e) at.due is

      marks_is : IsMarked s (saving w.table (reverse w.history.past) c) (saving q.table q.list d) → now ≡ after_mark (state_of w) s (running_as s c) at.first at.rest
      marks_is (inl m) =
          update_is (event.Went s kind.Mark) (with_document w.table op.id m.made.document (next_number w.table)) (mark_made c at.rest) (put_previous w.table op.id m.made.document (next_number w.table) refl) m.list
          (m.made.table ∙ ap (λ (o : UpdateOp). with_document w.table o.id m.made.document (next_number w.table)) op_is)
          (alone (with_document w.table op.id m.made.document (next_number w.table)) (mark_made c at.rest) (m.committer ∙ fed_mark c at.going at.looked at.first at.rest at.due (found_in w.table (op_due c).id)) at.looked)
          ∙ sym (ap (marked_by (state_of w) s (running_as s c) at.first at.rest) (sym (ap (result_of w.table) op_is) ∙ m.made.result))
      marks_is (inr m) =
          update_is (event.Refuse c.revision at.first.mine at.first.other) w.table (refused_as c at.first.mine at.first.other) (λ k p. refl)
          (m.list ∙ ap (λ (e : Event). reverse w.history.past ++ e ∷ []) (refusal_is m.refusal m.told)) m.table
          (alone w.table (refused_as c at.first.mine at.first.other) (m.committer ∙ blocked_mark c at.going at.looked at.first at.rest at.due m.cause m.thing) at.looked)
          ∙ (ap (λ (x : Running). record (state_of w) { past = event.Refuse c.revision at.first.mine at.first.other ∷ w.history.past; running = with_session (state_of w).running s (Some (record { draw = x.draw; writer = record x.writer { due = []; undoing = true }; committed = x.committed })) }) (sym (going_is c at.going s))
          ∙ sym (ap (marked_by (state_of w) s (running_as s c) at.first at.rest) (sym (ap (result_of w.table) op_is) ∙ m.result)))

      pub makes_mark : IsMarked s (saving w.table (reverse w.history.past) c) (saving q.table q.list d) → MakesUpdate s (state_of w) c now d kind.Mark
      makes_mark m = (at.first, at.rest, record { going = at.going; looked = at.looked }, at.due, marks_is m, by m)
        where
          by : IsMarked s (saving w.table (reverse w.history.past) c) (saving q.table q.list d)
              → ((now.past ≡ event.Went s kind.Mark ∷ w.history.past) × (d ≡ mark_made c at.rest)) ⊎ ((now.past ≡ event.Refuse c.revision at.first.mine at.first.other ∷ w.history.past) × (d ≡ refused_as c at.first.mine at.first.other))
          by (inl m) = inl (told (event.Went s kind.Mark) m.list, m.committer ∙ fed_mark c at.going at.looked at.first at.rest at.due (found_in w.table (op_due c).id))
          by (inr m) = inr (told (event.Refuse c.revision at.first.mine at.first.other) (m.list ∙ ap (λ (e : Event). reverse w.history.past ++ e ∷ []) (refusal_is m.refusal m.told)), m.committer ∙ blocked_mark c at.going at.looked at.first at.rest at.due m.cause m.thing)

    -- a document
    module _ (at : IsWriteStage c) where
      op_written : op_due c ≡ write_op c.revision c.edit.writes c.marks at.first
      op_written = op_write c at.going at.looked at.first at.rest at.unmet at.left

      table_written : IsUpdateMade w.table q.table (op_due c) → q.table ≡ after_update w.table (write_op c.revision c.edit.writes c.marks at.first)
      table_written m = m.table ∙ (sym (ap (with_result w.table (op_due c).id) m.result) ∙ ap (after_update w.table) op_written)

      abbrev stands : Committing
      stands = written c at.first at.rest (nodes_in w.table at.first)

      abbrev documents : Table
      documents = after_update w.table (write_op c.revision c.edit.writes c.marks at.first)

      previous : SamePrevious w.table documents
      previous = update_previous w.table (write_op c.revision c.edit.writes c.marks at.first) refl

      fed_is : fed_made w.table c ≡ stands
      fed_is = ap (λ (o : UpdateOp). fed c (reply.Updated (found_in w.table o.id))) op_written ∙ fed_write c at.going at.looked at.first at.rest at.unmet at.left (nodes_in w.table at.first)

      -- the state after the write, with this committer
      abbrev after : Running → State
      after x = record (state_of w) { past = event.Went s kind.Write ∷ w.history.past; table = documents; running = with_session (state_of w).running s (Some x) }

      pub makes_write : IsWritten s (saving w.table (reverse w.history.past) c) (saving q.table q.list d) → MakesUpdate s (state_of w) c now d kind.Write
      makes_write m = (at.first, at.rest, record { going = at.going; looked = at.looked }, at.unmet, at.left, by m.committer)
        where
          by : (d ≡ fed_made w.table c) ⊎ (d ≡ wanting (fed_made w.table c))
              → ((now ≡ after_write (state_of w) s (running_as s c) at.first at.rest) × (d ≡ stands)) ⊎ ((now ≡ after_write_in_want (state_of w) s (running_as s c) at.first at.rest) × (d ≡ wanting stands))
          by (inl e) = inl (
            update_is (event.Went s kind.Write) documents (meeting (wrote c at.first at.rest) at.first (whole at.first (nodes_in w.table at.first) (moved_in w.table at.first))) previous m.list (table_written m.made)
                (ap (once_looked documents) (e ∙ fed_is) ∙ once_written c at.first at.rest w.table documents previous),
            e ∙ fed_is,
          )
          by (inr e) = inr (
            update_is (event.Went s kind.Write) documents (wanting stands) previous m.list (table_written m.made) (ap (once_looked documents) (e ∙ ap wanting fed_is))
                ∙ (ap after (wanting_written c at.first at.rest s (nodes_in w.table at.first))
                ∙ ap (λ (b : Bool). after (record (running_as s (wanting (wrote c at.first at.rest))) { committed = b })) (sym (ap is_past at.going))),
            e ∙ ap wanting fed_is,
          )

    -- a look
    module _ (at : IsLookStage c) (looks : IsLooking c at.looking) (here : work_in w.actors s ≡ work.Commit c) where
      -- the state with this committer
      abbrev running : Running → State
      running x = record (state_of w) { running = with_session (state_of w).running s (Some x) }

      pub makes_look : IsLooked (saving w.table (reverse w.history.past) c) (saving q.table q.list d) → MakesUpdate s (state_of w) c now d kind.Read
      makes_look m = (at.looking, at.going, at.looked, by m.committer)
        where
          past : reverse q.list ≡ w.history.past
          past = ap reverse m.list ∙ reverse-reverse w.history.past

          by : (d ≡ fed_previous w.table c) ⊎ (d ≡ wanting (fed_previous w.table c))
              → ((now ≡ state_of w) × (d ≡ fed_previous w.table c)) ⊎ ((now ≡ after_want (state_of w) s (running_as s c)) × (d ≡ wanting (fed_previous w.table c)))
          by (inl e) = inl (
            stands_is w.history.past w.table (once_looked w.table c) (λ k p. refl) past m.table (ap (once_looked w.table) e ∙ once_found w.table c at.looking at.looked looks)
                ∙ ap (λ (f : ℕ → Option Running). record (state_of w) { running = f }) (session_same (state_of w).running s (Some (running_as s (once_looked w.table c))) (ap (running_of w.table s) here)),
            e,
          )
          by (inr e) = inr (
            stands_is w.history.past w.table (wanting (fed_previous w.table c)) (λ k p. refl) past m.table (ap (once_looked w.table) e)
                ∙ (ap running (wanting_found w.table c at.looking at.looked looks s)
                ∙ ap (λ (b : Bool). running (record (running_as s (wanting c)) { committed = b })) (sym (ap is_past at.going))),
            e,
          )

    -- the last write
    module _ (at : IsLastStage c) where
      op_lasts : op_due c ≡ last_op c.revision c.marks
      op_lasts = op_last c at.going at.looked at.unmet at.none

      lasts_is : IsLast (saving w.table (reverse w.history.past) c) (saving q.table q.list d) → now ≡ after_last (state_of w) s (running_as s c)
      lasts_is (inl m) =
          update_is (event.Commit c.revision) (with_document w.table (id.Node (commit_root c.marks)) m.made.document (next_number w.table)) (committed c) (put_previous w.table (id.Node (commit_root c.marks)) m.made.document (next_number w.table) refl) m.list
          (m.made.table ∙ ap (λ (o : UpdateOp). with_document w.table o.id m.made.document (next_number w.table)) op_lasts)
          (alone (with_document w.table (id.Node (commit_root c.marks)) m.made.document (next_number w.table)) (committed c) (m.committer ∙ fed_last c at.going at.looked at.unmet at.none (found_in w.table (op_due c).id)) at.looked)
          ∙ (ap (λ (x : Running). record (state_of w) { past = event.Commit c.revision ∷ w.history.past; table = with_document w.table (id.Node (commit_root c.marks)) m.made.document (next_number w.table); running = with_session (state_of w).running s (Some (record { draw = x.draw; writer = x.writer; committed = true })) }) (sym (going_is c at.going s))
          ∙ sym (ap (lasted_by (state_of w) s (running_as s c)) (sym (ap (result_of w.table) op_lasts) ∙ m.made.result)))
      lasts_is (inr m) =
          update_is (event.Refuse c.revision m.item m.other) w.table (refused_as c m.item m.other) (λ k p. refl) m.list m.table (alone w.table (refused_as c m.item m.other) (m.committer ∙ blocked_last c at.going at.looked at.unmet at.none m.cause m.other m.item) at.looked)
          ∙ (ap (λ (x : Running). record (state_of w) { past = event.Refuse c.revision m.item m.other ∷ w.history.past; running = with_session (state_of w).running s (Some (record { draw = x.draw; writer = record x.writer { due = []; undoing = true }; committed = x.committed })) }) (sym (going_is c at.going s))
          ∙ sym (ap (lasted_by (state_of w) s (running_as s c)) (sym (ap (result_of w.table) op_lasts) ∙ m.result)))

      pub makes_last : IsLast (saving w.table (reverse w.history.past) c) (saving q.table q.list d) → MakesUpdate s (state_of w) c now d kind.Last
      makes_last m = (record { going = at.going; looked = at.looked }, at.unmet, at.none, lasts_is m, by m)
        where
          by : IsLast (saving w.table (reverse w.history.past) c) (saving q.table q.list d)
              → ((now.past ≡ event.Commit c.revision ∷ w.history.past) × (d ≡ committed c)) ⊎ ((item : Item) × (o : Revision) × (now.past ≡ event.Refuse c.revision item o ∷ w.history.past) × (d ≡ refused_as c item o))
          by (inl m) = inl (told (event.Commit c.revision) m.list, m.committer ∙ fed_last c at.going at.looked at.unmet at.none (found_in w.table (op_due c).id))
          by (inr m) = inr (m.item, m.other, told (event.Refuse c.revision m.item m.other) m.list, m.committer ∙ blocked_last c at.going at.looked at.unmet at.none m.cause m.other m.item)

    -- an undoing
    module _ (at : IsUndoStage c) (looked : c.looking ≡ None) where
      pub makes_undo : IsDocumentUndone s (saving w.table (reverse w.history.past) c) (saving q.table q.list d) → MakesUpdate s (state_of w) c now d kind.Undo
      makes_undo m = (m.path, m.rest, at.undoing, m.first, update_is (event.Went s kind.Undo) (after_undo w.table (id.Node m.path) c.revision) (with_undone c) (undo_previous w.table m.path c.revision) m.list m.table (alone (after_undo w.table (id.Node m.path) c.revision) (with_undone c) fed_so looked) ∙ ap (λ (ps : List Path). record (state_of w) { past = event.Went s kind.Undo ∷ w.history.past; table = after_undo w.table (id.Node m.path) c.revision; running = with_session (state_of w).running s (Some (running_as s (record c { writer = record c.writer { written = ps } }))) }) (ap (drop 1) m.first), fed_so)
        where
          fed_so : d ≡ with_undone c
          fed_so = m.committer ∙ fed_undo c at.undoing
