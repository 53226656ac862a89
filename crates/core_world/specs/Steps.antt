-- The steps of a world, as what each makes of its state.
use Rattle.std.specs.Prelude.{◌≡◌, ◌⊎◌, ◌==◌, IsFalse, ℕ, true, false, cond, List, [], ◌∷◌, ◌++◌, map, Option, Some, None, Result, Ok, Err}
use Rattle.std.specs.List.{fold}
use Rattle.jr_path.specs.declared.path.Path.{Path}
use Rattle.jr_path.specs.declared.path.Item.{Item}
use Rattle.jr_path.specs.declared.path.DocId.{DocId}
use Rattle.jr_path.specs.declared.path.DocId.TheVariants as id
use Rattle.jr_path.specs.Lists.{Text}
use Rattle.jr_path.specs.Ids.{names_of}
use Rattle.jr_rev.specs.declared.revision.Revision.{Revision}
use Rattle.jr_rev.specs.declared.vector.Pin.{Pin}
use Rattle.jr_rev.specs.declared.vector.RevVec.{RevVec}
use Rattle.jr_rev.specs.Revisions.{is_before}
use Rattle.jr_tree.specs.declared.edit.Edit.{Edit}
use Rattle.oak_clash.specs.declared.mark.MarkAt.{MarkAt}
use Rattle.oak_clash.specs.Clashes.{commit_root}
use Rattle.oak_changes.specs.declared.changes.ChangesReader.{ChangesReader}
use Rattle.oak_commit.specs.Clashing.{Met, Writer, found, mark_op}
use Rattle.oak_commit.specs.Writing.{last_op, write_op, written_ids}
use Rattle.oak_checkpoint.specs.Settings.{settings_op}
use Rattle.oak_doc.specs.declared.document.Document.{Document}
use Rattle.oak_doc.specs.declared.update.UpdateOp.{UpdateOp}
use Rattle.oak_doc.specs.declared.update.OpFault.{OpFault}
use Rattle.oak_doc.specs.declared.update.OpFault.TheVariants as fault
use Rattle.oak_doc.specs.declared.update.Kept.TheVariants as kept
use Rattle.oak_doc.specs.declared.update.Change.{Change}
use Rattle.oak_doc.specs.declared.update.Change.TheVariants as change
use Rattle.jr_rev.specs.Vectors.{raised}
use Rattle.oak_doc.specs.Updates.{updated}
use Rattle.oak_machine.specs.declared.event.Draw.{Draw}
use Rattle.oak_machine.specs.declared.event.Event.{Event}
use Rattle.oak_machine.specs.declared.event.Event.TheVariants as event
use Rattle.oak_machine.specs.declared.event.StepKind.{StepKind}
use Rattle.oak_machine.specs.declared.event.StepKind.TheVariants as kind
use Rattle.oak_machine.specs.History.{Past}
use Rattle.oak_node.specs.Heads.{finished, learned, next_draw, with_draw}
use Rattle.oak_node.specs.Memory.{NodeState, own_entry}
use Rattle.oak_node.specs.Notes.{with_note, without_seen}
use Rattle.oak_node.specs.Pins.{pin_now, with_pin}
use Rattle.oak_read.specs.declared.reader.Reader.{Reader}
use Rattle.oak_store.specs.Tables.{Table, after_undo, next_number, with_document}
use Rattle.core_clash.specs.Core.{root_of}
use Rattle.oak_commit.specs.Looking.{whole}
use Rattle.core_clash.specs.Sessions.{Running}
use Rattle.oak_recover.specs.Recovering.{publish_op}
use Rattle.oak_sweep.specs.Sweeping.{sweep_op}
use Rattle.oak_sync.specs.Publishing.{back_op}
use Rattle.core_nodes.specs.Nodes.{after_recovery, cursor_owner, is_of_node, without_session}
use Rattle.oak_node.specs.Stops.{with_recovery, with_stop}
use Rattle.core_world.specs.States.{State, base_in, memory_at, memory_of, node_of, nodes_in, with_memory, with_session, moved_in}

-- ---- documents

-- the table with the document that an update makes, under the next number; a refused update
-- leaves the table as it was
abbrev pub with_result : Table → DocId → Result Document OpFault → Table
with_result t id (Ok d) = with_document t id d (next_number t)
with_result t id (Err fault) = t

-- the table after an update, which may be refused and then changes nothing
abbrev pub after_update : Table → UpdateOp → Table
after_update t op =
    with_result t op.id (updated (Rattle.oak_store.specs.Tables.found t op.id) op (next_number t))

-- ---- memories

-- the memory with the paths noted with r
abbrev pub after_notes : Revision → NodeState → List Path → NodeState
after_notes r m paths = fold (λ m p. with_note m p r) m paths

-- the owner is pinned at the head
abbrev pub pinned : NodeState → ℕ → NodeState
pinned m owner = with_pin m owner (pin_now m)

-- the memories, with this one of the cluster node of session s
abbrev pub memories_with : State → ℕ → NodeState → List NodeState
memories_with w s m = with_memory w.memories (node_of w s) m

-- ---- sessions

-- session s logs in, and is pinned at its node's head
abbrev pub after_login : State → ℕ → State
after_login w s = record w {
  past = event.Login s (memory_of w s).head ∷ w.past;
  memories = memories_with w s (pinned (memory_of w s) s);
}

-- session s refreshes: its pin moves to the head of its node
abbrev pub after_refresh : State → ℕ → State
after_refresh w s = record w {
  past = event.Refresh s (memory_of w s).head ∷ w.past;
  memories = memories_with w s (pinned (memory_of w s) s);
}

-- session s leaves, and has no pin any more, nor has its cursor
abbrev pub after_leave : State → ℕ → State
after_leave w s = record w {
  past = event.Went s kind.End ∷ w.past;
  memories = memories_with w s (without_session (memory_of w s) s);
}

-- session s observes: its cursor is pinned at its own pin
abbrev pub after_observe : State → ℕ → Pin → State
after_observe w s pin = record w {
  past = event.Went s kind.Pin ∷ w.past;
  memories = memories_with w s (with_pin (memory_of w s) (cursor_owner s) pin);
}

-- session s says its reply of index i
abbrev pub after_said : State → ℕ → ℕ → Text → State
after_said w s i text = record w { past = event.Said s i text ∷ w.past }

-- how a split or a collection ended is told, with the reply that follows
abbrev pub after_task_end : State → Event → State
after_task_end w e = record w { past = e ∷ w.past }

-- session s makes a step of a kind that changes neither documents nor memories
abbrev pub after_went : State → ℕ → StepKind → State
after_went w s k = record w { past = event.Went s k ∷ w.past }

-- the reader of session s is r now, or it has none
abbrev pub with_reader : State → ℕ → Option Reader → State
with_reader w s r = record w { reading = with_session w.reading s r }

-- the reader of changes of session s is r now, or it has none
abbrev pub with_observer : State → ℕ → Option ChangesReader → State
with_observer w s r = record w { observing = with_session w.observing s r }

-- ---- a commit

-- the paths of the marked nodes, each once, in the order in which their documents are stored
abbrev pub paths_to_write : List MarkAt → List Path
paths_to_write marks = map names_of (written_ids marks)

-- a committer that has written nothing yet
abbrev pub beginning : Draw → Running
beginning d = record {
  draw = d;
  writer = record {
    paths = paths_to_write d.marks;
    left = paths_to_write d.marks;
    written = [];
    due = [];
    undoing = false;
    wants = false;
  };
  committed = false;
}

-- the draw that session s makes for an edit with its marks, at its base
abbrev pub draw_in : State → ℕ → Edit → List MarkAt → Draw
draw_in w s edit marks = record {
  revision = next_draw (memory_of w s);
  session = s;
  base = base_in w s;
  edit = edit;
  marks = marks;
}

-- session s draws the next revision of its node, and these of the marked paths are noted with it
abbrev pub after_draw : State → ℕ → Edit → List MarkAt → List Path → State
after_draw w s edit marks paths = let d = draw_in w s edit marks in record w {
  past = event.Draw d ∷ w.past;
  memories =
      memories_with w s (after_notes d.revision (with_draw (memory_of w s) d.revision) paths);
  running = with_session w.running s (Some (beginning d));
}

-- the committer of session s stands so now
abbrev pub committer_goes_on : State → ℕ → Running → Writer → ℕ → Option Running
committer_goes_on w s x writer =
    with_session w.running s
    (Some (record { draw = x.draw; writer = writer; committed = x.committed }))

-- the committer x writes the document of p, with `rest` left, and is to mark what it meets there
abbrev pub after_write : State → ℕ → Running → Path → List Path → State
after_write w s x p rest = record w {
  past = event.Went s kind.Write ∷ w.past;
  table = after_update w.table (write_op x.draw.revision x.draw.edit.writes x.draw.marks p);
  running = committer_goes_on w s x (record x.writer {
    left = rest;
    written = x.writer.written ++ p ∷ [];
    due = found x.draw.base x.draw.revision p x.draw.marks
        (whole p (nodes_in w.table p) (moved_in w.table p));
  });
}

-- the committer x writes the document of p, but memory is refused for what it meets there, so it
-- turns to undoing
abbrev pub after_write_in_want : State → ℕ → Running → Path → List Path → State
after_write_in_want w s x p rest = record w {
  past = event.Went s kind.Write ∷ w.past;
  table = after_update w.table (write_op x.draw.revision x.draw.edit.writes x.draw.marks p);
  running = committer_goes_on w s x (record x.writer {
    left = rest;
    written = x.writer.written ++ p ∷ [];
    due = [];
    undoing = true;
    wants = true;
  });
}

-- the committer x is refused with its item and the other revision, and turns to undoing
abbrev pub refused : State → ℕ → Running → Item → Revision → State
refused w s x item o = record w {
  past = event.Refuse x.draw.revision item o ∷ w.past;
  running = committer_goes_on w s x (record x.writer { due = []; undoing = true });
}

-- a session's mark on another's commit root is made, or its revision is refused
abbrev pub marked_by : State → ℕ → Running → Met → List Met → Result Document OpFault → State
marked_by w s x f rest (Ok d) = record w {
  past = event.Went s kind.Mark ∷ w.past;
  table = with_document w.table (id.Node (root_of w.past f.other)) d (next_number w.table);
  running = committer_goes_on w s x (record x.writer { due = rest });
}
marked_by w s x f rest (Err fault) = refused w s x f.mine f.other

-- the committer x marks the collision f on the commit root of the other, with `rest` to mark
-- still; or the other is committed, and x is refused
abbrev pub after_mark : State → ℕ → Running → Met → List Met → State
after_mark w s x f rest =
    marked_by w s x f rest
    (updated (nodes_in w.table (root_of w.past f.other))
    (mark_op (root_of w.past f.other) f.other x.draw.revision f.theirs) (next_number w.table))

-- a session's last write is made, which commits, or its revision is refused
abbrev pub lasted_by : State → ℕ → Running → Result Document OpFault → State
lasted_by w s x (Ok d) = record w {
  past = event.Commit x.draw.revision ∷ w.past;
  table = with_document w.table (id.Node (commit_root x.draw.marks)) d (next_number w.table);
  running =
      with_session w.running s
      (Some (record { draw = x.draw; writer = x.writer; committed = true }));
}
lasted_by w s x (Err (fault.Unmet c (kept.Entry o item))) = refused w s x item o
lasted_by w s x (Err _) = w

-- the committer x commits on its commit root, or is refused where somebody marked a collision
-- with it there
abbrev pub after_last : State → ℕ → Running → State
after_last w s x =
    lasted_by w s x
    (updated (nodes_in w.table (commit_root x.draw.marks))
    (last_op x.draw.revision x.draw.marks) (next_number w.table))

-- memory was refused: it turns to undoing
abbrev pub after_want : State → ℕ → Running → State
after_want w s x = record w {
  running = committer_goes_on w s x (record x.writer { due = []; undoing = true; wants = true });
}

-- the committer x undoes the document of p, with `rest` to undo still
abbrev pub after_undoing : State → ℕ → Running → Path → List Path → State
after_undoing w s x p rest = record w {
  past = event.Went s kind.Undo ∷ w.past;
  table = after_undo w.table (id.Node p) x.draw.revision;
  running = committer_goes_on w s x (record x.writer { written = rest });
}

-- the head of cluster node k, where it moves
abbrev pub moved_head : ℕ → NodeState → NodeState → Past → Past
moved_head k old new past =
    cond (is_before (own_entry old) (own_entry new)) (event.Head k new.head ∷ past) past

-- the revision of session s ends, and its committer is gone
abbrev pub after_finish : State → ℕ → Running → State
after_finish w s x = let done = finished (memory_of w s) x.draw.revision in record w {
  past = moved_head (node_of w s) (memory_of w s) done (event.End x.draw.revision ∷ w.past);
  memories = memories_with w s done;
  running = with_session w.running s None;
}

-- the committer x has committed, or has undone all that it wrote
abbrev pub IsThrough : Running → Type 0
IsThrough x = (x.committed ≡ true) ⊎ ((x.writer.undoing ≡ true) × (x.writer.written ≡ []))

-- ---- background work

-- a background write of session s takes from memory the notes that its node's head sees
abbrev pub after_pending : State → ℕ → State
after_pending w s = record w {
  past = event.Went s kind.Back ∷ w.past;
  memories = memories_with w s (without_seen (memory_of w s));
}

-- a background write tells the document of a changed node, or of one above it
abbrev pub after_back : State → ℕ → Path → Revision → State
after_back w s p r = record w {
  past = event.Went s kind.Back ∷ w.past;
  table = after_update w.table (back_op p r);
}

-- a background write tells the root last: r is published
abbrev pub after_out : State → ℕ → Revision → State
after_out w s r = record w {
  past = event.Out (node_of w s) r ∷ w.past;
  table = after_update w.table (back_op [] r);
}

-- a sweep of session s tells the root how far it went
abbrev pub after_sweep : State → ℕ → Revision → State
after_sweep w s r = record w {
  past = event.Sweep (node_of w s) r ∷ w.past;
  table = after_update w.table (sweep_op r);
}

-- the cluster node of session s learns what the root told at some moment
abbrev pub after_learn : State → ℕ → RevVec → RevVec → State
after_learn w s last sweep = let m = learned (memory_of w s) last sweep in record w {
  past = event.In (node_of w s) m.head ∷ w.past;
  memories = memories_with w s m;
}

-- a cluster node's memory, with the sweep vector raised to r
abbrev pub swept_to : NodeState → Revision → NodeState
swept_to m r = record m { sweep = raised m.sweep r }

-- the cluster node of session s learns how far its own sweep went, and no more
abbrev pub after_learn_swept : State → ℕ → Revision → State
after_learn_swept w s r = record w {
  past = event.Went s kind.Learn ∷ w.past;
  memories = memories_with w s (swept_to (memory_of w s) r);
}

-- ---- checkpoints

-- the settings' update for one change
abbrev pub setting_op : Change → UpdateOp
setting_op c = settings_op (c ∷ [])

-- session s makes a checkpoint of that id, at its pin
abbrev pub after_checkpoint : State → ℕ → Text → Pin → State
after_checkpoint w s id pin = record w {
  past = event.Checkpoint id pin.base ∷ w.past;
  table = after_update w.table (setting_op (change.Checkpoint id pin));
}

-- a checkpoint that is kept is released
abbrev pub after_release : State → Text → State
after_release w id = record w {
  past = event.Release id ∷ w.past;
  table = after_update w.table (setting_op (change.Release id));
}

-- session s attaches to a checkpoint that is kept: the settings copy it under the session's number
abbrev pub after_attach : State → ℕ → Text → State
after_attach w s id = record w {
  past = event.Attach s id ∷ w.past;
  table = after_update w.table (setting_op (change.Attach s id));
}

-- session s asks the settings to attach to, or to release, a checkpoint that they don't have: no
-- more than their number changes
abbrev pub after_unfound : State → ℕ → Change → State
after_unfound w s c = record w {
  past = event.Went s kind.Settings ∷ w.past;
  table = after_update w.table (setting_op c);
}

-- session s, which was pinned at its node's head, is no reader any more
abbrev pub after_detach : State → ℕ → State
after_detach w s = record w {
  past = event.Detach s ∷ w.past;
  table = after_update w.table (setting_op (change.Detach s));
}

-- ---- stops and recoveries

-- what the sessions of cluster node k have is gone
abbrev pub without_node : {X : Type 0} → List ℕ → ℕ → (ℕ → Option X) → ℕ → Option X
without_node sessions k has s = cond (is_of_node sessions k s) None (has s)

-- cluster node k is stopped: no committer or reader of its sessions makes a further step
abbrev pub after_stop : State → ℕ → State
after_stop w k = record w {
  past = event.Stop k ∷ w.past;
  memories = with_memory w.memories k (with_stop (memory_at w.memories k));
  running = without_node w.sessions k w.running;
  reading = without_node w.sessions k w.reading;
  observing = without_node w.sessions k w.observing;
}

-- session s, which recovers a stopped node, undoes a revision of it in the document of p
abbrev pub after_clear : State → ℕ → Path → Revision → State
after_clear w s p r = record w {
  past = event.Went s kind.Undo ∷ w.past;
  table = after_undo w.table (id.Node p) r;
}

-- the memory of cluster node k is recovered: all that it has in flight ends, and its pins go
abbrev pub after_recover : State → ℕ → State
after_recover w k = record w {
  past = after_recovery w.past k;
  memories = with_memory w.memories k (with_recovery (memory_at w.memories k));
}

-- what a recovery published for a cluster node is told, and swept up to there
abbrev pub after_publish : State → ℕ → Revision → State
after_publish w k r = record w {
  past = event.Sweep k r ∷ event.Out k r ∷ w.past;
  table = after_update w.table (publish_op r);
}

-- the settings drop what they keep under the numbers of these sessions
abbrev pub after_drop_readers : State → ℕ → List ℕ → State
after_drop_readers w s sessions = record w {
  past = event.Went s kind.Recover ∷ w.past;
  table = after_update w.table (settings_op (map change.Detach sessions));
}

-- ---- a step is one session's

-- the committers and the readers of the sessions other than s are as they were
abbrev pub LeavesOthers : ℕ → State → State → Type 0
LeavesOthers s w u = (q : ℕ) → IsFalse (q == s) →
    (u.running q ≡ w.running q) × (u.reading q ≡ w.reading q) × (u.observing q ≡ w.observing q)
