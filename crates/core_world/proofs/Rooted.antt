-- The root's document, after each step of sessions and commits.
use Rattle.std.proofs.Common.{ℕ, ◌≤◌, Bool, true, false, cond, List, [], ◌∷◌, refl, None}
use Rattle.std.specs.Prelude.{Result, Ok, Err}
use Rattle.jr_path.specs.declared.path.Path.{Path}
use Rattle.jr_path.specs.declared.path.DocId.TheVariants as id
use Rattle.jr_rev.specs.Revisions.{is_before}
use Rattle.oak_clash.specs.Clashes.{commit_root}
use Rattle.oak_commit.specs.Clashing.{Met, mark_op}
use Rattle.oak_commit.specs.Writing.{last_op, write_op}
use Rattle.oak_doc.specs.declared.document.Document.{Document}
use Rattle.oak_doc.specs.declared.update.Kept.TheVariants as kept
use Rattle.oak_doc.specs.declared.update.OpFault.{OpFault}
use Rattle.oak_doc.specs.declared.update.OpFault.TheVariants as fault
use Rattle.oak_doc.specs.Updates.{updated}
use Rattle.oak_machine.specs.declared.event.Event.TheVariants as event
use Rattle.oak_machine.specs.declared.event.StepKind.TheVariants as kind
use Rattle.oak_node.specs.Heads.{finished}
use Rattle.oak_node.specs.Memory.{own_entry}
use Rattle.oak_store.specs.Tables.{after_undo, next_number}
use Rattle.core_clash.specs.Core.{root_of}
use Rattle.core_clash.specs.Sessions.{Running}
use Rattle.core_world.specs.Kept.{IsRootKept}
use Rattle.core_world.specs.Start.{start_root, start_table}
use Rattle.core_world.specs.States.{State, memory_of, node_of, nodes_in}
use Rattle.core_world.specs.Steps.{after_finish, after_last, after_mark, after_undoing, after_update, lasted_by, marked_by, with_result}
use Rattle.core_world.proofs.Roots.{root_quiet, root_start, undo_root, update_root, write_leaves, starts_seen}
use Rattle.oak_machine.specs.History.{Begin}

pub start_rooted : (clusters sessions : ℕ) → clusters ≤ 8 → 1 ≤ clusters → IsRootKept None clusters [] (start_table clusters sessions)
start_rooted clusters sessions eight some = record { document = start_root clusters; there = refl; tells = root_start clusters eight some; begun = starts_seen clusters eight }

-- of a state
abbrev pub IsRooted : State → Type 0
IsRooted w = IsRootKept w.begin w.clusters w.past w.table

module _ (w : State) (root : IsRootKept w.begin w.clusters w.past w.table) (s : ℕ) (x : Running) where
  pub write_rooted : (p : Path) (rest : List Path) → IsRootKept w.begin w.clusters (event.Went s kind.Write ∷ w.past) (after_update w.table (write_op x.draw.revision x.draw.edit.writes x.draw.marks p))
  write_rooted p rest =
      let op = write_op x.draw.revision x.draw.edit.writes x.draw.marks p in
      root_quiet w.clusters w.begin w.past (after_update w.table op) (event.Went s kind.Write) refl (update_root w.clusters w.begin w.past w.table root p op refl (write_leaves x.draw.revision x.draw.edit.writes x.draw.marks p))

  marked : (f : Met) (rest : List Met) (o : Result Document OpFault) → IsRootKept w.begin w.clusters w.past (with_result w.table (id.Node (root_of w.past f.other)) o) → IsRooted (marked_by w s x f rest o)
  marked f rest (Ok d) h = root_quiet w.clusters w.begin w.past (with_result w.table (id.Node (root_of w.past f.other)) (Ok d)) (event.Went s kind.Mark) refl h
  marked f rest (Err g) h = root_quiet w.clusters w.begin w.past w.table (event.Refuse x.draw.revision f.mine f.other) refl h

  pub mark_rooted : (f : Met) (rest : List Met) → IsRooted (after_mark w s x f rest)
  mark_rooted f rest =
      let op = mark_op (root_of w.past f.other) f.other x.draw.revision f.theirs in
      marked f rest (updated (nodes_in w.table (root_of w.past f.other)) op (next_number w.table)) (update_root w.clusters w.begin w.past w.table root (root_of w.past f.other) op refl refl)

  lasted : (o : Result Document OpFault) → IsRootKept w.begin w.clusters w.past (with_result w.table (id.Node (commit_root x.draw.marks)) o) → IsRooted (lasted_by w s x o)
  lasted (Ok d) h = root_quiet w.clusters w.begin w.past (with_result w.table (id.Node (commit_root x.draw.marks)) (Ok d)) (event.Commit x.draw.revision) refl h
  lasted (Err (fault.Unmet c (kept.Entry o item))) h = root_quiet w.clusters w.begin w.past w.table (event.Refuse x.draw.revision item o) refl h
  lasted (Err (fault.Unmet c (kept.Number n))) h = h
  lasted (Err (fault.Unmet c kept.Nothing)) h = h
  lasted (Err fault.Absent) h = h
  lasted (Err fault.Memory) h = h

  pub last_rooted : IsRooted (after_last w s x)
  last_rooted =
      let op = last_op x.draw.revision x.draw.marks in
      lasted (updated (nodes_in w.table (commit_root x.draw.marks)) op (next_number w.table)) (update_root w.clusters w.begin w.past w.table root (commit_root x.draw.marks) op refl refl)

  pub undo_rooted : (p : Path) (rest : List Path) → IsRooted (after_undoing w s x p rest)
  undo_rooted p rest = root_quiet w.clusters w.begin w.past (after_undo w.table (id.Node p) x.draw.revision) (event.Went s kind.Undo) refl (undo_root w.clusters w.begin w.past w.table root p x.draw.revision)

  pub finish_rooted : IsRooted (after_finish w s x)
  finish_rooted = by (is_before (own_entry (memory_of w s)) (own_entry done))
    where
      done : Rattle.oak_node.specs.Memory.NodeState
      done = finished (memory_of w s) x.draw.revision

      ended : IsRootKept w.begin w.clusters (event.End x.draw.revision ∷ w.past) w.table
      ended = root_quiet w.clusters w.begin w.past w.table (event.End x.draw.revision) refl root

      by : (b : Bool) → IsRootKept w.begin w.clusters (cond b (event.Head (node_of w s) done.head ∷ (event.End x.draw.revision ∷ w.past)) (event.End x.draw.revision ∷ w.past)) w.table
      by true = root_quiet w.clusters w.begin (event.End x.draw.revision ∷ w.past) w.table (event.Head (node_of w s) done.head) refl ended
      by false = ended
