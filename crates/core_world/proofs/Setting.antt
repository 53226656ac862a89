-- The settings' document, after a step.
use Rattle.std.proofs.Common.{◌≡◌, ℕ, Bool, true, false, cond, not, ◌&&◌, ◌||◌, Option, Some, None, List, [], ◌∷◌, is_some, is_none, refl, sym, ap, ◌∙◌}
use Rattle.std.specs.Prelude.{◌==◌, Result, Ok, Err, slice_get}
use Rattle.std.specs.Option.{option_map_or}
use Rattle.std.specs.Ordering.{eq_by_cmp}
use mathlib.Core.Bool.{false≢true}
use Rattle.jr_path.specs.Ids.{id_cmp}
use Rattle.jr_path.specs.declared.path.Path.{Path}
use Rattle.jr_path.specs.declared.path.DocId.TheVariants as id
use Rattle.jr_path.specs.Lists.{Text}
use Rattle.jr_rev.specs.declared.revision.Revision.{Revision}
use Rattle.jr_rev.specs.Revisions.{is_before}
use Rattle.oak_clash.specs.Clashes.{commit_root}
use Rattle.oak_commit.specs.Clashing.{Met, mark_op}
use Rattle.oak_commit.specs.Writing.{last_op, write_op}
use Rattle.oak_doc.specs.declared.document.Document.{Document}
use Rattle.oak_doc.specs.declared.update.Kept.TheVariants as kept
use Rattle.oak_doc.specs.declared.update.OpFault.{OpFault}
use Rattle.oak_doc.specs.declared.update.OpFault.TheVariants as fault
use Rattle.oak_doc.specs.declared.update.UpdateOp.{UpdateOp}
use Rattle.oak_doc.specs.Updates.{after_changes, is_met, update_refusal, updated}
use Rattle.oak_machine.specs.declared.event.Event.{Event}
use Rattle.oak_machine.specs.declared.event.Event.TheVariants as event
use Rattle.oak_machine.specs.declared.event.StepKind.TheVariants as kind
use Rattle.oak_machine.specs.History.{Past}
use Rattle.oak_machine.specs.Sessions.{is_stopped, is_stopped_under, kept_checkpoint}
use Rattle.oak_node.specs.Heads.{finished}
use Rattle.oak_node.specs.Memory.{NodeState, own_entry}
use Rattle.oak_read.specs.Meaning.{documents_in}
use Rattle.oak_store.specs.Tables.{Table, after_undo, found, next_number}
use Rattle.core_clash.specs.Core.{root_of}
use Rattle.core_clash.specs.Sessions.{Running}
use Rattle.core_world.specs.Kept.{AreSettingsKept, reader_at}
use Rattle.core_world.specs.Start.{start_settings, start_table}
use Rattle.core_world.specs.States.{State, memory_of, node_of, nodes_in}
use Rattle.core_world.specs.Steps.{after_finish, after_last, after_mark, after_undoing, after_update, lasted_by, marked_by, with_result}
use Rattle.core_world.proofs.Tables.{put_is, undo_at, undo_none}

-- ---- events and tables that set nothing

-- the event is of a checkpoint or of a reader
abbrev pub sets : Event → Bool
sets (event.Checkpoint id v) = true
sets (event.Release id) = true
sets (event.Attach s id) = true
sets (event.Detach s) = true
sets _ = false

kept_quiet : (e : Event) (past : Past) (i : Text) → sets e ≡ false → kept_checkpoint (e ∷ past) i ≡ kept_checkpoint past i
kept_quiet (event.Checkpoint id v) past i h = absurd (false≢true (sym h))
kept_quiet (event.Release id) past i h = absurd (false≢true (sym h))
kept_quiet e past i h = refl

readers_quiet : (e : Event) (past : Past) (s : ℕ) → sets e ≡ false → reader_at (e ∷ past) s ≡ reader_at past s
readers_quiet (event.Attach t id) past s h = absurd (false≢true (sym h))
readers_quiet (event.Detach t) past s h = absurd (false≢true (sym h))
readers_quiet e past s h = refl

-- what goes on behind an event went on before
was_going : (e : Event) (past : Past) (k : ℕ) → is_stopped (e ∷ past) k ≡ false → is_stopped past k ≡ false
was_going (event.Stop m) past k h = by (m == k) h
  where
    by : (b : Bool) → (b || is_stopped past k) ≡ false → is_stopped past k ≡ false
    by true i = absurd (false≢true (sym i))
    by false i = i
was_going e past k h = h

was_on : (sessions : List ℕ) (e : Event) (past : Past) (s : ℕ) → is_stopped_under sessions (e ∷ past) s ≡ false → is_stopped_under sessions past s ≡ false
was_on sessions e past s h = by (slice_get sessions s) h
  where
    by : (o : Option ℕ) → option_map_or (is_stopped (e ∷ past)) o false ≡ false → option_map_or (is_stopped past) o false ≡ false
    by None i = refl
    by (Some k) i = was_going e past k i

-- an event that sets nothing, with the same settings
pub settings_quiet : (sessions : List ℕ) (past : Past) (t u : Table) (e : Event) → sets e ≡ false → documents_in u.documents id.Settings ≡ documents_in t.documents id.Settings → AreSettingsKept sessions past t → AreSettingsKept sessions (e ∷ past) u
settings_quiet sessions past t u e h same settings = record {
  document = settings.document;
  there = same ∙ settings.there;
  ordered = settings.ordered;
  numbered = settings.numbered;
  checkpoints = λ i. settings.checkpoints i ∙ sym (kept_quiet e past i h);
  checkpoint_pairs = settings.checkpoint_pairs;
  readers = λ s on. settings.readers s (was_on sessions e past s on) ∙ sym (readers_quiet e past s h);
  only = λ s pin k. readers_quiet e past s h ∙ settings.only s pin k;
  reader_pairs = settings.reader_pairs;
}

abbrev pub settings_of : Table → Option Document
settings_of t = documents_in t.documents id.Settings

node_apart : (p : Path) → eq_by_cmp id_cmp id.Settings (id.Node p) ≡ false
node_apart p = refl

pub update_apart : (t : Table) (p : Path) (op : UpdateOp) → op.id ≡ id.Node p → documents_in (after_update t op).documents id.Settings ≡ documents_in t.documents id.Settings
update_apart t p op at = by (is_none (found t op.id) && not op.create) (is_met (found t op.id) op.cond) (update_refusal (found t op.id) op.cond)
  where
    made : Document
    made = after_changes (found t op.id) op (next_number t)

    by : (a b : Bool) (g : OpFault) → settings_of (with_result t op.id (cond a (Err fault.Absent) (cond b (Ok made) (Err g)))) ≡ settings_of t
    by true b g = refl
    by false true g = put_is t op.id made (next_number t) id.Settings ∙ ap (λ i. cond (eq_by_cmp id_cmp id.Settings i) (Some made) (settings_of t)) at
    by false false g = refl

pub undo_apart : (t : Table) (p : Path) (r : Revision) → documents_in (after_undo t (id.Node p) r).documents id.Settings ≡ documents_in t.documents id.Settings
undo_apart t p r = by (found t (id.Node p)) refl
  where
    by : (o : Option Document) → found t (id.Node p) ≡ o → settings_of (after_undo t (id.Node p) r) ≡ settings_of t
    by None is = ap (λ es. documents_in es id.Settings) (undo_none t p r is)
    by (Some d) is = undo_at t p r d is id.Settings

-- ---- the start

pub start_set : (all : List ℕ) (clusters sessions : ℕ) → AreSettingsKept all [] (start_table clusters sessions)
start_set all clusters sessions = record {
  document = start_settings sessions;
  there = refl;
  ordered = refl;
  numbered = refl;
  checkpoints = λ i. refl;
  checkpoint_pairs = λ i pin h. absurd (false≢true (ap is_some h));
  readers = λ s on. refl;
  only = λ s pin h. absurd (false≢true (ap is_some h));
  reader_pairs = λ s pin h. absurd (false≢true (ap is_some h));
}

-- ---- the steps of commits

abbrev pub AreSet : State → Type 0
AreSet w = AreSettingsKept w.sessions w.past w.table

module _ (w : State) (set : AreSettingsKept w.sessions w.past w.table) (s : ℕ) (x : Running) where
  pub write_set : (p : Path) → AreSettingsKept w.sessions (event.Went s kind.Write ∷ w.past) (after_update w.table (write_op x.draw.revision x.draw.edit.writes x.draw.marks p))
  write_set p =
      let op = write_op x.draw.revision x.draw.edit.writes x.draw.marks p in
      settings_quiet w.sessions w.past w.table (after_update w.table op) (event.Went s kind.Write) refl (update_apart w.table p op refl) set

  marked : (f : Met) (rest : List Met) (o : Result Document OpFault) → settings_of (with_result w.table (id.Node (root_of w.past f.other)) o) ≡ settings_of w.table → AreSet (marked_by w s x f rest o)
  marked f rest (Ok d) h = settings_quiet w.sessions w.past w.table (with_result w.table (id.Node (root_of w.past f.other)) (Ok d)) (event.Went s kind.Mark) refl h set
  marked f rest (Err g) h = settings_quiet w.sessions w.past w.table w.table (event.Refuse x.draw.revision f.mine f.other) refl refl set

  pub mark_set : (f : Met) (rest : List Met) → AreSet (after_mark w s x f rest)
  mark_set f rest =
      let op = mark_op (root_of w.past f.other) f.other x.draw.revision f.theirs in
      marked f rest (updated (nodes_in w.table (root_of w.past f.other)) op (next_number w.table)) (update_apart w.table (root_of w.past f.other) op refl)

  lasted : (o : Result Document OpFault) → settings_of (with_result w.table (id.Node (commit_root x.draw.marks)) o) ≡ settings_of w.table → AreSet (lasted_by w s x o)
  lasted (Ok d) h = settings_quiet w.sessions w.past w.table (with_result w.table (id.Node (commit_root x.draw.marks)) (Ok d)) (event.Commit x.draw.revision) refl h set
  lasted (Err (fault.Unmet c (kept.Entry o item))) h = settings_quiet w.sessions w.past w.table w.table (event.Refuse x.draw.revision item o) refl refl set
  lasted (Err (fault.Unmet c (kept.Number n))) h = set
  lasted (Err (fault.Unmet c kept.Nothing)) h = set
  lasted (Err fault.Absent) h = set
  lasted (Err fault.Memory) h = set

  pub last_set : AreSet (after_last w s x)
  last_set =
      let op = last_op x.draw.revision x.draw.marks in
      lasted (updated (nodes_in w.table (commit_root x.draw.marks)) op (next_number w.table)) (update_apart w.table (commit_root x.draw.marks) op refl)

  pub undo_set : (p : Path) (rest : List Path) → AreSet (after_undoing w s x p rest)
  undo_set p rest = settings_quiet w.sessions w.past w.table (after_undo w.table (id.Node p) x.draw.revision) (event.Went s kind.Undo) refl (undo_apart w.table p x.draw.revision) set

  pub finish_set : AreSet (after_finish w s x)
  finish_set = by (is_before (own_entry (memory_of w s)) (own_entry done))
    where
      done : NodeState
      done = finished (memory_of w s) x.draw.revision

      ended : AreSettingsKept w.sessions (event.End x.draw.revision ∷ w.past) w.table
      ended = settings_quiet w.sessions w.past w.table w.table (event.End x.draw.revision) refl refl set

      by : (b : Bool) → AreSettingsKept w.sessions (cond b (event.Head (node_of w s) done.head ∷ (event.End x.draw.revision ∷ w.past)) (event.End x.draw.revision ∷ w.past)) w.table
      by true = settings_quiet w.sessions (event.End x.draw.revision ∷ w.past) w.table w.table (event.Head (node_of w s) done.head) refl refl ended
      by false = ended
