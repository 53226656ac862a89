-- Each step of a world leaves its table so or is a step of its numbers.
use Rattle.std.proofs.Common.{◌≡◌, ◌≤◌, ℕ, true, Some, List, [], refl, sym, subst}
use Rattle.jr_path.specs.declared.path.DocId.{DocId}
use Rattle.jr_path.specs.declared.path.DocId.TheVariants as id
use Rattle.jr_path.specs.declared.path.Path.{Path}
use Rattle.jr_path.specs.Ids.{id_cmp}
use Rattle.std.specs.FinMap.{is_sorted}
use Rattle.jr_rev.specs.declared.revision.Revision.{Revision}
use Rattle.jr_rev.specs.declared.vector.Pin.{Pin}
use Rattle.oak_commit.specs.Clashing.{Met, mark_op}
use Rattle.oak_commit.specs.Writing.{last_op, write_op}
use Rattle.oak_doc.specs.declared.document.Document.{Document}
use Rattle.oak_doc.specs.declared.document.PrevEntry.{PrevEntry}
use Rattle.oak_doc.specs.declared.update.Change.{Change}
use Rattle.oak_doc.specs.declared.update.UpdateOp.{UpdateOp}
use Rattle.oak_doc.specs.Updates.{after_changes}
use Rattle.oak_read.specs.Meaning.{Documents}
use Rattle.oak_store.specs.Tables.{Table, after_undo, next_number}
use Rattle.core_clash.specs.Core.{root_of}
use Rattle.core_clash.specs.Sessions.{Running}
use Rattle.core_world.specs.Collecting.{after_copied, after_pruned, after_removed, after_split, split_now}
use Rattle.core_world.specs.Numbers.{last_number, IsNumberStep}
use Rattle.core_world.specs.States.{State}
use Rattle.core_world.specs.Steps.{after_back, after_last, after_mark, after_out, after_sweep, after_undoing, after_update, after_write, after_write_in_want, setting_op}
use Rattle.oak_sync.specs.Publishing.{back_op}
use Rattle.oak_recover.specs.Recovering.{publish_op}
use Rattle.oak_checkpoint.specs.Settings.{settings_op}
use Rattle.oak_sweep.specs.Sweeping.{sweep_op}
use Rattle.core_world.proofs.Numbers.{put_step, removed_step, undo_step, update_step}
use Rattle.core_world.proofs.Tabled.{last_table, mark_table}

module _ (w : State) (low : w.table.number ≤ last_number) where
  pub mark_numbers : (s : ℕ) (x : Running) (f : Met) (rest : List Met) → IsNumberStep w.table (after_mark w s x f rest).table
  mark_numbers s x f rest = subst (λ (u : Table). IsNumberStep w.table u) (sym (mark_table w s x f rest)) (update_step w.table (mark_op (root_of w.past f.other) f.other x.draw.revision f.theirs) low)

  pub last_numbers : (s : ℕ) (x : Running) → IsNumberStep w.table (after_last w s x).table
  last_numbers s x = subst (λ (u : Table). IsNumberStep w.table u) (sym (last_table w s x)) (update_step w.table (last_op x.draw.revision x.draw.marks) low)

  pub write_numbers : (s : ℕ) (x : Running) (p : Path) (rest : List Path) → IsNumberStep w.table (after_write w s x p rest).table × IsNumberStep w.table (after_write_in_want w s x p rest).table
  write_numbers s x p rest = (update_step w.table (write_op x.draw.revision x.draw.edit.writes x.draw.marks p) low, update_step w.table (write_op x.draw.revision x.draw.edit.writes x.draw.marks p) low)

  pub undo_numbers : (s : ℕ) (x : Running) (p : Path) (rest : List Path) → IsNumberStep w.table (after_undoing w s x p rest).table
  undo_numbers s x p rest = undo_step w.table p x.draw.revision low

  pub back_numbers : (s : ℕ) (p : Path) (r : Revision) → IsNumberStep w.table (after_back w s p r).table × IsNumberStep w.table (after_out w s r).table × IsNumberStep w.table (after_sweep w s r).table
  back_numbers s p r = (update_step w.table (back_op p r) low, update_step w.table (back_op [] r) low, update_step w.table (sweep_op r) low)

  pub clear_numbers : (p : Path) (r : Revision) → IsNumberStep w.table (after_undo w.table (id.Node p) r)
  clear_numbers p r = undo_step w.table p r low

  pub publish_numbers : (r : Revision) → IsNumberStep w.table (after_update w.table (publish_op r))
  publish_numbers r = update_step w.table (publish_op r) low

  pub drop_numbers : (cs : List Change) → IsNumberStep w.table (after_update w.table (settings_op cs))
  drop_numbers cs = update_step w.table (settings_op cs) low

  pub settings_numbers : (c : Change) → IsNumberStep w.table (after_update w.table (setting_op c))
  settings_numbers c = update_step w.table (setting_op c) low

  pub split_numbers : (s : ℕ) (read : Documents) (pin : Pin) (p : Path) (old : Document) (e : PrevEntry) → IsNumberStep w.table (after_split w s read pin p old e).table
  split_numbers s read pin p old e = put_step w.table (id.Node p) (split_now w read pin old e) low refl

  pub copied_numbers : (s : ℕ) (p : Path) (k : ℕ) (x : Document) → x.mod_count ≡ next_number w.table → IsNumberStep w.table (after_copied w s p k x).table
  copied_numbers s p k x number = put_step w.table (id.Prev k p) x low number

  pub pruned_numbers : (s : ℕ) (p : Path) (old : Document) (op : UpdateOp) → IsNumberStep w.table (after_pruned w s p old op).table
  pruned_numbers s p old op = put_step w.table (id.Node p) (after_changes (Some old) op (next_number w.table)) low refl

  pub gone_numbers : (s : ℕ) (i : DocId) → is_sorted id_cmp w.table.documents ≡ true → IsNumberStep w.table (after_removed w s i).table
  gone_numbers s i sorted = removed_step w.table i sorted
