-- Splits and collections keep the whole of a world.
use Rattle.std.proofs.Common.{◌≡◌, ℕ, true, false, None, refl}
use Rattle.jr_path.specs.declared.path.DocId.TheVariants as id
use Rattle.jr_path.specs.declared.path.Path.{Path}
use Rattle.jr_rev.specs.declared.vector.Pin.{Pin}
use Rattle.jr_rev.specs.declared.vector.RevVec.{RevVec}
use Rattle.oak_doc.specs.declared.document.Document.{Document}
use Rattle.oak_doc.specs.declared.document.PrevEntry.{PrevEntry}
use Rattle.oak_doc.specs.declared.update.UpdateOp.{UpdateOp}
use Rattle.oak_machine.specs.Laws.{Says, Starts, StartsProper}
use Rattle.oak_machine.specs.Sessions.{has_left, has_login}
use Rattle.oak_read.specs.Meaning.{Documents, documents_in}
use Rattle.core_world.specs.Collecting.{MayPrune, MayRemove, MayRemovePrevious, MaySplit, after_copied, after_pruned, after_removed, after_split, after_taken_back}
use Rattle.core_keep.specs.Formers.{Former, IsCopyOf}
use Rattle.core_world.specs.Kept.{IsKept}
use Rattle.core_world.specs.States.{State}
use Rattle.core_world.proofs.Splitting.{back_goes, back_rises, copied_keeps, copied_rises, pruned_keeps, pruned_rises, removed_keeps, removed_rises, split_keeps, split_rises, unlisted_goes, unlisted_rises}
use Rattle.core_world.proofs.Collects.{taken_is}
use Rattle.core_world.proofs.Seated.{quiet_pinned}
use Rattle.core_world.proofs.Tables.{put_is}
use Rattle.core_world.specs.Collecting.{split_now}
use Rattle.oak_doc.specs.Updates.{after_changes}
use Rattle.oak_store.specs.Tables.{next_number}
use Rattle.std.proofs.Common.{Some}
use Rattle.core_world.proofs.Whole.{goes, layers_of}

module _ (starts : Starts) (says : Says) (proper : StartsProper starts) (w : State) (kept : IsKept starts says w) (s : ℕ) (login : has_login w.past s ≡ true) (stays : has_left w.past s ≡ false) where
  pub copied_whole : (p : Path) (k : ℕ) (x : Document) → documents_in w.table.documents (id.Prev k p) ≡ None → ((f : Former) → w.formers p k ≡ Some f → IsCopyOf p k f x) → IsKept starts says (after_copied w s p k x)
  copied_whole p k x none new = goes starts says proper w kept (after_copied w s p k x) refl refl (copied_keeps starts says proper w (layers_of starts says w kept) s login stays p k x none new) (λ r. refl) (λ r. refl) (copied_rises starts says proper w (layers_of starts says w kept) s login stays p k x none new)
      (quiet_pinned starts says proper w (layers_of starts says w kept) kept.pinned (after_copied w s p k x) refl refl refl refl (λ q. refl) (put_is w.table (id.Prev k p) x (next_number w.table) id.Settings))

  pub split_whole : (read : Documents) (pin : Pin) (p : Path) (old : Document) (e : PrevEntry) → MaySplit w read pin p old e → w.formers p e.number ≡ None → IsKept starts says (after_split w s read pin p old e)
  split_whole read pin p old e may new = goes starts says proper w kept (after_split w s read pin p old e) refl refl (split_keeps starts says proper w (layers_of starts says w kept) s login stays read pin p old e may new) (λ r. refl) (λ r. refl) (split_rises starts says proper w (layers_of starts says w kept) s login stays read pin p old e may new)
      (quiet_pinned starts says proper w (layers_of starts says w kept) kept.pinned (after_split w s read pin p old e) refl refl refl refl (λ q. refl) (put_is w.table (id.Node p) (split_now w read pin old e) (next_number w.table) id.Settings))

  pub pruned_whole : (m t : RevVec) (p : Path) (old : Document) (op : UpdateOp) → MayPrune w m t p old op → IsKept starts says (after_pruned w s p old op)
  pruned_whole m t p old op may = goes starts says proper w kept (after_pruned w s p old op) refl refl (pruned_keeps starts says proper w (layers_of starts says w kept) s login stays m t p old op may) (λ r. refl) (λ r. refl) (pruned_rises starts says proper w (layers_of starts says w kept) s login stays m t p old op may)
      (quiet_pinned starts says proper w (layers_of starts says w kept) kept.pinned (after_pruned w s p old op) refl refl refl refl (λ q. refl) (put_is w.table (id.Node p) (after_changes (Some old) op (next_number w.table)) (next_number w.table) id.Settings))

  pub removed_whole : (m t : RevVec) (p : Path) (old : Document) → MayRemove w m t p old → IsKept starts says (after_removed w s (id.Node p))
  removed_whole m t p old may = goes starts says proper w kept (after_removed w s (id.Node p)) refl refl (removed_keeps starts says proper w (layers_of starts says w kept) s login stays m t p old may) (λ r. refl) (λ r. refl) (removed_rises starts says proper w (layers_of starts says w kept) s login stays m t p old may)
      (quiet_pinned starts says proper w (layers_of starts says w kept) kept.pinned (after_removed w s (id.Node p)) refl refl refl refl (λ q. refl) (taken_is w.table (id.Node p) id.Settings may.sorted))

  pub unlisted_whole : (p : Path) (k : ℕ) → MayRemovePrevious w p k → IsKept starts says (after_removed w s (id.Prev k p))
  unlisted_whole p k may = goes starts says proper w kept (after_removed w s (id.Prev k p)) refl refl (unlisted_goes starts says proper w (layers_of starts says w kept) s login stays p k may) (λ r. refl) (λ r. refl) (unlisted_rises starts says proper w (layers_of starts says w kept) s login stays p k may)
      (quiet_pinned starts says proper w (layers_of starts says w kept) kept.pinned (after_removed w s (id.Prev k p)) refl refl refl refl (λ q. refl) (taken_is w.table (id.Prev k p) id.Settings may.sorted))

  pub back_whole : (p : Path) (k : ℕ) → MayRemovePrevious w p k → IsKept starts says (after_taken_back w s (id.Prev k p))
  back_whole p k may = goes starts says proper w kept (after_taken_back w s (id.Prev k p)) refl refl (back_goes starts says proper w (layers_of starts says w kept) s login stays p k may) (λ r. refl) (λ r. refl) (back_rises starts says proper w (layers_of starts says w kept) s login stays p k may)
      (quiet_pinned starts says proper w (layers_of starts says w kept) kept.pinned (after_taken_back w s (id.Prev k p)) refl refl refl refl (λ q. refl) (taken_is w.table (id.Prev k p) id.Settings may.sorted))
