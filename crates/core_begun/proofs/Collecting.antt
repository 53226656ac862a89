-- Collections, readers and splits over documents that are kept since a start.
use Rattle.std.proofs.Common.{◌≡◌, inl, inr, ℕ, Bool, true, false, ◌&&◌, ◌||◌, is_some, Some, None, Option, List, refl, sym, ap, ◌∙◌, subst}
use Rattle.std.specs.Ordering.{eq_by_cmp}
use mathlib.Core.Bool.{false≢true}
use Rattle.jr_path.specs.declared.name.Name.{Name}
use Rattle.jr_path.specs.declared.path.Path.{Path}
use Rattle.jr_path.specs.declared.path.DocId.TheVariants as id
use Rattle.jr_rev.specs.declared.revision.Revision.{Revision}
use Rattle.jr_rev.specs.declared.vector.Pin.{Pin}
use Rattle.jr_rev.specs.declared.vector.RevVec.{RevVec}
use Rattle.jr_rev.specs.Revisions.{revision_cmp}
use Rattle.jr_rev.specs.Vectors.{sees}
use Rattle.jr_tree.specs.Trees.{node_at}
use Rattle.oak_doc.specs.declared.document.Document.{Document}
use Rattle.oak_doc.specs.declared.document.PrevEntry.{PrevEntry}
use Rattle.oak_doc.specs.declared.update.EntryKey.{EntryKey}
use Rattle.oak_doc.specs.declared.update.UpdateOp.{UpdateOp}
use Rattle.oak_doc.specs.Updates.{after_changes, of_revision, values_of_property}
use Rattle.oak_read.specs.Meaning.{Documents, found_node, is_committed}
use Rattle.oak_machine.specs.History.{Past}
use Rattle.oak_machine.specs.Commits.{is_in_flight, tree_at}
use Rattle.core_read.specs.World.{Progress}
use Rattle.core_read.specs.Writes.{IsOrderedDocument}
use Rattle.core_keep.specs.Dropping.{DropsGarbage}
use Rattle.core_keep.specs.Garbage.{garbage_in, garbage_listed, is_garbage_document, pruning}
use Rattle.oak_machine.specs.declared.event.Start.{Start}
use Rattle.core_keep.specs.From.{course_from, IsFirst}
use Rattle.core_keep.specs.Keeps.{is_done, IsHeldPair}
use Rattle.core_begun.specs.Told.{IsInUseSince, IsToldSince}
use Rattle.core_begun.specs.Kept.{bounded_since, swept_since, IsHeldSince, IsKeptSince}
use Rattle.core_keep.specs.Readers.{Reads, Knows}
use Rattle.core_keep.specs.Formers.{AreFormers, Former, Formers}
use Rattle.core_keep.proofs.Staying.{missing_unlisted}
use Rattle.core_keep.specs.Splits.{previous_write, main_write, IsInOrder}
use Rattle.core_keep.specs.Steps.{IsChangeAt, IsMainAt, IsPreviousAt, IsUnlisted}
use Rattle.core_keep.proofs.Item.{not_true, either_true}
use Rattle.core_keep.proofs.Garbage.{garbage_pruned, garbage_unwanted}
use Rattle.core_begun.proofs.Course.{downward, shows_at}
use Rattle.core_begun.proofs.Sound.{found}
use Rattle.core_keep.proofs.Listing.{pruning_drops}
use Rattle.core_keep.proofs.Readers.{reads_copy, known_found}
use Rattle.core_keep.proofs.Splits.{split_moved}
use Rattle.core_begun.proofs.World.{course, names, kept_moved, kept_previous, kept_pruned, kept_removed}

module _ (start : Start) where
  pub garbage_keeps : (ds now : Documents) (past : Past) (done : Progress) (m t : RevVec) (p : Path) (old : Document) (op : UpdateOp) (number : ℕ) (keys : List EntryKey) (ns : List ℕ) → IsKeptSince start ds past done
      → ((r : Revision) → sees m r ≡ true → bounded_since start past r ≡ true) → ((r : Revision) → sees t r ≡ true → swept_since start past r ≡ true) → ds (id.Node p) ≡ Some old → IsOrderedDocument old → DropsGarbage ds m t p old op keys ns → IsMainAt ds now p (after_changes (Some old) op number) → IsKeptSince start now past done
  garbage_keeps ds now past done m t p old op number keys ns world wider more is rise drops main =
      kept_pruned start ds now past done world p old (after_changes (Some old) op number) is main
      (garbage_pruned ds (course_from start past) p m t wider more old op number keys ns (names start ds past done world p old is) rise drops)

  -- all garbage of a document, and all previous documents that are garbage
  pub pruning_keeps : (ds now : Documents) (past : Past) (done : Progress) (m t : RevVec) (p : Path) (old : Document) (number : ℕ) → IsKeptSince start ds past done
      → ((r : Revision) → sees m r ≡ true → bounded_since start past r ≡ true) → ((r : Revision) → sees t r ≡ true → swept_since start past r ≡ true) → ds (id.Node p) ≡ Some old → IsOrderedDocument old → IsMainAt ds now p (after_changes (Some old) (pruning m t old (garbage_listed m t ds old)) number) → IsKeptSince start now past done
  pruning_keeps ds now past done m t p old number world wider more is rise main =
      garbage_keeps ds now past done m t p old (pruning m t old (garbage_listed m t ds old)) number (garbage_in m t old) (garbage_listed m t ds old) world wider more is rise (pruning_drops ds m t p old (names start ds past done world p old is) rise) main

  pub removed_garbage_keeps : (ds now : Documents) (past : Past) (done : Progress) (m t : RevVec) (p : Path) (old : Document) → IsKeptSince start ds past done
      → ((r : Revision) → sees m r ≡ true → bounded_since start past r ≡ true) → ((r : Revision) → sees t r ≡ true → swept_since start past r ≡ true) → ds (id.Node p) ≡ Some old → is_garbage_document m t old ≡ true → IsChangeAt ds now p → now (id.Node p) ≡ None → IsKeptSince start now past done
  removed_garbage_keeps ds now past done m t p old world wider more is garbage elsewhere gone =
      kept_removed start ds now past done world p old is elsewhere gone (garbage_unwanted (course_from start past) p m t wider more old garbage)

  -- what is held since the start is a held pair
  pub held_pair : (past : Past) (v t : RevVec) → IsHeldSince start past v t → IsHeldPair (course_from start past) (sees v) (sees t)
  held_pair past v t held = record { base = held.above; sweep = held.swept; done = λ r s e. held.quiet r s (sym (found past r) ∙ e) }

  pub world_copy : (ds : Documents) (past : Past) (done : Progress) (v t : RevVec) (p : Path) (copy : Document) → IsKeptSince start ds past done → IsHeldSince start past v t → ds (id.Node p) ≡ Some copy → Reads ds (course_from start past) (sees v) (sees t) p copy (λ k. false) (λ k. ds (id.Prev k p))
  world_copy ds past done v t p copy world held is =
      reads_copy ds (course_from start past) world.keeps (course start ds past done world) (downward start past world.told world.separate (bounded_since start past) world.bounded.closed) (sees v) (sees t) (held_pair past v t held)
      (λ r s e. not_true (is_in_flight past r) (λ f. false≢true (sym (held.base.settled r f) ∙ s))) p copy is

  pub known_tree : (ds known : Documents) (past : Past) (v t : RevVec) (p : Path) (copy : Document) (asked : ℕ → Bool) (look : ℕ → Option Document) → IsFirst start.tree → IsToldSince start past → IsInUseSince start past v → Reads ds (course_from start past) (sees v) (sees t) p copy asked look → Knows known (sees v) (sees t) p copy look
      → found_node known t v p ≡ node_at (tree_at (Some start) past v) p
  known_tree ds known past v t p copy asked look first told used reads knows = known_found ds (course_from start past) v t p copy asked look reads known knows (tree_at (Some start) past v) (shows_at start past first told v used)

  -- ---- splits

  pub split_writes : (ds now : Documents) (past : Past) (done : Progress) (formers : Formers) (p : Path) (k : ℕ) → IsKeptSince start ds past done → AreFormers ds (course_from start past) formers → ((f : Former) → formers p k ≡ Some f → f.document.mod_count ≡ k) → IsPreviousAt ds now p k → ds (id.Prev k p) ≡ None → IsKeptSince start now past done
  split_writes ds now past done formers p k world are numbered change none = kept_previous start ds now past done world p k change (missing_unlisted ds (course_from start past) formers are p k numbered none)

  pub split_lists : (read ds now : Documents) (past : Past) (done : Progress) (p : Path) (pin : Pin) (old : Document) (e : PrevEntry) (first second : ℕ) → IsKeptSince start ds past done → ds (id.Node p) ≡ Some old → IsInOrder old → e.number ≡ old.mod_count
      → ((n : Name) (r : Revision) → is_some (of_revision (values_of_property old.props n) r) ≡ true → (sees pin.base r && is_committed read pin.sweep old r) ≡ true → is_done (course_from start past) r ≡ true)
      → ds (id.Prev e.number p) ≡ Some (after_changes None (previous_write read pin old) first) → IsMainAt ds now p (after_changes (Some old) (main_write read pin old e) second) → IsKeptSince start now past done
  split_lists read ds now past done p pin old e first second world is order number counted there main =
      kept_moved start ds now past done world p old (after_changes (Some old) (main_write read pin old e) second) e (after_changes None (previous_write read pin old) first) is there main
      (split_moved read pin old e first second order ds (course_from start past) p (world.keeps p) is number counted)
