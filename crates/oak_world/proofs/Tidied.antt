-- How each step of a split or a collection changes the documents.
use Rattle.std.proofs.Common.{◌≡◌, inl, inr, ℕ, Bool, true, false, cond, Some, None, refl, ap, ◌∙◌}
use Rattle.std.specs.Ordering.{eq_by_cmp}
use Rattle.jr_path.specs.Ids.{id_cmp}
use Rattle.jr_path.specs.declared.path.DocId.{DocId}
use Rattle.jr_path.specs.declared.path.DocId.TheVariants as id
use Rattle.jr_path.specs.declared.path.Path.{Path}
use Rattle.jr_rev.specs.declared.vector.Pin.{Pin}
use Rattle.jr_rev.specs.declared.vector.RevVec.{RevVec}
use Rattle.jr_rev.specs.Vectors.{sees}
use Rattle.oak_doc.specs.declared.document.Document.{Document}
use Rattle.oak_doc.specs.declared.document.PrevEntry.{PrevEntry}
use Rattle.oak_doc.specs.declared.update.UpdateOp.{UpdateOp}
use Rattle.oak_doc.specs.Updates.{after_changes}
use Rattle.oak_machine.specs.Laws.{Says, Starts}
use Rattle.oak_read.specs.Meaning.{Documents, documents_in}
use Rattle.oak_store.specs.Tables.{next_number, with_document}
use Rattle.core_begun.specs.Kept.{IsKeptSince}
use Rattle.core_clash.proofs.Basics.{or_right}
use Rattle.core_keep.specs.Formers.{Former, IsCopyOf, former_now}
use Rattle.core_keep.specs.From.{course_from}
use Rattle.core_keep.specs.Steps.{IsChangeAt}
use Rattle.core_keep.proofs.Garbage.{garbage_pruned, garbage_unwanted}
use Rattle.core_keep.proofs.Splits.{split_moved}
use Rattle.core_keep.proofs.Staying.{grows_by, missing_unlisted}
use Rattle.core_world.specs.Collecting.{MayPrune, MayRemove, MayRemovePrevious, MaySplit, after_copied, after_pruned, after_removed, after_split, after_taken_back, split_now, without}
use Rattle.core_world.specs.Kept.{IsKept, has_written}
use Rattle.core_world.specs.States.{State, origin}
use Rattle.core_world.proofs.Collects.{taken_is}
use Rattle.core_world.proofs.Splitting.{previous_from}
use Rattle.core_world.proofs.Tables.{id_itself, one_id, other_node, put_is, put_main}
use Rattle.oak_world.proofs.Changing.{Changes, IsPreviousChange}

-- a previous document that its node doesn't list is taken away
taken_away : (w : State) (p : Path) (k : ℕ) (may : MayRemovePrevious w p k) → IsPreviousChange w.table (without w.table (id.Prev k p))
taken_away w p k may = record {
  at = p;
  number = k;
  change = previous_from (documents_in w.table.documents) (documents_in (without w.table (id.Prev k p)).documents) p k None (λ j. taken_is w.table (id.Prev k p) j may.sorted);
  unlisted = may.unlisted;
}

-- a split takes its copy back
pub back_changes : (w : State) (s : ℕ) (p : Path) (k : ℕ) → MayRemovePrevious w p k → Changes w (after_taken_back w s (id.Prev k p))
back_changes w s p k may = inl (inr (inl (taken_away w p k may)), refl)

-- a collection takes away what it has unlisted
pub unlisted_changes : (w : State) (s : ℕ) (p : Path) (k : ℕ) → MayRemovePrevious w p k → Changes w (after_removed w s (id.Prev k p))
unlisted_changes w s p k may = inl (inr (inl (taken_away w p k may)), refl)

module _ (starts : Starts) (says : Says) (w : State) (kept : IsKept starts says w) (s : ℕ) where
  abbrev world : IsKeptSince (origin w) (documents_in w.table.documents) w.past (λ r. has_written (kept.sessions.committing.writers r))
  world = kept.sessions.committing.kept

  -- a split writes its copy
  pub copied_changes : (p : Path) (k : ℕ) (x : Document) → documents_in w.table.documents (id.Prev k p) ≡ None → ((f : Former) → w.formers p k ≡ Some f → IsCopyOf p k f x) → Changes w (after_copied w s p k x)
  copied_changes p k x none copied =
      inl (
        inr (inl (record {
          at = p;
          number = k;
          change = previous_from (documents_in w.table.documents) (documents_in (with_document w.table (id.Prev k p) x (next_number w.table)).documents) p k (Some x) (put_is w.table (id.Prev k p) x (next_number w.table));
          unlisted = missing_unlisted (documents_in w.table.documents) (course_from (origin w) w.past) w.formers kept.sessions.readers.told p k (λ f h. (copied f h).numbered) none;
        })),
        refl,
      )

  -- and lists it
  pub listed_changes : (read : Documents) (pin : Pin) (p : Path) (old : Document) (e : PrevEntry) → MaySplit w read pin p old e → w.formers p e.number ≡ None → Changes w (after_split w s read pin p old e)
  listed_changes read pin p old e may new = inr (record {
    at = p;
    old = old;
    document = split_now w read pin old e;
    entry = e;
    there = may.there;
    main = put_main w.table p (split_now w read pin old e) (next_number w.table);
    prev = (split_moved read pin old e may.first (next_number w.table) may.order (documents_in w.table.documents) (course_from (origin w) w.past) p (world.keeps p) may.there may.number may.counted).prev;
    new = new;
    grows = grows_by w.formers p e.number (former_now (course_from (origin w) w.past) old) new;
  })

  module _ (m t : RevVec) (p : Path) (old : Document) where
    -- a collection drops garbage
    pub pruned_changes : (op : UpdateOp) → MayPrune w m t p old op → Changes w (after_pruned w s p old op)
    pruned_changes op may =
        inl (
          inr (inr (inl (record {
            at = p;
            old = old;
            document = after_changes (Some old) op (next_number w.table);
            there = may.there;
            main = put_main w.table p (after_changes (Some old) op (next_number w.table)) (next_number w.table);
            pruned = garbage_pruned (documents_in w.table.documents) (course_from (origin w) w.past) p m t (λ r h. or_right (sees (origin w).at r) _ (may.bound.bounded r h)) (λ r h. or_right (sees (origin w).at r) _ (may.bound.swept r h)) old op (next_number w.table) may.keys may.numbers
                ((world.keeps p).named old may.there) may.order may.garbage;
          }))),
          refl,
        )

    -- and takes away the document of an absent node
    module _ (may : MayRemove w m t p old) where
      left_is : (j : DocId) → documents_in (without w.table (id.Node p)).documents j ≡ cond (eq_by_cmp id_cmp j (id.Node p)) None (documents_in w.table.documents j)
      left_is j = taken_is w.table (id.Node p) j may.sorted

      left_other : (j : DocId) → (j ≡ id.Node p → ⊥) → documents_in (without w.table (id.Node p)).documents j ≡ documents_in w.table.documents j
      left_other j never = left_is j ∙ ap (λ b. cond b None (documents_in w.table.documents j)) (apart (eq_by_cmp id_cmp j (id.Node p)) refl)
        where
          apart : (b : Bool) → eq_by_cmp id_cmp j (id.Node p) ≡ b → b ≡ false
          apart false h = refl
          apart true h = absurd (never (one_id j (id.Node p) h))

      left_previous : (k : ℕ) (q : Path) → documents_in (without w.table (id.Node p)).documents (id.Prev k q) ≡ documents_in w.table.documents (id.Prev k q)
      left_previous k q = left_other (id.Prev k q) (λ h. cc)

      elsewhere : IsChangeAt (documents_in w.table.documents) (documents_in (without w.table (id.Node p)).documents) p
      elsewhere = record {
        node = λ q h. left_is (id.Node q) ∙ ap (λ b. cond b None (documents_in w.table.documents (id.Node q))) (other_node q p h);
        previous = λ k q h. left_previous k q;
      }

      pub removed_changes : Changes w (after_removed w s (id.Node p))
      removed_changes =
          inl (
            inr (inr (inr (record {
              at = p;
              old = old;
              there = may.there;
              elsewhere = elsewhere;
              gone = left_is (id.Node p) ∙ ap (λ b. cond b None (documents_in w.table.documents (id.Node p))) (id_itself (id.Node p));
              previous = left_previous;
              unwanted = garbage_unwanted (course_from (origin w) w.past) p m t (λ r h. or_right (sees (origin w).at r) _ (may.bound.bounded r h)) (λ r h. or_right (sees (origin w).at r) _ (may.bound.swept r h)) old may.garbage;
            }))),
            refl,
          )
