-- What the steps of others leave of former documents.
use Rattle.std.proofs.Common.{◌≡◌, ◌⊎◌, inl, inr, ℕ, Bool, true, false, cond, ◌||◌, Some, None, Option, List, [], ◌∷◌, fold, refl, sym, ap, ◌∙◌, subst, is_some}
use Rattle.std.specs.Ordering.{is_eq, eq_by_cmp}
use Rattle.std.specs.Cmp.{tied_itself}
use Rattle.std.specs.List.{list_all}
use mathlib.Core.Bool.{false≢true}
use Rattle.jr_path.specs.Names.{path_cmp}
use Rattle.jr_path.specs.declared.path.Path.{Path}
use Rattle.jr_path.specs.declared.path.DocId.TheVariants as id
use Rattle.jr_rev.specs.declared.revision.Revision.{Revision}
use Rattle.jr_rev.specs.Revisions.{revision_cmp}
use Rattle.jr_rev.specs.Vectors.{sees}
use Rattle.jr_rev.proofs.Order.{revision_total}
use Rattle.jr_tree.specs.declared.edit.Write.{Write}
use Rattle.jr_tree.proofs.Pointwise.{same_path}
use Rattle.oak_clash.specs.Clashes.{commit_root}
use Rattle.oak_doc.specs.declared.document.Document.{Document}
use Rattle.oak_doc.specs.declared.document.PrevEntry.{PrevEntry}
use Rattle.oak_doc.specs.declared.update.Change.{Change}
use Rattle.oak_doc.specs.declared.update.Change.TheVariants as change
use Rattle.oak_doc.specs.declared.update.UpdateOp.{UpdateOp}
use Rattle.oak_doc.specs.Updates.{after_changes, changed}
use Rattle.oak_read.specs.Meaning.{Documents}
use Rattle.oak_machine.specs.declared.event.Draw.{Draw}
use Rattle.oak_machine.specs.declared.event.Event.{Event}
use Rattle.oak_machine.specs.declared.event.Event.TheVariants as event
use Rattle.oak_machine.specs.History.{Past}
use Rattle.oak_machine.specs.Commits.{draw_of, is_commit_of, is_in_flight}
use Rattle.oak_machine.specs.Runs.{MayCommit}
use Rattle.core_read.specs.Committing.{is_marking, IsWriteOp}
use Rattle.core_read.specs.Writes.{is_entry_of, IsOrderedDocument}
use Rattle.core_read.specs.Holds.{has_revision, the_start, IsSameAt, IsSameBut}
use Rattle.core_read.specs.World.{Progress}
use Rattle.core_read.proofs.Committing.{markings_all, marks_same, op_all}
use Rattle.core_begun.proofs.Committed.{committed}
use Rattle.core_read.proofs.Latest.{same_revision}
use Rattle.core_begun.proofs.Told.{pending}
use Rattle.core_read.proofs.Updates.{last_own, last_said, last_same, undo_said, undo_same, update_said, update_same, update_says}
use Rattle.core_keep.specs.Formers.{AreFormers, Former, former_now, Formers, IsCopyOf, StaysOn, with_former}
use Rattle.core_keep.specs.Journal.{is_bounded, is_swept}
use Rattle.core_keep.specs.From.{course_from}
use Rattle.core_begun.specs.Kept.{IsKeptSince}
use Rattle.core_begun.specs.Told.{edit_since}
use Rattle.oak_machine.specs.declared.event.Start.{Start}
use Rattle.core_keep.specs.Keeps.{Course, edit_in, IsCourse}
use Rattle.core_keep.specs.Steps.{IsChangeAt, IsMainAt, IsMoved, IsPreviousAt, IsPruned, IsUnlisted, IsUnwanted}
use Rattle.core_keep.proofs.Going.{decide}
use Rattle.core_begun.proofs.Sound.{found}
use Rattle.core_keep.proofs.Staying.{besides_stays, formers_moved, formers_on, old_alone, others_stay, previous_stays, pruned_stays, removed_stays, same_stays, told_stays}
use Rattle.core_begun.proofs.World.{besides, course, names, open_of, unsaid_at}

module _ (start : Start) where
  or_then : (a b : Bool) → b ≡ true → (a || b) ≡ true
  or_then true b h = refl
  or_then false b h = h

  or_more : (a b c : Bool) → ((b ≡ true) → (c ≡ true)) → (a || b) ≡ true → (a || c) ≡ true
  or_more true b c f h = refl
  or_more false b c f h = f h

  -- ---- what the journal tells more

  event_stays : (ds : Documents) (past : Past) (e : Event) → IsCourse (course_from start past) → ((r : Revision) → is_commit_of r e ≡ false) → StaysOn ds ds (course_from start past) (course_from start (e ∷ past))
  event_stays ds past (event.Commit r) course none = absurd (false≢true (sym (none r) ∙ ap is_eq (tied_itself revision_total r)))
  event_stays ds past (event.Bound m t) course none = told_stays ds (course_from start past) (course_from start (event.Bound m t ∷ past)) (λ r ws h. h)
      (λ r h. or_more (sees start.at r) (is_bounded past r) (Rattle.core_keep.specs.Journal.bounds r (event.Bound m t) || is_bounded past r) (λ k. or_then (Rattle.core_keep.specs.Journal.bounds r (event.Bound m t)) (is_bounded past r) k) h)
      (λ r h. or_more (sees start.at r) (is_swept past r) (Rattle.core_keep.specs.Journal.sweeps r (event.Bound m t) || is_swept past r) (λ k. or_then (Rattle.core_keep.specs.Journal.sweeps r (event.Bound m t)) (is_swept past r) k) h)
      (old_alone (course_from start past) course)
  event_stays ds past e course none = told_stays ds (course_from start past) (course_from start (e ∷ past)) (λ r ws h. h) (λ r h. h) (λ r h. h) (old_alone (course_from start past) course)

  -- an event that is no Commit
  pub formers_event : (ds : Documents) (past : Past) (done : Progress) → IsKeptSince start ds past done → (e : Event) → ((r : Revision) → is_commit_of r e ≡ false) → (formers : Formers) → AreFormers ds (course_from start past) formers → AreFormers ds (course_from start (e ∷ past)) formers
  formers_event ds past done world e none formers are = formers_on ds ds (course_from start past) (course_from start (e ∷ past)) (event_stays ds past e (course start ds past done world) none) world.keeps (course start ds past done world) formers are.copies are

  -- ---- documents change

  module _ (ds now : Documents) (past : Past) (done : Progress) (world : IsKeptSince start ds past done) where
    abbrev c : Course
    c = course_from start past

    -- a node's document is changed: previous documents stay
    previous_still : (at : Path) (d : Document) → IsMainAt ds now at d → (k : ℕ) (p : Path) → now (id.Prev k p) ≡ ds (id.Prev k p)
    previous_still at d main k p = by (eq_by_cmp path_cmp p at) refl
      where
        by : (b : Bool) → eq_by_cmp path_cmp p at ≡ b → now (id.Prev k p) ≡ ds (id.Prev k p)
        by false h = main.elsewhere.previous k p h
        by true h = subst (λ (z : Path). now (id.Prev k z) ≡ ds (id.Prev k z)) (sym (same_path p at h)) (main.previous_here k)

    still : (later : Course) → StaysOn ds now (course_from start past) later → ((k : ℕ) (p : Path) → now (id.Prev k p) ≡ ds (id.Prev k p)) → (formers : Formers) → AreFormers ds (course_from start past) formers → AreFormers now later formers
    still later stays previous formers are = formers_on ds now (course_from start past) later stays world.keeps (course start ds past done world) formers (λ p k f x h there. are.copies p k f x h (sym (previous k p) ∙ there)) are

    change_stays : (r : Revision) (dr : Draw) → draw_of past r ≡ Some dr → is_in_flight past r ≡ true → edit_since past r ≡ None → (p : Path) (d : Document) → IsMainAt ds now p d → IsSameBut r p (ds (id.Node p)) d → has_revision (Some d) r ≡ false → StaysOn ds now (course_from start past) (course_from start past)
    change_stays r dr drawn flying uncommitted at d main same unsaid = besides_stays ds now (course_from start past) (course start ds past done world) world.keeps at d main (λ q. eq_by_cmp revision_cmp q r) (open_of start ds past done world r flying uncommitted) (besides start ds now past done world r dr drawn flying uncommitted at d main same unsaid)

    -- a committer writes a document
    pub formers_write : (r : Revision) (dr : Draw) → draw_of past r ≡ Some dr → is_in_flight past r ≡ true → edit_since past r ≡ None → (p : Path) (marks : List Change) (op : UpdateOp) (number : ℕ) → IsWriteOp op r dr.edit.writes (commit_root dr.marks) p marks → done r p ≡ false
        → IsMainAt ds now p (after_changes (ds (id.Node p)) op number) → (formers : Formers) → AreFormers ds (course_from start past) formers → AreFormers now (course_from start past) formers
    formers_write r dr drawn flying uncommitted p marks op number wop new main =
        let all : list_all (is_entry_of r) op.changes ≡ true = op_all op r dr.edit.writes (commit_root dr.marks) p marks (ds (id.Node p)) number wop (names start ds past done world p) ((world.partly r dr drawn flying uncommitted).left p new) in
        still (course_from start past)
        (change_stays r dr drawn flying uncommitted p (after_changes (ds (id.Node p)) op number) main
        (update_same r p (ds (id.Node p)) op number wop.at (names start ds past done world p) all)
        (update_said r (ds (id.Node p)) op number all (unsaid_at start ds past done world p r flying uncommitted)))
        (previous_still p (after_changes (ds (id.Node p)) op number) main)

    -- it undoes one, whose entries are in order
    pub formers_undo : (r : Revision) (dr : Draw) → draw_of past r ≡ Some dr → is_in_flight past r ≡ true → edit_since past r ≡ None → (p : Path) (d : Document) (op : UpdateOp) (number : ℕ) → ds (id.Node p) ≡ Some d → IsOrderedDocument d → op.changes ≡ change.Undo r ∷ []
        → IsMainAt ds now p (after_changes (Some d) op number) → (formers : Formers) → AreFormers ds (course_from start past) formers → AreFormers now (course_from start past) formers
    formers_undo r dr drawn flying uncommitted p d op number is rise only main =
        let named : d.id ≡ id.Node p = names start ds past done world p d is in
        let shape : after_changes (Some d) op number ≡ record (changed d (change.Undo r)) { mod_count = number } = ap (λ (cs : List Change). record (fold changed d cs) { mod_count = number }) only in
        let s : IsSameBut r p (Some d) (changed d (change.Undo r)) = undo_same r p d named rise in
        let same : IsSameBut r p (Some d) (record (changed d (change.Undo r)) { mod_count = number }) =
        record { at = λ q k. record { here = (s.at q k).here; prop = (s.at q k).prop; root = (s.at q k).root }; said = s.said; whole = s.whole; named = s.named } in
        let unsaid : has_revision (Some d) r ≡ false = subst (λ (o : Option Document). has_revision o r ≡ false) is (unsaid_at start ds past done world p r flying uncommitted) in
        let its : IsMainAt ds now p (record (changed d (change.Undo r)) { mod_count = number }) = subst (λ (c : Document). IsMainAt ds now p c) shape main in
        still (course_from start past)
        (change_stays r dr drawn flying uncommitted p (record (changed d (change.Undo r)) { mod_count = number }) its
        (subst (λ (o : Option Document). IsSameBut r p o (record (changed d (change.Undo r)) { mod_count = number })) (sym is) same)
        (undo_said r p d named rise unsaid))
        (previous_still p (record (changed d (change.Undo r)) { mod_count = number }) its)

    -- a document gets marks and notes
    pub formers_mark : (p : Path) (op : UpdateOp) (number : ℕ) → op.id ≡ id.Node p → list_all is_marking op.changes ≡ true → IsMainAt ds now p (after_changes (ds (id.Node p)) op number) → (formers : Formers) → AreFormers ds (course_from start past) formers → AreFormers now (course_from start past) formers
    formers_mark at op number is all main =
        let entries : list_all (is_entry_of the_start) op.changes ≡ true = markings_all the_start op.changes all in
        let d : Document = after_changes (ds (id.Node at)) op number in
        let same : IsSameBut the_start at (ds (id.Node at)) d = update_same the_start at (ds (id.Node at)) op number is (names start ds past done world at) entries in
        still (course_from start past)
        (besides_stays ds now (course_from start past) (course start ds past done world) world.keeps at d main (λ q. false) (λ q h. absurd (false≢true h)) (record {
          at = λ q h. marks_same q at (ds (id.Node at)) op number is all;
          said = λ q h k. update_says the_start q (ds (id.Node at)) op number entries ∙ k;
          unsaid = λ q e o k. update_says the_start q (ds (id.Node at)) op number entries ∙ k;
          whole = same.whole;
          named = same.named;
        }))
        (previous_still at d main)

    -- documents of no node change
    pub formers_others : ((q : Path) → now (id.Node q) ≡ ds (id.Node q)) → ((k : ℕ) (q : Path) → now (id.Prev k q) ≡ ds (id.Prev k q)) → (formers : Formers) → AreFormers ds (course_from start past) formers → AreFormers now (course_from start past) formers
    formers_others node previous = still (course_from start past) (others_stay ds now (course_from start past) (course start ds past done world) node previous) previous

    -- garbage entries go, and previous documents are unlisted
    pub formers_pruned : (at : Path) (old d : Document) → ds (id.Node at) ≡ Some old → IsMainAt ds now at d → IsPruned ds (course_from start past) at old d → (formers : Formers) → AreFormers ds (course_from start past) formers → AreFormers now (course_from start past) formers
    formers_pruned at old d is main pruned = still (course_from start past) (pruned_stays ds now (course_from start past) (course start ds past done world) world.keeps at old d is main pruned) (previous_still at d main)

    -- a document of an absent node goes
    pub formers_removed : (at : Path) (old : Document) → ds (id.Node at) ≡ Some old → IsChangeAt ds now at → now (id.Node at) ≡ None → ((k : ℕ) (q : Path) → now (id.Prev k q) ≡ ds (id.Prev k q)) → IsUnwanted (course_from start past) at old → (formers : Formers) → AreFormers ds (course_from start past) formers → AreFormers now (course_from start past) formers
    formers_removed at old is elsewhere gone previous unwanted = still (course_from start past) (removed_stays ds now (course_from start past) (course start ds past done world) at old is elsewhere gone unwanted) previous

    -- a previous document that nobody lists goes, or a copy comes of what a former document of its number had
    pub formers_previous : (at : Path) (k : ℕ) → IsPreviousAt ds now at k → IsUnlisted ds at k → (formers : Formers) → ((f : Former) (x : Document) → formers at k ≡ Some f → now (id.Prev k at) ≡ Some x → IsCopyOf at k f x) → AreFormers ds (course_from start past) formers → AreFormers now (course_from start past) formers
    formers_previous at k change unlisted formers copied are = formers_on ds now (course_from start past) (course_from start past) (previous_stays ds now (course_from start past) (course start ds past done world) at k change unlisted) world.keeps (course start ds past done world) formers (λ p j f x h there. by p j f x h there (eq_by_cmp path_cmp p at) refl (decide j k)) are
      where
        by : (p : Path) (j : ℕ) (f : Former) (x : Document) → formers p j ≡ Some f → now (id.Prev j p) ≡ Some x → (b : Bool) → eq_by_cmp path_cmp p at ≡ b → (j ≡ k) ⊎ (j ≡ k → ⊥) → IsCopyOf p j f x
        by p j f x h there false m d = are.copies p j f x h (sym (change.elsewhere j p m) ∙ there)
        by p j f x h there true m (inr other) = are.copies p j f x h (sym (subst (λ (z : Path). now (id.Prev j z) ≡ ds (id.Prev j z)) (sym (same_path p at m)) (change.other j other)) ∙ there)
        by p j f x h there true m (inl same) =
            let one : p ≡ at = same_path p at m in
            subst (λ (z : Path). IsCopyOf z j f x) (sym one) (subst (λ (i : ℕ). IsCopyOf at i f x) (sym same)
            (copied f x (ap (λ (i : ℕ). formers at i) (sym same) ∙ (ap (λ (z : Path). formers z j) (sym one) ∙ h)) (ap (λ (i : ℕ). now (id.Prev i at)) (sym same) ∙ (ap (λ (z : Path). now (id.Prev j z)) (sym one) ∙ there))))

    -- the last write of a draw, with its Commit
    pub formers_last : (r : Revision) (dr : Draw) (op : UpdateOp) (number : ℕ) → draw_of past r ≡ Some dr → MayCommit past r → op.id ≡ id.Node (commit_root dr.marks) → op.changes ≡ change.Revisions r ∷ []
        → IsMainAt ds now (commit_root dr.marks) (after_changes (ds (id.Node (commit_root dr.marks))) op number) → IsKeptSince start now (event.Commit r ∷ past) done → (formers : Formers) → AreFormers ds (course_from start past) formers → AreFormers now (course_from start (event.Commit r ∷ past)) formers
    formers_last r dr op number drawn may is only main then = still (course_from start (event.Commit r ∷ past)) stays (previous_still root d main)
      where
        root : Path
        root = commit_root dr.marks

        d : Document
        d = after_changes (ds (id.Node (commit_root dr.marks))) op number

        same : IsSameBut r (commit_root dr.marks) (ds (id.Node (commit_root dr.marks))) (after_changes (ds (id.Node (commit_root dr.marks))) op number)
        same = last_same r (commit_root dr.marks) (ds (id.Node (commit_root dr.marks))) op number is (names start ds past done world (commit_root dr.marks)) only

        none : edit_since past r ≡ None
        none = pending start past r dr world.told may drawn

        same_at : (q : Revision) → IsSameAt q (ds (id.Node (commit_root dr.marks))) (after_changes (ds (id.Node (commit_root dr.marks))) op number)
        same_at q = by (eq_by_cmp revision_cmp q r) refl
          where
            by : (b : Bool) → eq_by_cmp revision_cmp q r ≡ b → IsSameAt q (ds (id.Node (commit_root dr.marks))) (after_changes (ds (id.Node (commit_root dr.marks))) op number)
            by false h = same.at q h
            by true h = subst (λ (x : Revision). IsSameAt x (ds (id.Node (commit_root dr.marks))) (after_changes (ds (id.Node (commit_root dr.marks))) op number)) (sym (same_revision q r h))
                (last_own r (commit_root dr.marks) (ds (id.Node (commit_root dr.marks))) op number is (names start ds past done world (commit_root dr.marks)) only)

        said : (q : Revision) → has_revision (ds (id.Node (commit_root dr.marks))) q ≡ true → has_revision (Some (after_changes (ds (id.Node (commit_root dr.marks))) op number)) q ≡ true
        said q k = by (eq_by_cmp revision_cmp q r) refl
          where
            by : (b : Bool) → eq_by_cmp revision_cmp q r ≡ b → has_revision (Some (after_changes (ds (id.Node (commit_root dr.marks))) op number)) q ≡ true
            by false h = same.said q h ∙ k
            by true h = subst (λ (x : Revision). has_revision (Some (after_changes (ds (id.Node (commit_root dr.marks))) op number)) x ≡ true) (sym (same_revision q r h))
                (last_said r (commit_root dr.marks) (ds (id.Node (commit_root dr.marks))) op number is (names start ds past done world (commit_root dr.marks)) only)

        still_said : (y : Path) (q : Revision) (ws : List Write) → edit_in (course_from start past) q ≡ Some ws → (course_from start past).swept q ≡ false → has_revision (ds (id.Node y)) q ≡ true → has_revision (now (id.Node y)) q ≡ true
        still_said y q ws e s h = by (eq_by_cmp path_cmp y (commit_root dr.marks)) refl
          where
            by : (b : Bool) → eq_by_cmp path_cmp y (commit_root dr.marks) ≡ b → has_revision (now (id.Node y)) q ≡ true
            by false k = ap (λ o. has_revision o q) (main.elsewhere.node y k) ∙ h
            by true k =
                let one : y ≡ commit_root dr.marks = same_path y (commit_root dr.marks) k in
                subst (λ (z : Path). has_revision (now (id.Node z)) q ≡ true) (sym one) (ap (λ o. has_revision o q) main.at ∙ said q (subst (λ (z : Path). has_revision (ds (id.Node z)) q ≡ true) one h))

        documents : StaysOn ds now (course_from start past) (course_from start past)
        documents = same_stays ds now (course_from start past) (course start ds past done world) root d main still_said same_at same.whole

        edits : (q : Revision) (ws : List Write) → edit_in (course_from start past) q ≡ Some ws → edit_in (course_from start (event.Commit r ∷ past)) q ≡ Some ws
        edits q ws h = found (event.Commit r ∷ past) q ∙ (committed start.tree past r dr drawn q ∙ by (eq_by_cmp revision_cmp q r) refl)
          where
            was : edit_since past q ≡ Some ws
            was = sym (found past q) ∙ h

            by : (b : Bool) → eq_by_cmp revision_cmp q r ≡ b → cond (eq_by_cmp revision_cmp q r) (Some dr.edit.writes) (edit_since past q) ≡ Some ws
            by false k = ap (λ b. cond b (Some dr.edit.writes) (edit_since past q)) k ∙ was
            by true k = absurd (false≢true (sym (ap is_some (ap (edit_since past) (same_revision q r k) ∙ none)) ∙ ap is_some was))

        stays : StaysOn ds now (course_from start past) (course_from start (event.Commit r ∷ past))
        stays = record { edits = edits; bound = λ q h. h; swept = λ q h. h; old = old_alone (course_from start (event.Commit r ∷ past)) (course start now (event.Commit r ∷ past) done then); said = documents.said; lists = documents.lists; stands = documents.stands }

    -- a split lists what it moved: the document becomes a former one
    pub formers_listed : (p : Path) (old d : Document) (e : PrevEntry) (x : Document) → ds (id.Node p) ≡ Some old → ds (id.Prev e.number p) ≡ Some x → IsMainAt ds now p d → IsMoved (course_from start past) p old d e x → e.number ≡ old.mod_count → (formers : Formers) → formers p e.number ≡ None → AreFormers ds (course_from start past) formers
        → AreFormers now (course_from start past) (with_former formers p e.number (former_now (course_from start past) old))
    formers_listed p old d e x is there main moved number formers new are = formers_moved ds now (course_from start past) world.keeps (course start ds past done world) p old d e x is there main moved number formers new are
