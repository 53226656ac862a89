-- What the steps of others leave to readers: writes and undos, marks and notes, the last write with its Commit, other events, what splits move and collections drop.
use Rattle.std.proofs.Common.{◌≡◌, ℕ, Bool, true, false, cond, ◌||◌, Some, None, Option, List, [], ◌∷◌, fold, refl, sym, ap, ◌∙◌, subst, is_some}
use Rattle.std.specs.Ordering.{is_eq, eq_by_cmp}
use Rattle.std.specs.Cmp.{tied_itself}
use Rattle.std.specs.List.{list_all}
use mathlib.Core.Bool.{false≢true}
use Rattle.jr_path.specs.Names.{path_cmp}
use Rattle.jr_path.specs.declared.path.Path.{Path}
use Rattle.jr_path.specs.declared.path.DocId.TheVariants as id
use Rattle.jr_rev.specs.declared.revision.Revision.{Revision}
use Rattle.jr_rev.specs.declared.vector.Pin.{Pin}
use Rattle.jr_rev.specs.Revisions.{revision_cmp}
use Rattle.jr_tree.specs.declared.edit.Write.{Write}
use Rattle.jr_rev.specs.Vectors.{sees}
use Rattle.jr_rev.proofs.Order.{revision_total}
use Rattle.oak_clash.specs.Clashes.{commit_root}
use Rattle.oak_doc.specs.declared.document.Document.{Document}
use Rattle.oak_doc.specs.declared.document.PrevEntry.{PrevEntry}
use Rattle.oak_doc.specs.declared.update.Change.{Change}
use Rattle.oak_doc.specs.declared.update.Change.TheVariants as change
use Rattle.oak_doc.specs.declared.update.UpdateOp.{UpdateOp}
use Rattle.oak_doc.specs.Updates.{after_changes, changed, of_revision}
use Rattle.oak_read.specs.Meaning.{Documents}
use Rattle.oak_machine.specs.declared.event.Draw.{Draw}
use Rattle.oak_machine.specs.declared.event.Event.{Event}
use Rattle.oak_machine.specs.declared.event.Event.TheVariants as event
use Rattle.oak_machine.specs.History.{Past}
use Rattle.oak_machine.specs.Commits.{draw_of, is_commit_of, is_in_flight}
use Rattle.oak_machine.specs.Runs.{MayCommit}
use Rattle.core_read.specs.Committing.{is_marking, IsWriteOp}
use Rattle.core_read.specs.Writes.{is_entry_of}
use Rattle.core_read.specs.Holds.{has_revision, the_start, IsSameAt, IsSameBut}
use Rattle.core_read.specs.World.{Progress}
use Rattle.core_read.specs.Writes.{IsOrderedDocument}
use Rattle.core_read.proofs.Committing.{markings_all, marks_same, op_all}
use Rattle.core_begun.proofs.Committed.{committed}
use Rattle.core_read.proofs.Latest.{same_revision}
use Rattle.jr_tree.proofs.Pointwise.{same_path}
use Rattle.core_begun.proofs.Told.{tree_commit}
use Rattle.core_read.proofs.Updates.{last_own, last_said, last_same, undo_said, undo_same, update_said, update_same, update_says}
use Rattle.core_keep.specs.From.{course_from}
use Rattle.core_begun.specs.Kept.{IsHeldSince, IsKeptSince}
use Rattle.core_begun.specs.Told.{edit_since}
use Rattle.oak_machine.specs.declared.event.Start.{Start}
use Rattle.core_keep.specs.Keeps.{Course, edit_in, is_done, IsHeldPair}
use Rattle.core_keep.specs.Readers.{GoesOn}
use Rattle.core_keep.specs.Steps.{IsChangeAt, IsMainAt, IsMoved, IsPreviousAt, IsPruned, IsUnlisted, IsUnwanted}
use Rattle.core_begun.proofs.Collecting.{held_pair}
use Rattle.core_keep.proofs.Going.{besides_goes, course_goes, last_goes, moved_goes, others_go, previous_goes, pruned_goes, removed_goes}
use Rattle.core_begun.proofs.Sound.{found}
use Rattle.core_begun.proofs.World.{besides, course, names, open_of, unsaid_at}
use Rattle.core_watch.specs.Reading.{ReadsOn}

module _ (start : Start) where
  apart : (s : Revision → Bool) (q r : Revision) → s q ≡ true → s r ≡ false → eq_by_cmp revision_cmp q r ≡ false
  apart s q r h k = by (eq_by_cmp revision_cmp q r) refl
    where
      by : (b : Bool) → eq_by_cmp revision_cmp q r ≡ b → b ≡ false
      by true e = absurd (false≢true (sym k ∙ (ap s (sym (same_revision q r e)) ∙ h)))
      by false e = refl

  -- nothing changed
  pub on_itself : (pin : Pin) (ds : Documents) (past : Past) (done : Progress) → IsKeptSince start ds past done → ReadsOn start pin ds ds past past
  on_itself pin ds past done world = record {
    tree = refl;
    silent = λ p q s u h. h;
    goes = λ p copy asked. course_goes ds (course_from start past) (course_from start past) (sees pin.base) (sees pin.sweep) p copy asked (course start ds past done world).falls (course start ds past done world).falls refl (λ q s. refl) (λ r h. h);
  }

  -- an event that is no Commit
  pub on_event : (pin : Pin) (ds : Documents) (past : Past) (done : Progress) → IsKeptSince start ds past done → (e : Event) → ((r : Revision) → is_commit_of r e ≡ false) → ReadsOn start pin ds ds past (e ∷ past)
  on_event pin ds past done world (event.Commit r) none = absurd (false≢true (sym (none r) ∙ ap is_eq (tied_itself revision_total r)))
  on_event pin ds past done world e none = record {
    tree = refl;
    silent = λ p q s u h. h;
    goes = λ p copy asked. course_goes ds (course_from start past) (course_from start (e ∷ past)) (sees pin.base) (sees pin.sweep) p copy asked (course start ds past done world).falls (course start ds past done world).falls refl (λ q s. refl) (λ r h. h);
  }

  module _ (pin : Pin) (ds now : Documents) (past : Past) (done : Progress) (world : IsKeptSince start ds past done) (held : IsHeldSince start past pin.base pin.sweep) where
    abbrev c : Course
    c = course_from start past

    pair : IsHeldPair (course_from start past) (sees pin.base) (sees pin.sweep)
    pair = held_pair start past pin.base pin.sweep held

    -- of what is seen no status comes where the changed document has none more
    silent_at : (at : Path) (d : Document) → IsMainAt ds now at d → ((q : Revision) → sees pin.base q ≡ true → has_revision (Some d) q ≡ true → has_revision (ds (id.Node at)) q ≡ true) → (p : Path) (q : Revision) → sees pin.base q ≡ true → has_revision (now (id.Node p)) q ≡ true → has_revision (ds (id.Node p)) q ≡ true
    silent_at at d main same p q seen h = by (eq_by_cmp path_cmp p at) refl
      where
        by : (b : Bool) → eq_by_cmp path_cmp p at ≡ b → has_revision (ds (id.Node p)) q ≡ true
        by false k = ap (λ o. has_revision o q) (sym (main.elsewhere.node p k)) ∙ h
        by true k =
            let one : p ≡ at = same_path p at k in
            subst (λ (z : Path). has_revision (ds (id.Node z)) q ≡ true) (sym one) (same q seen (ap (λ o. has_revision o q) (sym main.at) ∙ subst (λ (z : Path). has_revision (now (id.Node z)) q ≡ true) one h))

    -- a change of entries of a revision in flight alone
    pub on_change : (r : Revision) (dr : Draw) → draw_of past r ≡ Some dr → is_in_flight past r ≡ true → edit_since past r ≡ None → (p : Path) (d : Document) → IsMainAt ds now p d → IsSameBut r p (ds (id.Node p)) d → has_revision (Some d) r ≡ false → ReadsOn start pin ds now past past
    on_change r dr drawn flying uncommitted at d main same unsaid = record {
      tree = refl;
      silent = λ p q s u h. silent_at at d main (λ q seen k. sym (same.said q (apart (sees pin.base) q r seen (held.base.settled r flying))) ∙ k) p q s h;
      goes = λ p copy asked. besides_goes ds now c world.keeps (course start ds past done world) (sees pin.base) (sees pin.sweep) pair p copy asked at d main (λ q. eq_by_cmp revision_cmp q r) (open_of start ds past done world r flying uncommitted)
          (λ q h. subst (λ (x : Revision). sees pin.base x ≡ false) (sym (same_revision q r h)) (held.base.settled r flying)) (besides start ds now past done world r dr drawn flying uncommitted at d main same unsaid);
    }

    -- a committer writes a document
    pub on_write : (r : Revision) (dr : Draw) → draw_of past r ≡ Some dr → is_in_flight past r ≡ true → edit_since past r ≡ None → (p : Path) (marks : List Change) (op : UpdateOp) (number : ℕ) → IsWriteOp op r dr.edit.writes (commit_root dr.marks) p marks → done r p ≡ false
        → IsMainAt ds now p (after_changes (ds (id.Node p)) op number) → ReadsOn start pin ds now past past
    on_write r dr drawn flying uncommitted p marks op number wop new main =
        let all : list_all (is_entry_of r) op.changes ≡ true = op_all op r dr.edit.writes (commit_root dr.marks) p marks (ds (id.Node p)) number wop (names start ds past done world p) ((world.partly r dr drawn flying uncommitted).left p new) in
        on_change r dr drawn flying uncommitted p (after_changes (ds (id.Node p)) op number) main
        (update_same r p (ds (id.Node p)) op number wop.at (names start ds past done world p) all)
        (update_said r (ds (id.Node p)) op number all (unsaid_at start ds past done world p r flying uncommitted))

    -- it undoes one, whose entries are in order
    pub on_undo : (r : Revision) (dr : Draw) → draw_of past r ≡ Some dr → is_in_flight past r ≡ true → edit_since past r ≡ None → (p : Path) (d : Document) (op : UpdateOp) (number : ℕ) → ds (id.Node p) ≡ Some d → IsOrderedDocument d → op.changes ≡ change.Undo r ∷ []
        → IsMainAt ds now p (after_changes (Some d) op number) → ReadsOn start pin ds now past past
    on_undo r dr drawn flying uncommitted p d op number is rise only main =
        let named : d.id ≡ id.Node p = names start ds past done world p d is in
        let shape : after_changes (Some d) op number ≡ record (changed d (change.Undo r)) { mod_count = number } = ap (λ (cs : List Change). record (fold changed d cs) { mod_count = number }) only in
        let s : IsSameBut r p (Some d) (changed d (change.Undo r)) = undo_same r p d named rise in
        let same : IsSameBut r p (Some d) (record (changed d (change.Undo r)) { mod_count = number }) =
        record { at = λ q k. record { here = (s.at q k).here; prop = (s.at q k).prop; root = (s.at q k).root }; said = s.said; whole = s.whole; named = s.named } in
        let unsaid : has_revision (Some d) r ≡ false = subst (λ (o : Option Document). has_revision o r ≡ false) is (unsaid_at start ds past done world p r flying uncommitted) in
        on_change r dr drawn flying uncommitted p (record (changed d (change.Undo r)) { mod_count = number }) (subst (λ (c : Document). IsMainAt ds now p c) shape main)
        (subst (λ (o : Option Document). IsSameBut r p o (record (changed d (change.Undo r)) { mod_count = number })) (sym is) same)
        (undo_said r p d named rise unsaid)

    -- a document gets marks and notes
    pub on_mark : (p : Path) (op : UpdateOp) (number : ℕ) → op.id ≡ id.Node p → list_all is_marking op.changes ≡ true → IsMainAt ds now p (after_changes (ds (id.Node p)) op number) → ReadsOn start pin ds now past past
    on_mark at op number is all main =
        let entries : list_all (is_entry_of the_start) op.changes ≡ true = markings_all the_start op.changes all in
        let d : Document = after_changes (ds (id.Node at)) op number in
        let same : IsSameBut the_start at (ds (id.Node at)) d = update_same the_start at (ds (id.Node at)) op number is (names start ds past done world at) entries in
        record {
          tree = refl;
          silent = λ p q s u h. silent_at at d main (λ q seen k. sym (update_says the_start q (ds (id.Node at)) op number entries) ∙ k) p q s h;
          goes = λ p copy asked. besides_goes ds now c world.keeps (course start ds past done world) (sees pin.base) (sees pin.sweep) pair p copy asked at d main (λ q. false) (λ q h. absurd (false≢true h)) (λ q h. absurd (false≢true h)) (record {
            at = λ q h. marks_same q at (ds (id.Node at)) op number is all;
            said = λ q h k. update_says the_start q (ds (id.Node at)) op number entries ∙ k;
            unsaid = λ q e o k. update_says the_start q (ds (id.Node at)) op number entries ∙ k;
            whole = same.whole;
            named = same.named;
          });
        }

    -- documents of no node change
    pub on_others : ((q : Path) → now (id.Node q) ≡ ds (id.Node q)) → ((k : ℕ) (q : Path) → now (id.Prev k q) ≡ ds (id.Prev k q)) → ReadsOn start pin ds now past past
    on_others node previous = record {
      tree = refl;
      silent = λ p q s u h. ap (λ o. has_revision o q) (sym (node p)) ∙ h;
      goes = λ p copy asked. others_go ds now c world.keeps (course start ds past done world) (sees pin.base) (sees pin.sweep) pair p copy asked node previous;
    }

    -- a previous document that nobody lists goes, or one comes
    pub on_previous : (at : Path) (k : ℕ) → IsPreviousAt ds now at k → IsUnlisted ds at k → ReadsOn start pin ds now past past
    on_previous at k change unlisted = record {
      tree = refl;
      silent = λ p q s u h. ap (λ o. has_revision o q) (sym (change.node p)) ∙ h;
      goes = λ p copy asked. previous_goes ds now c world.keeps (course start ds past done world) (sees pin.base) (sees pin.sweep) pair p copy asked at k change unlisted;
    }

    -- garbage entries go, and previous documents are unlisted
    pub on_pruned : (at : Path) (old d : Document) → ds (id.Node at) ≡ Some old → IsMainAt ds now at d → IsPruned ds c at old d → ReadsOn start pin ds now past past
    on_pruned at old d is main pruned = record {
      tree = refl;
      silent = λ p q s u h. silent_at at d main (λ q seen k. ap (λ o. has_revision o q) is ∙ pruned.revisions.sub q k) p q s h;
      goes = λ p copy asked. pruned_goes ds now c world.keeps (course start ds past done world) (sees pin.base) (sees pin.sweep) pair p copy asked at old d is main pruned;
    }

    -- a split lists what it moved
    pub on_moved : (at : Path) (old d : Document) (e : PrevEntry) (x : Document) → ds (id.Node at) ≡ Some old → ds (id.Prev e.number at) ≡ Some x → IsMainAt ds now at d → IsMoved c at old d e x → ReadsOn start pin ds now past past
    on_moved at old d e x is there main moved = record {
      tree = refl;
      silent = λ p q s u h. silent_at at d main (λ q seen k. ap (λ o. has_revision o q) is ∙ (ap (λ es. is_some (of_revision es q)) (sym moved.revisions) ∙ k)) p q s h;
      goes = λ p copy asked. moved_goes ds now c world.keeps (course start ds past done world) (sees pin.base) (sees pin.sweep) pair p copy asked at old d e x is there main moved;
    }

    -- a document of an absent node goes
    pub on_removed : (at : Path) (old : Document) → ds (id.Node at) ≡ Some old → IsChangeAt ds now at → now (id.Node at) ≡ None → ((k : ℕ) → now (id.Prev k at) ≡ ds (id.Prev k at)) → IsUnwanted c at old → ReadsOn start pin ds now past past
    on_removed at old is elsewhere gone stay unwanted = record {
      tree = refl;
      silent = λ p q s u h. silent p q h (eq_by_cmp path_cmp p at) refl;
      goes = λ p copy asked. removed_goes ds now c world.keeps (course start ds past done world) (sees pin.base) (sees pin.sweep) pair p copy asked at old is elsewhere gone stay unwanted;
    }
      where
        silent : (p : Path) (q : Revision) → has_revision (now (id.Node p)) q ≡ true → (b : Bool) → eq_by_cmp path_cmp p at ≡ b → has_revision (ds (id.Node p)) q ≡ true
        silent p q h false k = ap (λ o. has_revision o q) (sym (elsewhere.node p k)) ∙ h
        silent p q h true k = absurd (false≢true (ap (λ o. has_revision o q) (sym (ap (λ (z : Path). now (id.Node z)) (same_path p at k) ∙ gone)) ∙ h))

    -- the last write of a draw, with its Commit, after which the world is kept
    pub on_last : (r : Revision) (dr : Draw) (op : UpdateOp) (number : ℕ) → draw_of past r ≡ Some dr → MayCommit past r → op.id ≡ id.Node (commit_root dr.marks) → op.changes ≡ change.Revisions r ∷ []
        → IsMainAt ds now (commit_root dr.marks) (after_changes (ds (id.Node (commit_root dr.marks))) op number) → IsKeptSince start now (event.Commit r ∷ past) done → ReadsOn start pin ds now past (event.Commit r ∷ past)
    on_last r dr op number drawn may is only main then = record {
      tree = tree_commit start past r dr world.told may drawn pin.base held.base;
      silent = λ p q s u h. silent_at root d main (λ q seen k. sym (same.said q (apart (sees pin.base) q r seen unseen)) ∙ k) p q s h;
      goes = λ p copy asked.
          let docs : GoesOn ds now c c (sees pin.base) (sees pin.sweep) p copy asked = last_goes ds now c world.keeps (course start ds past done world) (sees pin.base) (sees pin.sweep) pair p copy asked root d main same_at said same.whole in
          let tells : GoesOn now now c later (sees pin.base) (sees pin.sweep) p copy asked = course_goes now c later (sees pin.base) (sees pin.sweep) p copy asked (course start ds past done world).falls (course start now (event.Commit r ∷ past) done then).falls refl seen_same still_done in
          record { tree = tells.tree; node_last = tells.node_last; prop_last = tells.prop_last; done = tells.done; said = docs.said; sub = docs.sub; list = docs.list; stays = docs.stays; previous = docs.previous };
    }
      where
        later : Course
        later = course_from start (event.Commit r ∷ past)

        root : Path
        root = commit_root dr.marks

        d : Document
        d = after_changes (ds (id.Node (commit_root dr.marks))) op number

        same : IsSameBut r (commit_root dr.marks) (ds (id.Node (commit_root dr.marks))) (after_changes (ds (id.Node (commit_root dr.marks))) op number)
        same = last_same r (commit_root dr.marks) (ds (id.Node (commit_root dr.marks))) op number is (names start ds past done world (commit_root dr.marks)) only

        unseen : sees pin.base r ≡ false
        unseen = held.base.settled r may.open_.in_flight

        seen_same : (q : Revision) → sees pin.base q ≡ true → edit_in (course_from start (event.Commit r ∷ past)) q ≡ edit_in (course_from start past) q
        seen_same q seen =
            found (event.Commit r ∷ past) q
            ∙ (committed start.tree past r dr drawn q
            ∙ (ap (λ b. cond b (Some dr.edit.writes) (edit_since past q)) (apart (sees pin.base) q r seen unseen)
            ∙ sym (found past q)))

        still : (b : Bool) (o : Option (List Write)) → is_some o ≡ true → is_some (cond b (Some dr.edit.writes) o) ≡ true
        still true o h = refl
        still false o h = h

        still_done : (q : Revision) → is_done (course_from start past) q ≡ true → is_done (course_from start (event.Commit r ∷ past)) q ≡ true
        still_done q h = or_more (is_some (edit_in (course_from start past) q)) _ (sees start.at q) (λ k. ap is_some (found (event.Commit r ∷ past) q ∙ committed start.tree past r dr drawn q)
            ∙ still (eq_by_cmp revision_cmp q r) (edit_since past q) (sym (ap is_some (found past q)) ∙ k)) h
          where
            or_more : (a b c : Bool) → ((a ≡ true) → (b ≡ true)) → (a || c) ≡ true → (b || c) ≡ true
            or_more true b c f h = ap (λ x. x || c) (f refl)
            or_more false true c f h = refl
            or_more false false c f h = h

        same_at : (q : Revision) → IsSameAt q (ds (id.Node (commit_root dr.marks))) (after_changes (ds (id.Node (commit_root dr.marks))) op number)
        same_at q = by (eq_by_cmp revision_cmp q r) refl
          where
            by : (b : Bool) → eq_by_cmp revision_cmp q r ≡ b → IsSameAt q (ds (id.Node (commit_root dr.marks))) (after_changes (ds (id.Node (commit_root dr.marks))) op number)
            by false h = same.at q h
            by true h = subst (λ (x : Revision). IsSameAt x (ds (id.Node (commit_root dr.marks))) (after_changes (ds (id.Node (commit_root dr.marks))) op number)) (sym (same_revision q r h))
                (last_own r (commit_root dr.marks) (ds (id.Node (commit_root dr.marks))) op number is (names start ds past done world (commit_root dr.marks)) only)

        said : (q : Revision) → has_revision (ds (id.Node (commit_root dr.marks))) q ≡ true → has_revision (Some (after_changes (ds (id.Node (commit_root dr.marks))) op number)) q ≡ true
        said q k = by (eq_by_cmp revision_cmp q r) refl
          where
            by : (b : Bool) → eq_by_cmp revision_cmp q r ≡ b → has_revision (Some (after_changes (ds (id.Node (commit_root dr.marks))) op number)) q ≡ true
            by false h = same.said q h ∙ k
            by true h = subst (λ (x : Revision). has_revision (Some (after_changes (ds (id.Node (commit_root dr.marks))) op number)) x ≡ true) (sym (same_revision q r h))
                (last_said r (commit_root dr.marks) (ds (id.Node (commit_root dr.marks))) op number is (names start ds past done world (commit_root dr.marks)) only)
