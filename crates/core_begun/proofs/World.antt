-- Each step keeps what documents keep since a start.
use Rattle.std.proofs.Common.{◌≡◌, ◌⊎◌, inl, inr, ℕ, Bool, true, false, cond, not, ◌&&◌, ◌||◌, Some, None, Option, List, [], ◌∷◌, refl, sym, ap, ◌∙◌, subst, is_some}
use Rattle.std.specs.Option.{option_map, option_map_or, option_or, option_and_then, unwrap_or}
use Rattle.std.specs.Ordering.{eq_by_cmp}
use Rattle.std.specs.List.{fold, list_any, list_all}
use mathlib.Core.Bool.{false≢true}
use Rattle.jr_path.specs.Names.{path_cmp}
use Rattle.jr_path.specs.declared.name.Name.{Name}
use Rattle.jr_path.specs.declared.path.Path.{Path}
use Rattle.jr_path.specs.declared.path.DocId.TheVariants as id
use Rattle.jr_rev.specs.declared.revision.Revision.{Revision}
use Rattle.jr_rev.specs.Revisions.{revision_cmp}
use Rattle.jr_tree.specs.declared.edit.Write.{Write}
use Rattle.jr_tree.specs.declared.edit.Write.TheVariants.{Here, Gone, Put, Unset}
use Rattle.jr_tree.specs.Items.{here_of, put_of, written}
use Rattle.jr_tree.proofs.Pointwise.{same_path}
use Rattle.oak_clash.specs.Clashes.{commit_root}
use Rattle.oak_doc.specs.declared.document.Document.{Document}
use Rattle.oak_doc.specs.declared.document.PrevEntry.{PrevEntry}
use Rattle.oak_doc.specs.declared.update.UpdateOp.{UpdateOp}
use Rattle.oak_doc.specs.declared.update.Change.{Change}
use Rattle.oak_doc.specs.declared.update.Change.TheVariants as change
use Rattle.oak_doc.specs.Updates.{after_changes, changed, of_revision, values_of_property}
use Rattle.oak_read.specs.Meaning.{Documents}
use Rattle.oak_machine.specs.declared.event.Draw.{Draw}
use Rattle.oak_machine.specs.History.{Past}
use Rattle.oak_machine.specs.Commits.{draw_of, is_in_base, is_in_flight, is_ended}
use Rattle.core_read.specs.Holds.{the_start, has_revision, here_entry, prop_entry, root_entry, is_at_path, IsWrite, IsSameAt, IsSameBut, IsEditWhole, IsUndone}
use Rattle.core_read.specs.Writes.{is_entry_of, IsOrderedDocument}
use Rattle.core_read.specs.Committing.{is_marking, IsWriteOp, IsWrittenAt, IsUnwritten, IsPartly}
use Rattle.core_read.specs.World.{Progress}
use Rattle.core_read.proofs.Latest.{same_revision}
use Rattle.core_read.proofs.Updates.{update_same, update_said, update_says, undo_same, undo_here, undo_prop, undo_root, undo_said}
use Rattle.core_read.proofs.Committing.{more_written, less_written, others_leave, op_written, op_all, markings_all, marks_same}
use Rattle.core_keep.specs.Standing.{HasEntryOf}
use Rattle.core_keep.specs.Keeps.{edit_in, is_done, IsCourse}
use Rattle.core_keep.specs.Steps.{IsChangeAt, IsMainAt, IsSameBesides, IsPruned, IsMoved, IsUnwanted, IsPreviousAt, IsUnlisted}
use Rattle.jr_rev.specs.Vectors.{sees}
use Rattle.oak_machine.specs.declared.event.Start.{Start}
use Rattle.core_keep.specs.From.{course_from}
use Rattle.core_keep.specs.Journal.{with_progress}
use Rattle.core_begun.specs.Told.{edit_since}
use Rattle.core_begun.specs.Kept.{bounded_since, IsKeptSince}
use Rattle.core_keep.proofs.Item.{not_true, is_none, either_true}
use Rattle.core_keep.proofs.Main.{main_keeps}
use Rattle.core_keep.proofs.Pruned.{pruned_keeps}
use Rattle.core_keep.proofs.Moved.{moved_keeps, previous_keeps, others_keep, removed_keeps}
use Rattle.core_begun.proofs.Course.{downward, is_course, not_old, shows_bound}
use Rattle.core_begun.proofs.Sound.{found}

module _ (start : Start) where
  -- ---- a world is a course

  module _ (ds : Documents) (past : Past) (done : Progress) (world : IsKeptSince start ds past done) where
    pub course : IsCourse (course_from start past)
    course = is_course start past world.told world.bounded world.swept

    -- what is in flight and isn't committed is open
    pub open_of : (r : Revision) → is_in_flight past r ≡ true → edit_since past r ≡ None → (q : Revision) → eq_by_cmp revision_cmp q r ≡ true → (edit_in (course_from start past) q ≡ None) × (is_in_flight past q ≡ true) × (bounded_since start past q ≡ false)
    open_of r flying none q h = subst (λ (x : Revision). (edit_in (course_from start past) x ≡ None) × (is_in_flight past x ≡ true) × (bounded_since start past x ≡ false)) (sym (same_revision q r h))
        (found past r ∙ none, flying, world.bounded.settled r flying)

    -- no status of what isn't committed
    pub unsaid_at : (p : Path) (r : Revision) → is_in_flight past r ≡ true → edit_since past r ≡ None → has_revision (ds (id.Node p)) r ≡ false
    unsaid_at p r flying none = (world.keeps p).unsaid r (found past r ∙ none) (not_old start past world.told r flying)

    pub names : (x : Path) (d : Document) → ds (id.Node x) ≡ Some d → d.id ≡ id.Node x
    names x d h = (world.keeps x).named d h

  pub is_write : (ds now : Documents) (p : Path) (d : Document) → IsMainAt ds now p d → IsWrite ds now p d
  is_write ds now p d main = record { at = main.at; else_ = main.elsewhere.node }

  -- ---- a write of one document

  module _ (ds now : Documents) (past : Past) (done : Progress) (world : IsKeptSince start ds past done) (r : Revision) (dr : Draw) (drawn : draw_of past r ≡ Some dr) (flying : is_in_flight past r ≡ true) (uncommitted : edit_since past r ≡ None)
      (p : Path) (d : Document) (main : IsMainAt ds now p d) (same : IsSameBut r p (ds (id.Node p)) d) (unsaid : has_revision (Some d) r ≡ false) where
    wrote : IsWrite ds now p d
    wrote = is_write ds now p d main

    pub besides : IsSameBesides (course_from start past) (λ q. eq_by_cmp revision_cmp q r) p (ds (id.Node p)) d
    besides = record {
      at = λ q h. same.at q h;
      said = λ q h k. same.said q h ∙ k;
      unsaid = λ q e o k. by q k (eq_by_cmp revision_cmp q r) refl;
      whole = same.whole;
      named = same.named;
    }
      where
        by : (q : Revision) → has_revision (ds (id.Node p)) q ≡ false → (b : Bool) → eq_by_cmp revision_cmp q r ≡ b → has_revision (Some d) q ≡ false
        by q k true h = subst (λ (x : Revision). has_revision (Some d) x ≡ false) (sym (same_revision q r h)) unsaid
        by q k false h = same.said q h ∙ k

    kept_goes_on : (f : Path → Bool) → IsPartly now r dr.edit.writes (commit_root dr.marks) f → IsKeptSince start now past (with_progress done r f)
    kept_goes_on f part = record {
      first = world.first;
      keeps = main_keeps ds now (course_from start past) world.keeps (course ds past done world) p d main (λ q. eq_by_cmp revision_cmp q r) (open_of ds past done world r flying uncommitted) besides;
      told = world.told;
      separate = world.separate;
      bounded = world.bounded;
      swept = world.swept;
      partly = λ q e h g n. by q e h g n (eq_by_cmp revision_cmp q r) refl;
    }
      where
        by : (q : Revision) (e : Draw) → draw_of past q ≡ Some e → is_in_flight past q ≡ true → edit_since past q ≡ None → (b : Bool) → eq_by_cmp revision_cmp q r ≡ b → IsPartly now q e.edit.writes (commit_root e.marks) (λ x. cond b (f x) (done q x))
        by q e h g n false k = others_leave ds now p d wrote q e.edit.writes (commit_root e.marks) (done q) (names ds past done world) same.named (same.at q k) (world.partly q e h g n)
        by q e h g n true k =
            let one : q ≡ r = same_revision q r k in
            let same_draw : dr ≡ e = ap (λ o. unwrap_or o dr) (sym drawn ∙ (ap (draw_of past) (sym one) ∙ h)) in
            subst (λ (x : Revision). IsPartly now x e.edit.writes (commit_root e.marks) f) (sym one) (subst (λ (x : Draw). IsPartly now r x.edit.writes (commit_root x.marks) f) same_draw part)

    pub kept_write : IsWrittenAt (Some d) r dr.edit.writes (commit_root dr.marks) p → IsKeptSince start now past (with_progress done r (λ q. eq_by_cmp path_cmp q p || done r q))
    kept_write here = kept_goes_on _ (more_written ds now p d wrote r dr.edit.writes (commit_root dr.marks) (done r) (world.partly r dr drawn flying uncommitted) here)

    pub kept_undo : IsUnwritten (Some d) r → IsKeptSince start now past (with_progress done r (λ q. not (eq_by_cmp path_cmp q p) && done r q))
    kept_undo here = kept_goes_on _ (less_written ds now p d wrote r dr.edit.writes (commit_root dr.marks) (done r) (world.partly r dr drawn flying uncommitted) here)

  -- ---- the same, by the updates of a committer

  module _ (ds now : Documents) (past : Past) (done : Progress) (world : IsKeptSince start ds past done) (r : Revision) (dr : Draw) (drawn : draw_of past r ≡ Some dr) (flying : is_in_flight past r ≡ true) (uncommitted : edit_since past r ≡ None) (p : Path) (op : UpdateOp) (number : ℕ) where
    pub kept_write_op : (marks : List Change) → IsWriteOp op r dr.edit.writes (commit_root dr.marks) p marks → done r p ≡ false → IsMainAt ds now p (after_changes (ds (id.Node p)) op number)
        → IsKeptSince start now past (with_progress done r (λ q. eq_by_cmp path_cmp q p || done r q))
    kept_write_op marks wop new main =
        let clean : IsUnwritten (ds (id.Node p)) r = (world.partly r dr drawn flying uncommitted).left p new in
        let all : list_all (is_entry_of r) op.changes ≡ true = op_all op r dr.edit.writes (commit_root dr.marks) p marks (ds (id.Node p)) number wop (names ds past done world p) clean in
        kept_write ds now past done world r dr drawn flying uncommitted p _ main
        (update_same r p (ds (id.Node p)) op number wop.at (names ds past done world p) all)
        (update_said r (ds (id.Node p)) op number all (unsaid_at ds past done world p r flying uncommitted))
        (op_written op r dr.edit.writes (commit_root dr.marks) p marks (ds (id.Node p)) number wop (names ds past done world p) clean)

    pub kept_undo_op : (d : Document) → ds (id.Node p) ≡ Some d → IsOrderedDocument d → op.changes ≡ change.Undo r ∷ [] → IsMainAt ds now p (after_changes (Some d) op number)
        → IsKeptSince start now past (with_progress done r (λ q. not (eq_by_cmp path_cmp q p) && done r q))
    kept_undo_op d is rise only main =
        let named : d.id ≡ id.Node p = names ds past done world p d is in
        let shape : after_changes (Some d) op number ≡ record (changed d (change.Undo r)) { mod_count = number } = ap (λ (cs : List Change). record (fold changed d cs) { mod_count = number }) only in
        let s : IsSameBut r p (Some d) (changed d (change.Undo r)) = undo_same r p d named rise in
        let same : IsSameBut r p (Some d) (record (changed d (change.Undo r)) { mod_count = number }) =
        record { at = λ q k. record { here = (s.at q k).here; prop = (s.at q k).prop; root = (s.at q k).root }; said = s.said; whole = s.whole; named = s.named } in
        let unsaid : has_revision (Some d) r ≡ false = subst (λ (o : Option Document). has_revision o r ≡ false) is (unsaid_at ds past done world p r flying uncommitted) in
        kept_undo ds now past done world r dr drawn flying uncommitted p (record (changed d (change.Undo r)) { mod_count = number }) (subst (λ (c : Document). IsMainAt ds now p c) shape main)
        (subst (λ (o : Option Document). IsSameBut r p o (record (changed d (change.Undo r)) { mod_count = number })) (sym is) same)
        (undo_said r p d named rise unsaid)
        (record { node = undo_here r p d named rise; prop = λ n. undo_prop r p d named rise n; root = undo_root r p d named rise })

  -- marks and notes alone, as the update of a sweep
  pub kept_mark_op : (ds now : Documents) (past : Past) (done : Progress) → IsKeptSince start ds past done → (p : Path) (op : UpdateOp) (number : ℕ) → op.id ≡ id.Node p → list_all is_marking op.changes ≡ true
      → IsMainAt ds now p (after_changes (ds (id.Node p)) op number) → IsKeptSince start now past done
  kept_mark_op ds now past done world p op number at all main =
      let entries : list_all (is_entry_of the_start) op.changes ≡ true = markings_all the_start op.changes all in
      let d : Document = after_changes (ds (id.Node p)) op number in
      let same : IsSameBut the_start p (ds (id.Node p)) d = update_same the_start p (ds (id.Node p)) op number at (names ds past done world p) entries in
      record {
        first = world.first;
        keeps = main_keeps ds now (course_from start past) world.keeps (course ds past done world) p d main (λ q. false) (λ q h. absurd (false≢true h)) (record {
          at = λ q h. marks_same q p (ds (id.Node p)) op number at all;
          said = λ q h k. update_says the_start q (ds (id.Node p)) op number entries ∙ k;
          unsaid = λ q e o k. update_says the_start q (ds (id.Node p)) op number entries ∙ k;
          whole = same.whole;
          named = same.named;
        });
        told = world.told;
        separate = world.separate;
        bounded = world.bounded;
        swept = world.swept;
        partly = λ q e h g n. others_leave ds now p d (is_write ds now p d main) q e.edit.writes (commit_root e.marks) (done q) (names ds past done world) same.named (marks_same q p (ds (id.Node p)) op number at all) (world.partly q e h g n);
      }

  -- ---- steps that leave the documents of the nodes

  nodes_partly : (ds now : Documents) → ((x : Path) → now (id.Node x) ≡ ds (id.Node x)) → (r : Revision) (ws : List Write) (root : Path) (f : Path → Bool) → IsPartly ds r ws root f → IsPartly now r ws root f
  nodes_partly ds now same r ws root f part = record {
    written_ = λ x k. subst (λ o. IsWrittenAt o r ws root x) (sym (same x)) (part.written_ x k);
    left = λ x k. subst (λ o. IsUnwritten o r) (sym (same x)) (part.left x k);
  }

  pub kept_settings : (ds now : Documents) (past : Past) (done : Progress) → IsKeptSince start ds past done → ((x : Path) → now (id.Node x) ≡ ds (id.Node x)) → ((k : ℕ) (x : Path) → now (id.Prev k x) ≡ ds (id.Prev k x)) → IsKeptSince start now past done
  kept_settings ds now past done world node previous = record {
    first = world.first;
    keeps = others_keep ds now (course_from start past) world.keeps node previous;
    told = world.told;
    separate = world.separate;
    bounded = world.bounded;
    swept = world.swept;
    partly = λ q e h g n. nodes_partly ds now node q e.edit.writes (commit_root e.marks) (done q) (world.partly q e h g n);
  }

  -- a previous document that isn't listed is written or goes
  pub kept_previous : (ds now : Documents) (past : Past) (done : Progress) → IsKeptSince start ds past done → (p : Path) (k : ℕ) → IsPreviousAt ds now p k → IsUnlisted ds p k → IsKeptSince start now past done
  kept_previous ds now past done world p k change unlisted = record {
    first = world.first;
    keeps = previous_keeps ds now (course_from start past) world.keeps p k change unlisted;
    told = world.told;
    separate = world.separate;
    bounded = world.bounded;
    swept = world.swept;
    partly = λ q e h g n. nodes_partly ds now change.node q e.edit.writes (commit_root e.marks) (done q) (world.partly q e h g n);
  }

  -- ---- a split lists what it moved

  module _ (ds now : Documents) (past : Past) (done : Progress) (world : IsKeptSince start ds past done) where
    -- a revision that isn't committed has nothing that is done
    not_done : (q : Revision) → is_in_flight past q ≡ true → edit_since past q ≡ None → is_done (course_from start past) q ≡ false
    not_done q g n = ap (λ o. is_some o || sees start.at q) (found past q ∙ n) ∙ not_old start past world.told q g

    pub kept_moved : (p : Path) (old d : Document) (e : PrevEntry) (x : Document) → ds (id.Node p) ≡ Some old → ds (id.Prev e.number p) ≡ Some x → IsMainAt ds now p d → IsMoved (course_from start past) p old d e x → IsKeptSince start now past done
    kept_moved p old d e x is there main moved = record {
      first = world.first;
      keeps = moved_keeps ds now (course_from start past) world.keeps p old d e x is there main moved;
      told = world.told;
      separate = world.separate;
      bounded = world.bounded;
      swept = world.swept;
      partly = λ q f h g n. others_leave ds now p d (is_write ds now p d main) q f.edit.writes (commit_root f.marks) (done q) (names ds past done world) moved.named (same q g n) (world.partly q f h g n);
    }
      where
        stays : (q : Revision) → is_in_flight past q ≡ true → edit_since past q ≡ None → (n : Name) → of_revision (values_of_property d.props n) q ≡ of_revision (values_of_property old.props n) q
        stays q g none n = by (of_revision (values_of_property d.props n) q) refl ∙ moved.props n q
          where
            nothing : of_revision (values_of_property x.props n) q ≡ None
            nothing = is_none _ (λ v h. false≢true (sym (not_done q g none) ∙ moved.listed.done n q (ap is_some h)))

            by : (o : Option _) → of_revision (values_of_property d.props n) q ≡ o → of_revision (values_of_property d.props n) q ≡ option_or (of_revision (values_of_property d.props n) q) (of_revision (values_of_property x.props n) q)
            by None h = h ∙ sym (ap (λ o. option_or o (of_revision (values_of_property x.props n) q)) h ∙ nothing)
            by (Some v) h = h ∙ sym (ap (λ o. option_or o (of_revision (values_of_property x.props n) q)) h)

        same : (q : Revision) → is_in_flight past q ≡ true → edit_since past q ≡ None → IsSameAt q (ds (id.Node p)) d
        same q g none = record {
          here = ap (λ (es : List (Revision × Bool)). option_map not (of_revision es q)) moved.deleted ∙ sym (ap (λ o. here_entry o q) is);
          prop = λ n. stays q g none n ∙ sym (ap (λ o. prop_entry o n q) is);
          root = ap (λ (es : List (Revision × ℕ)). of_revision es q) moved.roots ∙ sym (ap (λ o. root_entry o q) is);
        }

    -- ---- a collection drops entries of a document, and previous documents from its list

    pub kept_pruned : (p : Path) (old d : Document) → ds (id.Node p) ≡ Some old → IsMainAt ds now p d → IsPruned ds (course_from start past) p old d → IsKeptSince start now past done
    kept_pruned p old d is main pruned = record {
      first = world.first;
      keeps = pruned_keeps ds now (course_from start past) world.keeps (course ds past done world) p old d is main pruned;
      told = world.told;
      separate = world.separate;
      bounded = world.bounded;
      swept = world.swept;
      partly = λ q f h g n. others_leave ds now p d (is_write ds now p d main) q f.edit.writes (commit_root f.marks) (done q) (names ds past done world) pruned.named (same q g n) (world.partly q f h g n);
    }
      where
        left : {X : Type 0} (es l : List (Revision × X)) → Rattle.core_keep.specs.Steps.AreLeft (course_from start past) es l → (q : Revision) → is_in_flight past q ≡ true → of_revision l q ≡ of_revision es q
        left es l a q g = elim (a.each q) [ inl same ↦ same | inr gone ↦ absurd (false≢true (sym (world.bounded.settled q g) ∙ gone.1)) ]

        same : (q : Revision) → is_in_flight past q ≡ true → edit_since past q ≡ None → IsSameAt q (ds (id.Node p)) d
        same q g none = record {
          here = ap (option_map not) (left _ _ pruned.deleted q g) ∙ sym (ap (λ o. here_entry o q) is);
          prop = λ n. left _ _ (pruned.props n) q g ∙ sym (ap (λ o. prop_entry o n q) is);
          root = pruned.roots.kept q (world.swept q g) ∙ sym (ap (λ o. root_entry o q) is);
        }

    -- ---- a collection drops a document of an absent node

    or_first : (a b : Bool) → (a || b) ≡ true → (a ≡ false → b ≡ true → ⊥) → a ≡ true
    or_first true b h f = refl
    or_first false b h f = absurd (f refl h)

    -- an edit that writes at p writes the node or a property
    writes_some : (p : Path) (ws : List Write) → list_any (is_at_path p) ws ≡ true → (is_some (written (here_of p) ws) ≡ true) ⊎ ((n : Name) × (is_some (written (put_of p n) ws) ≡ true))
    writes_some p [] h = absurd (false≢true h)
    writes_some p (w ∷ ws) h = by (either_true (is_at_path p w) (list_any (is_at_path p) ws) h) (λ k. writes_some p ws k)
      where
        or_l : {X : Type 0} (a b : Option X) → is_some a ≡ true → is_some (option_or a b) ≡ true
        or_l None b h = absurd (false≢true h)
        or_l (Some x) b h = refl

        or_r : {X : Type 0} (a b : Option X) → is_some b ≡ true → is_some (option_or a b) ≡ true
        or_r None b h = h
        or_r (Some x) b h = refl

        G : Type 0
        G = (is_some (option_or (written (here_of p) ws) (here_of p w)) ≡ true) ⊎ ((n : Name) × (is_some (option_or (written (put_of p n) ws) (put_of p n w)) ≡ true))

        itself : (n : Name) → eq_by_cmp Rattle.jr_path.specs.Names.name_cmp n n ≡ true
        itself n = ap Rattle.std.specs.Ordering.is_eq (Rattle.std.specs.Cmp.tied_itself Rattle.std.proofs.lemmas.Cmp.nat_list_cmp_total n)

        now_ : (w : Write) → is_at_path p w ≡ true → (is_some (here_of p w) ≡ true) ⊎ ((n : Name) × (is_some (put_of p n w) ≡ true))
        now_ (Here q) k = inl (ap (λ b. is_some (cond b (Some true) None)) k)
        now_ (Gone q) k = inl (ap (λ b. is_some (cond b (Some false) None)) k)
        now_ (Put q m x) k = inr (m, ap (λ b. is_some (cond b (Some (Some x)) None)) (ap (λ b. b && eq_by_cmp Rattle.jr_path.specs.Names.name_cmp m m) k ∙ itself m))
        now_ (Unset q m) k = inr (m, ap (λ b. is_some (cond {A = Option (Option Rattle.jr_value.specs.declared.value.Property.Property)} b (Some None) None)) (ap (λ b. b && eq_by_cmp Rattle.jr_path.specs.Names.name_cmp m m) k ∙ itself m))

        by : (is_at_path p w ≡ true) ⊎ (list_any (is_at_path p) ws ≡ true) → (list_any (is_at_path p) ws ≡ true → (is_some (written (here_of p) ws) ≡ true) ⊎ ((n : Name) × (is_some (written (put_of p n) ws) ≡ true)))
            → (is_some (option_or (written (here_of p) ws) (here_of p w)) ≡ true) ⊎ ((n : Name) × (is_some (option_or (written (put_of p n) ws) (put_of p n w)) ≡ true))
        by (inl k) rest = elim (now_ w k) [ inl m ↦ inl (or_r (written (here_of p) ws) _ m) | inr m ↦ inr (m.0, or_r (written (put_of p m.0) ws) _ m.1) ]
        by (inr k) rest = elim (rest k) [ inl m ↦ inl (or_l _ (here_of p w) m) | inr m ↦ inr (m.0, or_l _ (put_of p m.0 w) m.1) ]

    pub kept_removed : (p : Path) (old : Document) → ds (id.Node p) ≡ Some old → IsChangeAt ds now p → now (id.Node p) ≡ None → IsUnwanted (course_from start past) p old → IsKeptSince start now past done
    kept_removed p old is elsewhere gone unwanted = record {
      first = world.first;
      keeps = removed_keeps ds now (course_from start past) world.keeps (course ds past done world) (downward start past world.told world.separate (bounded_since start past) world.bounded.closed) _ (shows_bound start past world.first world.told world.bounded) p old is elsewhere gone unwanted;
      told = world.told;
      separate = world.separate;
      bounded = world.bounded;
      swept = world.swept;
      partly = λ q f h g n. part q f.edit.writes (commit_root f.marks) (done q) g (world.partly q f h g n);
    }
      where
        no_entry : (q : Revision) → is_in_flight past q ≡ true → HasEntryOf q old → ⊥
        no_entry q g h = false≢true (sym (world.bounded.settled q g) ∙ unwanted.entries q h)

        some_here : (q : Revision) → is_some (here_entry (ds (id.Node p)) q) ≡ true → HasEntryOf q old
        some_here q h = inl (by (of_revision old.deleted q) (sym (ap (λ o. is_some (here_entry o q)) is) ∙ h))
          where
            by : (o : Option Bool) → is_some (option_map not o) ≡ true → is_some o ≡ true
            by None h = h
            by (Some b) h = refl

        some_prop : (q : Revision) (n : Name) → is_some (prop_entry (ds (id.Node p)) n q) ≡ true → HasEntryOf q old
        some_prop q n h = inr (n, sym (ap (λ o. is_some (prop_entry o n q)) is) ∙ h)

        empty : (q : Revision) (ws : List Write) (root : Path) → is_in_flight past q ≡ true → IsWrittenAt (ds (id.Node p)) q ws root p → IsWrittenAt None q ws root p
        empty q ws root g w = record {
          node = sym (is_none _ (λ x h. no_entry q g (some_here q (ap is_some h)))) ∙ w.node;
          prop = λ n. sym (is_none _ (λ x h. no_entry q g (some_prop q n (ap is_some h)))) ∙ w.prop n;
          rooted = λ h. absurd (elim (writes_some p ws h) [ inl k ↦ no_entry q g (some_here q (ap is_some w.node ∙ k)) | inr k ↦ no_entry q g (some_prop q k.0 (ap is_some (w.prop k.0) ∙ k.1)) ]);
        }

        part : (q : Revision) (ws : List Write) (root : Path) (f : Path → Bool) → is_in_flight past q ≡ true → IsPartly ds q ws root f → IsPartly now q ws root f
        part q ws root f g old_part = record { written_ = λ x k. by x (eq_by_cmp path_cmp x p) refl k; left = λ x k. by_left x (eq_by_cmp path_cmp x p) refl k }
          where
            by : (x : Path) (b : Bool) → eq_by_cmp path_cmp x p ≡ b → f x ≡ true → IsWrittenAt (now (id.Node x)) q ws root x
            by x false k h = subst (λ o. IsWrittenAt o q ws root x) (sym (elsewhere.node x k)) (old_part.written_ x h)
            by x true k h = subst (λ (y : Path). IsWrittenAt (now (id.Node y)) q ws root y) (sym (same_path x p k)) (subst (λ o. IsWrittenAt o q ws root p) (sym gone) (empty q ws root g (old_part.written_ p (ap f (sym (same_path x p k)) ∙ h))))

            by_left : (x : Path) (b : Bool) → eq_by_cmp path_cmp x p ≡ b → f x ≡ false → IsUnwritten (now (id.Node x)) q
            by_left x false k h = subst (λ o. IsUnwritten o q) (sym (elsewhere.node x k)) (old_part.left x h)
            by_left x true k h = subst (λ (y : Path). IsUnwritten (now (id.Node y)) q) (sym (same_path x p k)) (subst (λ o. IsUnwritten o q) (sym gone) (record { node = refl; prop = λ n. refl; root = refl }))
