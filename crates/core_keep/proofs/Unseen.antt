-- Of revisions that a bound doesn't see, a collection leaves all: so marks stand for those that a base doesn't see.
use Rattle.std.proofs.Common.{◌≡◌, ℕ, Bool, true, false, cond, ◌&&◌, Some, None, Option, List, ◌++◌, map, refl, sym, ap, ◌∙◌, subst, is_some}
use Rattle.std.specs.Map.{keys_of}
use Rattle.std.specs.FinMap.{is_sorted}
use Rattle.std.specs.List.{fold, flat_map, list_all}
use mathlib.Core.Bool.{false≢true}
use Rattle.jr_path.specs.Names.{name_cmp}
use Rattle.jr_path.specs.declared.name.Name.{Name}
use Rattle.jr_path.specs.declared.path.Path.{Path}
use Rattle.jr_value.specs.declared.value.Property.{Property}
use Rattle.jr_rev.specs.declared.revision.Revision.{Revision}
use Rattle.jr_rev.specs.declared.vector.RevVec.{RevVec}
use Rattle.jr_rev.specs.Revisions.{is_same}
use Rattle.jr_rev.specs.Vectors.{sees}
use Rattle.oak_doc.specs.declared.document.Document.{Document}
use Rattle.oak_doc.specs.declared.update.EntryKey.{EntryKey}
use Rattle.oak_doc.specs.declared.update.Field.{Field}
use Rattle.oak_doc.specs.declared.update.Field.TheVariants as field
use Rattle.oak_doc.specs.declared.update.Change.{Change}
use Rattle.oak_doc.specs.declared.update.Change.TheVariants as change
use Rattle.oak_doc.specs.declared.update.UpdateOp.{UpdateOp}
use Rattle.oak_doc.specs.Updates.{of_revision, values_of_property, pruned, changed, after_changes}
use Rattle.oak_read.specs.Meaning.{Documents}
use Rattle.core_read.specs.Told.{IsIn}
use Rattle.core_read.specs.Writes.{IsOrderedDocument}
use Rattle.core_read.proofs.Latest.{same_revision}
use Rattle.core_keep.specs.Garbage.{revisions_kept, is_absent, is_superseded, are_superseded, is_garbage_document, is_garbage_previous}
use Rattle.core_keep.specs.Dropping.{is_garbage_of, DropsGarbage, IsLeftAlone, IsWithout, IsSaidStill, IsDocumentWithin}
use Rattle.core_keep.proofs.Item.{and_both, is_none, not_true}
use Rattle.core_keep.proofs.Garbage.{without_at, key, by_keys, after_keys, hit_by, unlisted_from, IsUnlistedFrom, drops_deleted, drops_root, drops_status, drops_value, one_deleted, one_root, one_status, one_value, same_parts, sorted_keys, deleted_garbage, root_garbage, status_garbage, value_garbage, over, all_of, key_in, property_in, in_append_first, in_append_second, in_flat}

abbrev pub drops_collision : Field → Revision → Revision → Bool
drops_collision field.Collisions r q = is_same q r
drops_collision _ r q = false

pub one_collision : (f : Field) (r : Revision) (d : Document) → is_sorted name_cmp d.props ≡ true → (q : Revision) → of_revision (pruned d (key f r)).collisions q ≡ cond (drops_collision f r q) None (of_revision d.collisions q)
one_collision field.Deleted r d s q = refl
one_collision field.CommitRoot r d s q = refl
one_collision field.Revisions r d s q = refl
one_collision field.Collisions r d s q = without_at r q d.collisions
one_collision field.Touched r d s q = refl
one_collision field.Guard r d s q = refl
one_collision (field.Prop n) r d s q = refl

abbrev pub drops_touch : Field → Revision → Revision → Bool
drops_touch field.Touched r q = is_same q r
drops_touch _ r q = false

pub one_touch : (f : Field) (r : Revision) (d : Document) → is_sorted name_cmp d.props ≡ true → (q : Revision) → of_revision (pruned d (key f r)).touched q ≡ cond (drops_touch f r q) None (of_revision d.touched q)
one_touch field.Deleted r d s q = refl
one_touch field.CommitRoot r d s q = refl
one_touch field.Revisions r d s q = refl
one_touch field.Collisions r d s q = refl
one_touch field.Touched r d s q = without_at r q d.touched
one_touch field.Guard r d s q = refl
one_touch (field.Prop n) r d s q = refl

abbrev pub drops_guarding : Field → Revision → Revision → Bool
drops_guarding field.Guard r q = is_same q r
drops_guarding _ r q = false

pub one_guarding : (f : Field) (r : Revision) (d : Document) → is_sorted name_cmp d.props ≡ true → (q : Revision) → of_revision (pruned d (key f r)).guard q ≡ cond (drops_guarding f r q) None (of_revision d.guard q)
one_guarding field.Deleted r d s q = refl
one_guarding field.CommitRoot r d s q = refl
one_guarding field.Revisions r d s q = refl
one_guarding field.Collisions r d s q = refl
one_guarding field.Touched r d s q = refl
one_guarding field.Guard r d s q = without_at r q d.guard
one_guarding (field.Prop n) r d s q = refl

module _ (ds : Documents) (p : Path) (m t : RevVec) (below : (r : Revision) → sees t r ≡ true → sees m r ≡ true) (old : Document) (op : UpdateOp) (number : ℕ) (keys : List EntryKey) (ns : List ℕ) (rise : IsOrderedDocument old) (garbage : DropsGarbage ds m t p old op keys ns) where
  collision_garbage : (f : Field) (r q : Revision) → is_garbage_of m t old f r ≡ true → drops_collision f r q ≡ true → sees m q ≡ true
  collision_garbage field.Collisions r q g h = subst (λ (x : Revision). sees m x ≡ true) (sym (same_revision q r h)) g
  collision_garbage field.Deleted r q g h = absurd (false≢true h)
  collision_garbage field.CommitRoot r q g h = absurd (false≢true h)
  collision_garbage field.Revisions r q g h = absurd (false≢true h)
  collision_garbage field.Touched r q g h = absurd (false≢true h)
  collision_garbage field.Guard r q g h = absurd (false≢true h)
  collision_garbage (field.Prop n) r q g h = absurd (false≢true h)

  touch_garbage : (f : Field) (r q : Revision) → is_garbage_of m t old f r ≡ true → drops_touch f r q ≡ true → sees m q ≡ true
  touch_garbage field.Touched r q g h = subst (λ (x : Revision). sees m x ≡ true) (sym (same_revision q r h)) g
  touch_garbage field.Deleted r q g h = absurd (false≢true h)
  touch_garbage field.CommitRoot r q g h = absurd (false≢true h)
  touch_garbage field.Revisions r q g h = absurd (false≢true h)
  touch_garbage field.Collisions r q g h = absurd (false≢true h)
  touch_garbage field.Guard r q g h = absurd (false≢true h)
  touch_garbage (field.Prop n) r q g h = absurd (false≢true h)

  guarding_garbage : (f : Field) (r q : Revision) → is_garbage_of m t old f r ≡ true → drops_guarding f r q ≡ true → sees m q ≡ true
  guarding_garbage field.Guard r q g h = subst (λ (x : Revision). sees m x ≡ true) (sym (same_revision q r h)) g
  guarding_garbage field.Deleted r q g h = absurd (false≢true h)
  guarding_garbage field.CommitRoot r q g h = absurd (false≢true h)
  guarding_garbage field.Revisions r q g h = absurd (false≢true h)
  guarding_garbage field.Collisions r q g h = absurd (false≢true h)
  guarding_garbage field.Touched r q g h = absurd (false≢true h)
  guarding_garbage (field.Prop n) r q g h = absurd (false≢true h)

  abbrev mid : Document
  mid = fold pruned old keys

  abbrev final : Document
  final = after_changes (Some old) op number

  abbrev last : Document
  last = fold changed mid (map change.Unlist ns)

  shape : final ≡ record last { mod_count = number }
  shape = ap (λ (cs : List Change). record (fold changed old cs) { mod_count = number }) garbage.changes

  from : IsUnlistedFrom ns mid last
  from = unlisted_from ns mid

  -- a key drops nothing that the bound doesn't see
  alone : (hit : Field → Revision → Revision → Bool) → ((f : Field) (r q : Revision) → is_garbage_of m t old f r ≡ true → hit f r q ≡ true → sees m q ≡ true) → (q : Revision) → sees m q ≡ false → by_keys hit keys q ≡ false
  alone hit seen q unseen = not_true _ (λ h. let k = hit_by hit keys q h in false≢true (sym unseen ∙ seen k.0.field k.0.revision q (garbage.entries k.0 k.1) k.2))

  stays : {X : Type 0} (get : Document → List (Revision × X)) (hit : Field → Revision → Revision → Bool) → ((f : Field) (r : Revision) (d : Document) → is_sorted name_cmp d.props ≡ true → (q : Revision) → of_revision (get (pruned d (key f r))) q ≡ cond (hit f r q) None (of_revision (get d) q))
      → ((f : Field) (r q : Revision) → is_garbage_of m t old f r ≡ true → hit f r q ≡ true → sees m q ≡ true) → (q : Revision) → sees m q ≡ false → of_revision (get mid) q ≡ of_revision (get old) q
  stays get hit one seen q unseen = after_keys get hit one keys old rise.names q ∙ ap (λ b. cond b None (of_revision (get old) q)) (alone hit seen q unseen)

  -- what a bound doesn't see is left alone
  pub unseen_left : (q : Revision) → sees m q ≡ false → IsLeftAlone q old final
  unseen_left q unseen = record {
    deleted = ap (λ (d : Document). of_revision d.deleted q) shape ∙ (ap (λ (es : List (Revision × Bool)). of_revision es q) from.deleted ∙ stays (λ d. d.deleted) drops_deleted one_deleted (λ f r q g h. (over m t old.deleted q (deleted_garbage m t old f r q g h)).0) q unseen);
    roots = ap (λ (d : Document). of_revision d.commit_root q) shape ∙ (ap (λ (es : List (Revision × ℕ)). of_revision es q) from.roots ∙ stays (λ d. d.commit_root) drops_root one_root (λ f r q g h. below q (root_garbage m t old f r q g h)) q unseen);
    revisions = ap (λ (d : Document). of_revision d.revisions q) shape ∙ (ap (λ es. of_revision es q) from.revisions ∙ stays (λ d. d.revisions) drops_status one_status (λ f r q g h. below q (status_garbage m t old f r q g h)) q unseen);
    collisions = ap (λ (d : Document). of_revision d.collisions q) shape ∙ (ap (λ es. of_revision es q) from.collisions ∙ stays (λ d. d.collisions) drops_collision one_collision collision_garbage q unseen);
    touched = ap (λ (d : Document). of_revision d.touched q) shape ∙ (ap (λ es. of_revision es q) from.touched ∙ stays (λ d. d.touched) drops_touch one_touch touch_garbage q unseen);
    guard = ap (λ (d : Document). of_revision d.guard q) shape ∙ (ap (λ es. of_revision es q) from.guard ∙ stays (λ d. d.guard) drops_guarding one_guarding guarding_garbage q unseen);
    props = λ n. ap (λ (d : Document). of_revision (values_of_property d.props n) q) shape ∙ (ap (λ ps. of_revision (values_of_property ps n) q) from.props
        ∙ stays (λ d. values_of_property d.props n) (drops_value n) (one_value n) (λ f r q g h. (over m t (values_of_property old.props n) q (value_garbage m t old n f r q g h)).0) q unseen);
  }

  -- of what the sweep vector doesn't see the note and the status stay
  unswept : (hit : Field → Revision → Revision → Bool) → ((f : Field) (r q : Revision) → is_garbage_of m t old f r ≡ true → hit f r q ≡ true → sees t q ≡ true) → (q : Revision) → sees t q ≡ false → by_keys hit keys q ≡ false
  unswept hit seen q unseen = not_true _ (λ h. let k = hit_by hit keys q h in false≢true (sym unseen ∙ seen k.0.field k.0.revision q (garbage.entries k.0 k.1) k.2))

  pub unswept_left : (q : Revision) → sees t q ≡ false → IsSaidStill q old final
  unswept_left q unseen = record {
    roots = ap (λ (d : Document). of_revision d.commit_root q) shape ∙ (ap (λ (es : List (Revision × ℕ)). of_revision es q) from.roots
        ∙ (after_keys (λ d. d.commit_root) drops_root one_root keys old rise.names q ∙ ap (λ b. cond b None (of_revision old.commit_root q)) (unswept drops_root (root_garbage m t old) q unseen)));
    revisions = ap (λ (d : Document). of_revision d.revisions q) shape ∙ (ap (λ es. of_revision es q) from.revisions
        ∙ (after_keys (λ d. d.revisions) drops_status one_status keys old rise.names q ∙ ap (λ b. cond b None (of_revision old.revisions q)) (unswept drops_status (status_garbage m t old) q unseen)));
  }

  -- what is left was there
  was : {X : Type 0} (b : Bool) (o : Option X) (x : X) → cond b None o ≡ Some x → o ≡ Some x
  was true o x h = absurd (false≢true (ap is_some h))
  was false o x h = h

  was_some : {X : Type 0} (b : Bool) (o : Option X) → is_some (cond b None o) ≡ true → is_some o ≡ true
  was_some true o h = absurd (false≢true h)
  was_some false o h = h

  pub left_within : IsDocumentWithin old final
  left_within = record {
    deleted = λ q h. was_some (by_keys drops_deleted keys q) _ (sym (ap is_some (ap (λ (d : Document). of_revision d.deleted q) shape ∙ (ap (λ (es : List (Revision × Bool)). of_revision es q) from.deleted ∙ after_keys (λ d. d.deleted) drops_deleted one_deleted keys old rise.names q))) ∙ h);
    roots = λ q h. was_some (by_keys drops_root keys q) _ (sym (ap is_some (ap (λ (d : Document). of_revision d.commit_root q) shape ∙ (ap (λ (es : List (Revision × ℕ)). of_revision es q) from.roots ∙ after_keys (λ d. d.commit_root) drops_root one_root keys old rise.names q))) ∙ h);
    revisions = λ q h. was_some (by_keys drops_status keys q) _ (sym (ap is_some (ap (λ (d : Document). of_revision d.revisions q) shape ∙ (ap (λ es. of_revision es q) from.revisions ∙ after_keys (λ d. d.revisions) drops_status one_status keys old rise.names q))) ∙ h);
    collisions = λ q x h. was (by_keys drops_collision keys q) _ x (sym (ap (λ (d : Document). of_revision d.collisions q) shape ∙ (ap (λ es. of_revision es q) from.collisions ∙ after_keys (λ d. d.collisions) drops_collision one_collision keys old rise.names q)) ∙ h);
    touched = λ q h. was_some (by_keys drops_touch keys q) _ (sym (ap is_some (ap (λ (d : Document). of_revision d.touched q) shape ∙ (ap (λ es. of_revision es q) from.touched ∙ after_keys (λ d. d.touched) drops_touch one_touch keys old rise.names q))) ∙ h);
    guard = λ q h. was_some (by_keys drops_guarding keys q) _ (sym (ap is_some (ap (λ (d : Document). of_revision d.guard q) shape ∙ (ap (λ es. of_revision es q) from.guard ∙ after_keys (λ d. d.guard) drops_guarding one_guarding keys old rise.names q))) ∙ h);
    props = λ n q h. was_some (by_keys (drops_value n) keys q) _ (sym (ap is_some (ap (λ (d : Document). of_revision (values_of_property d.props n) q) shape ∙ (ap (λ ps. of_revision (values_of_property ps n) q) from.props ∙ after_keys (λ d. values_of_property d.props n) (drops_value n) (one_value n) keys old rise.names q))) ∙ h);
    named = ap (λ (d : Document). d.id) shape ∙ (from.names ∙ (same_parts keys old).1);
    names = ap (λ (d : Document). is_sorted name_cmp d.props) shape ∙ (ap (λ ps. is_sorted name_cmp ps) from.props ∙ sorted_keys keys old rise.names);
  }

-- a document that goes has nothing that the bound doesn't see
pub garbage_without : (m t : RevVec) (old : Document) → is_garbage_document m t old ≡ true → (q : Revision) → sees m q ≡ false → IsWithout q old
garbage_without m t old garbage q unseen = record {
  deleted = none old.deleted (λ i. in_append_first q _ _ (in_append_first q _ _ (in_append_first q _ _ (in_append_first q _ _ (in_append_first q _ _ (in_append_first q _ _ i))))));
  roots = none old.commit_root (λ i. in_append_first q _ _ (in_append_first q _ _ (in_append_first q _ _ (in_append_first q _ _ (in_append_first q _ _ (in_append_second q (keys_of old.deleted) _ i))))));
  revisions = none old.revisions (λ i. in_append_first q _ _ (in_append_first q _ _ (in_append_first q _ _ (in_append_first q _ _ (in_append_second q (keys_of old.deleted ++ keys_of old.commit_root) _ i)))));
  collisions = none old.collisions (λ i. in_append_first q _ _ (in_append_first q _ _ (in_append_first q _ _ (in_append_second q (keys_of old.deleted ++ keys_of old.commit_root ++ keys_of old.revisions) _ i))));
  touched = none old.touched (λ i. in_append_first q _ _ (in_append_first q _ _ (in_append_second q (keys_of old.deleted ++ keys_of old.commit_root ++ keys_of old.revisions ++ keys_of old.collisions) _ i)));
  guard = none old.guard (λ i. in_append_first q _ _ (in_append_second q (keys_of old.deleted ++ keys_of old.commit_root ++ keys_of old.revisions ++ keys_of old.collisions ++ keys_of old.touched) _ i));
  props = λ n. is_none _ (λ v h.
      let f = property_in n old.props q (ap is_some h) in
      false≢true (sym unseen ∙ seen q (in_append_second q (keys_of old.deleted ++ keys_of old.commit_root ++ keys_of old.revisions ++ keys_of old.collisions ++ keys_of old.touched ++ keys_of old.guard) (flat_map (λ p. keys_of p.1) old.props)
      (in_flat (λ p. keys_of p.1) old.props f.0 q f.1 (subst (λ (es : List (Revision × Option Property)). IsIn q (keys_of es)) (sym f.3) (key_in (values_of_property old.props n) q (ap is_some h)))))));
}
  where
    seen : (r : Revision) → IsIn r (revisions_kept old) → sees m r ≡ true
    seen = all_of (sees m) (revisions_kept old) (and_both (is_absent m t old) _ (and_both (is_absent m t old && list_all (sees m) (revisions_kept old)) _ garbage).0).1

    none : {X : Type 0} (es : List (Revision × X)) → (IsIn q (keys_of es) → IsIn q (revisions_kept old)) → of_revision es q ≡ None
    none es inside = is_none _ (λ x h. false≢true (sym unseen ∙ seen q (inside (key_in es q (ap is_some h)))))

-- a previous document that is garbage has no entry that the bound doesn't see
pub previous_seen : (m t : RevVec) (old x : Document) → is_garbage_previous m t old x ≡ true → (n : Name) (q : Revision) → is_some (of_revision (values_of_property x.props n) q) ≡ true → sees m q ≡ true
previous_seen m t old x garbage n q h =
    let f = property_in n x.props q h in
    let sup = all_of (are_superseded m t old) x.props (and_both (list_all (λ e. sees t e.0) x.commit_root) _ garbage).1 f.0 f.1 in
    (and_both (sees m q) _ (all_of (is_superseded m t (keys_of (values_of_property old.props f.0.0) ++ keys_of f.0.1)) (keys_of f.0.1) sup q (key_in f.0.1 q (subst (λ (es : List (Revision × Option Property)). is_some (of_revision es q) ≡ true) (sym f.3) h)))).0
