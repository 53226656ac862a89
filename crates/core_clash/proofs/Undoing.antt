-- The undoing of a document leaves no entry of its revision, and each of others.
use Rattle.std.proofs.Common.{◌≡◌, ℕ, true, false, cond, not, nat_eq, length, ◌⊎◌, inl, inr, Some, None, Option, List, [], ◌∷◌, refl, sym, ap, subst, ◌∙◌, is_some}
use mathlib.Core.Bool.{false≢true}
use Rattle.std.specs.FinMap.{is_sorted}
use Rattle.std.specs.FinMap.Entries.{below_all}
use Rattle.jr_path.specs.Names.{name_cmp}
use Rattle.jr_path.specs.declared.name.Name.{Name}
use Rattle.jr_path.specs.declared.path.Path.{Path}
use Rattle.jr_path.specs.declared.path.DocId.TheVariants as id
use Rattle.jr_value.specs.declared.value.Property.{Property}
use Rattle.jr_rev.specs.declared.revision.Revision.{Revision}
use Rattle.jr_rev.specs.Revisions.{is_same}
use Rattle.oak_clash.specs.declared.mark.Mark.{Mark}
use Rattle.oak_clash.specs.declared.mark.Mark.TheVariants.{Exists, Guard, Touch, Prop}
use Rattle.oak_doc.specs.declared.document.Document.{Document}
use Rattle.oak_doc.specs.Updates.{without_revision, props_without_revision, updated, after_changes, Props}
use Rattle.oak_commit.specs.Clashing.{has, has_mark, marked, noted, collision, undo_op}
use Rattle.core_read.specs.Holds.{root_entry}
use Rattle.core_read.proofs.Entries.{first, second, both}
use Rattle.core_read.proofs.Updates.{other_without, own_without, undo_same, undo_prop}
use Rattle.core_clash.specs.Views.{AreOrdered}
use Rattle.core_clash.specs.Core.{Docs, docs_after}
use Rattle.core_clash.specs.Sound.{IsRooted}
use Rattle.core_clash.proofs.Basics.{at_document, decide, document_there, not_both}
use Rattle.core_clash.proofs.Effects.{Undoes}
use Rattle.core_clash.proofs.Updates.{rooted_still}

-- names stay in order where values go
below_without : (r : Revision) (x : Name) (ps : Props) → below_all name_cmp x ps ≡ true → below_all name_cmp x (props_without_revision r ps) ≡ true
below_without r x [] h = refl
below_without r x (e ∷ ps) h =
    elim (not (nat_eq (length (without_revision r e.1)) 0)) as (λ b. below_all name_cmp x (cond b ((e.0, without_revision r e.1) ∷ props_without_revision r ps) (props_without_revision r ps)) ≡ true) [
      | true ↦ both _ _ (first _ _ h) (below_without r x ps (second _ _ h))
      | false ↦ below_without r x ps (second _ _ h)
    ]

names_without : (r : Revision) (ps : Props) → is_sorted name_cmp ps ≡ true → is_sorted name_cmp (props_without_revision r ps) ≡ true
names_without r [] h = refl
names_without r (e ∷ ps) h =
    elim (not (nat_eq (length (without_revision r e.1)) 0)) as (λ b. is_sorted name_cmp (cond b ((e.0, without_revision r e.1) ∷ props_without_revision r ps) (props_without_revision r ps)) ≡ true) [
      | true ↦ both _ _ (below_without r e.0 ps (first _ _ h)) (names_without r ps (second _ _ h))
      | false ↦ names_without r ps (second _ _ h)
    ]

module _ (r : Revision) (p : Path) (d : Document) (ordered : AreOrdered p (Some d)) (number : ℕ) where
  abbrev e : Document
  e = after_changes (Some d) (undo_op r p) number

  undo_ordered : AreOrdered p (Some e)
  undo_ordered = (ordered.0, record { names = names_without r d.props ordered.1.names })

  has_same : {X : Type 0} (x : Revision) (es : List (Revision × X)) → is_same x r ≡ false → has (without_revision r es) x ≡ has es x
  has_same x es f = ap (λ (o : Option _). is_some o) (other_without r x f es)

  has_gone : {X : Type 0} (es : List (Revision × X)) → has (without_revision r es) r ≡ false
  has_gone es = ap (λ (o : Option _). is_some o) (own_without r es)

  -- the marks of others are as they were
  mark_same : (x : Revision) (m : Mark) → is_same x r ≡ false → has_mark e x m ≡ has_mark d x m
  mark_same x Exists f = has_same x d.deleted f
  mark_same x Guard f = has_same x d.guard f
  mark_same x Touch f = has_same x d.touched f
  mark_same x (Prop n) f = ap (λ (o : Option (Option Property)). is_some o) (((undo_same r p d ordered.0 ordered.1).at x f).prop n)

  mark_gone : (m : Mark) → has_mark e r m ≡ false
  mark_gone Exists = has_gone d.deleted
  mark_gone Guard = has_gone d.guard
  mark_gone Touch = has_gone d.touched
  mark_gone (Prop n) = ap (λ (o : Option (Option Property)). is_some o) (undo_prop r p d ordered.0 ordered.1 n)

  undo_keeps : (x : Revision) (m : Mark) → has_mark d x m ≡ true → (x ≡ r) ⊎ (has_mark e x m ≡ true)
  undo_keeps x m h = by (decide x r)
    where
      by : (x ≡ r) ⊎ (is_same x r ≡ false) → (x ≡ r) ⊎ (has_mark e x m ≡ true)
      by (inl k) = inl k
      by (inr f) = inr (mark_same x m f ∙ h)

  undo_only : (x : Revision) (m : Mark) → has_mark e x m ≡ true → has_mark d x m ≡ true
  undo_only x m h = by (decide x r)
    where
      by : (x ≡ r) ⊎ (is_same x r ≡ false) → has_mark d x m ≡ true
      by (inl k) = not_both (has_mark e r m) (subst (λ (y : Revision). has_mark e y m ≡ true) k h) (mark_gone m)
      by (inr f) = sym (mark_same x m f) ∙ h

  note_keeps : (x : Revision) → has d.revisions x ≡ true → (x ≡ r) ⊎ (has e.revisions x ≡ true)
  note_keeps x h = by (decide x r)
    where
      by : (x ≡ r) ⊎ (is_same x r ≡ false) → (x ≡ r) ⊎ (has e.revisions x ≡ true)
      by (inl k) = inl k
      by (inr f) = inr (has_same x d.revisions f ∙ h)

  -- an entry that is left was there
  left_there : {X : Type 0} (x : Revision) (es : List (Revision × X)) → has (without_revision r es) x ≡ true → has es x ≡ true
  left_there x es h = by (decide x r)
    where
      by : (x ≡ r) ⊎ (is_same x r ≡ false) → has es x ≡ true
      by (inl k) = not_both (has (without_revision r es) r) (subst (λ (y : Revision). has (without_revision r es) y ≡ true) k h) (has_gone es)
      by (inr f) = sym (has_same x es f) ∙ h

  root_keeps : (x : Revision) (root : Path) → IsRooted (Some d) x root → (x ≡ r) ⊎ IsRooted (Some e) x root
  root_keeps x root h = by (decide x r)
    where
      by : (x ≡ r) ⊎ (is_same x r ≡ false) → (x ≡ r) ⊎ IsRooted (Some e) x root
      by (inl k) = inl k
      by (inr f) = inr (rooted_still (Some d) (id.Node p) e x root refl (other_without r x f d.commit_root) h)

-- the documents after the undoing of one
pub undoes : (a : Docs) (p : Path) (r : Revision) (number : ℕ) → AreOrdered p (a p) → Undoes a (docs_after a p (updated (a p) (undo_op r p) number)) p r
undoes a p r number = by (a p) refl
  where
    here : {A : Type 0} (q x : _) → q ≡ p → (x ≡ r) ⊎ A → ((q ≡ p) × (x ≡ r)) ⊎ A
    here q x e (inl h) = inl (e, h)
    here q x e (inr h) = inr h

    by : (doc : Option Document) → a p ≡ doc → AreOrdered p doc → Undoes a (docs_after a p (updated doc (undo_op r p) number)) p r
    by None is o = record {
      ordered = λ q h. h;
      keeps = λ q x m h. inr h;
      only = λ q x m h. h;
      gone = λ m h. false≢true (subst (λ (doc : Option Document). marked doc r m ≡ true) is h);
      keeps_notes = λ q x h. inr h;
      only_notes = λ q x h. h;
      collisions = λ q x. refl;
      keeps_roots = λ q x root h. inr h;
      only_roots = λ q x h. h;
      gone_root = λ h. false≢true (subst (λ (doc : Option Document). is_some (root_entry doc r) ≡ true) is h);
    }
    by (Some d) is o =
        let e : Document = after_changes (Some d) (undo_op r p) number in
        record {
          ordered = λ q. at_document (λ y doc. AreOrdered y (a y) → AreOrdered y doc) a p e q (λ h. undo_ordered r p d o number) (λ h. h);
          keeps = λ q x m. at_document (λ y doc. marked (a y) x m ≡ true → ((y ≡ p) × (x ≡ r)) ⊎ (marked doc x m ≡ true)) a p e q (λ h. here p x refl (undo_keeps r p d o number x m (subst (λ (doc : Option Document). marked doc x m ≡ true) is h))) (λ h. inr h);
          only = λ q x m. at_document (λ y doc. marked doc x m ≡ true → marked (a y) x m ≡ true) a p e q (λ h. subst (λ (doc : Option Document). marked doc x m ≡ true) (sym is) (undo_only r p d o number x m h)) (λ h. h);
          gone = λ m h. not_both (has_mark e r m) (subst (λ (doc : Option Document). marked doc r m ≡ true) (document_there a p e) h) (mark_gone r p d o number m);
          keeps_notes = λ q x. at_document (λ y doc. noted (a y) x ≡ true → (x ≡ r) ⊎ (noted doc x ≡ true)) a p e q (λ h. note_keeps r p d o number x (subst (λ (doc : Option Document). noted doc x ≡ true) is h)) (λ h. inr h);
          only_notes = λ q x. at_document (λ y doc. noted doc x ≡ true → noted (a y) x ≡ true) a p e q (λ h. subst (λ (doc : Option Document). noted doc x ≡ true) (sym is) (left_there r p d o number x d.revisions h)) (λ h. h);
          collisions = λ q x. at_document (λ y doc. collision doc x ≡ collision (a y) x) a p e q (ap (λ (doc : Option Document). collision doc x) (sym is)) refl;
          keeps_roots = λ q x root. at_document (λ y doc. IsRooted (a y) x root → ((y ≡ p) × (x ≡ r)) ⊎ IsRooted doc x root) a p e q (λ h. here p x refl (root_keeps r p d o number x root (subst (λ (doc : Option Document). IsRooted doc x root) is h))) (λ h. inr h);
          only_roots = λ q x. at_document (λ y doc. is_some (root_entry doc x) ≡ true → is_some (root_entry (a y) x) ≡ true) a p e q (λ h. subst (λ (doc : Option Document). is_some (root_entry doc x) ≡ true) (sym is) (left_there r p d o number x d.commit_root h)) (λ h. h);
          gone_root = λ h. not_both (is_some (root_entry (Some e) r)) (subst (λ (doc : Option Document). is_some (root_entry doc r) ≡ true) (document_there a p e) h) (has_gone r p d o number d.commit_root);
        }
