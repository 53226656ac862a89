-- A document with what moved put back has the marks of both.
use Rattle.std.proofs.Common.{◌≡◌, Bool, true, false, cond, ◌⊎◌, inl, inr, Some, Option, List, [], ◌∷◌, ◌++◌, map, fold, refl, sym, ap, subst, ◌∙◌, is_some}
use Rattle.std.specs.List.{flat_map, list_any}
use Rattle.std.specs.Map.{keys_of}
use Rattle.std.specs.Ordering.{eq_by_cmp}
use mathlib.Core.Bool.{false≢true}
use Rattle.jr_path.specs.Names.{name_cmp}
use Rattle.jr_path.specs.declared.name.Name.{Name}
use Rattle.jr_path.specs.declared.path.Path.{Path}
use Rattle.jr_path.specs.declared.path.DocId.TheVariants as id
use Rattle.jr_value.specs.declared.value.Property.{Property}
use Rattle.jr_rev.specs.declared.revision.Revision.{Revision}
use Rattle.jr_rev.specs.Revisions.{is_same}
use Rattle.oak_clash.specs.declared.mark.Mark.{Mark}
use Rattle.oak_clash.specs.declared.mark.Mark.TheVariants.{Exists, Guard, Touch, Prop}
use Rattle.oak_doc.specs.declared.document.Document.{Document}
use Rattle.oak_doc.specs.declared.update.Change.{Change}
use Rattle.oak_doc.specs.declared.update.Change.TheVariants as change
use Rattle.oak_doc.specs.Updates.{changed, document_of, of_revision, values_of_property, Props}
use Rattle.oak_commit.specs.Clashing.{has, has_mark, marked}
use Rattle.core_clash.specs.Views.{In}
use Rattle.oak_commit.specs.Looking.{put_back, whole}
use Rattle.core_clash.specs.Sound.{has_moved, marked_in}
use Rattle.core_clash.proofs.Basics.{is_same_self, or_left, or_right, or_cases, same_name, same_revision}
use Rattle.core_clash.proofs.Documents.{leaves_prop}
use Rattle.core_clash.proofs.Updates.{empty_marks}

-- a list that begins with an entry
has_first : {X : Type 0} (v : Revision × X) (vs : List (Revision × X)) (o : Revision) → has (v ∷ vs) o ≡ true → (o ≡ v.0) ⊎ (has vs o ≡ true)
has_first v vs o = by (is_same o v.0) refl
  where
    by : (b : Bool) → is_same o v.0 ≡ b → is_some (cond b (Some v.1) (of_revision vs o)) ≡ true → (o ≡ v.0) ⊎ (has vs o ≡ true)
    by true t h = inl (same_revision o v.0 t)
    by false f h = inr h

abbrev puts : Name → List (Revision × Option Property) → List Change
puts n vs = map (λ e. change.Prop n e.0 e.1) vs

values_keep : (n : Name) (vs : List (Revision × Option Property)) (d : Document) (o : Revision) (m : Mark) → has_mark d o m ≡ true → has_mark (fold changed d (puts n vs)) o m ≡ true
values_keep n [] d o m h = h
values_keep n (v ∷ vs) d o m h = values_keep n vs (changed d (change.Prop n v.0 v.1)) o m ((leaves_prop d v.0 n v.1).keeps o m h)

values_add : (n : Name) (vs : List (Revision × Option Property)) (d : Document) (o : Revision) → has vs o ≡ true → has_mark (fold changed d (puts n vs)) o (Prop n) ≡ true
values_add n [] d o h = absurd (false≢true h)
values_add n (v ∷ vs) d o h = by (λ k e. values_add n vs e o k) (has_first v vs o h)
  where
    by : (has vs o ≡ true → (e : Document) → has_mark (fold changed e (puts n vs)) o (Prop n) ≡ true) → (o ≡ v.0) ⊎ (has vs o ≡ true) → has_mark (fold changed d (puts n (v ∷ vs))) o (Prop n) ≡ true
    by rest (inl e) = values_keep n vs (changed d (change.Prop n v.0 v.1)) o (Prop n) (subst (λ (x : Revision). has_mark (changed d (change.Prop n v.0 v.1)) x (Prop n) ≡ true) (sym e) ((leaves_prop d v.0 n v.1).adds (Prop n) (inl refl)))
    by rest (inr k) = rest k (changed d (change.Prop n v.0 v.1))

has_later : {X : Type 0} (v : Revision × X) (vs : List (Revision × X)) (o : Revision) → (o ≡ v.0) ⊎ (has vs o ≡ true) → has (v ∷ vs) o ≡ true
has_later v vs o (inl e) = ap (λ b. is_some (cond b (Some v.1) (of_revision vs o))) (subst (λ (x : Revision). is_same o x ≡ true) e (is_same_self o))
has_later v vs o (inr h) = by (is_same o v.0)
  where
    by : (b : Bool) → is_some (cond b (Some v.1) (of_revision vs o)) ≡ true
    by true = refl
    by false = h

values_only : (n : Name) (vs : List (Revision × Option Property)) (d : Document) (o : Revision) (m : Mark) → has_mark (fold changed d (puts n vs)) o m ≡ true → (has_mark d o m ≡ true) ⊎ ((m ≡ Prop n) × (has vs o ≡ true))
values_only n [] d o m h = inl h
values_only n (v ∷ vs) d o m h = by (values_only n vs (changed d (change.Prop n v.0 v.1)) o m h)
  where
    its : (has_mark d o m ≡ true) ⊎ ((o ≡ v.0) × In m (Prop n ∷ [])) → (has_mark d o m ≡ true) ⊎ ((m ≡ Prop n) × (has (v ∷ vs) o ≡ true))
    its (inl k) = inl k
    its (inr (e, inl k)) = inr (k, has_later v vs o (inl e))
    its (inr (e, inr k)) = absurd k

    by : (has_mark (changed d (change.Prop n v.0 v.1)) o m ≡ true) ⊎ ((m ≡ Prop n) × (has vs o ≡ true)) → (has_mark d o m ≡ true) ⊎ ((m ≡ Prop n) × (has (v ∷ vs) o ≡ true))
    by (inl k) = its ((leaves_prop d v.0 n v.1).only o m k)
    by (inr k) = inr (k.0, has_later v vs o (inr k.1))

fold_append : (d : Document) (xs ys : List Change) → fold changed d (xs ++ ys) ≡ fold changed (fold changed d xs) ys
fold_append d [] ys = refl
fold_append d (x ∷ xs) ys = fold_append (changed d x) xs ys

module _ (ps : Props) where
  abbrev all_puts : List Name → List Change
  all_puts ns = flat_map (λ n. puts n (values_of_property ps n)) ns

  names_keep : (ns : List Name) (d : Document) (o : Revision) (m : Mark) → has_mark d o m ≡ true → has_mark (fold changed d (all_puts ns)) o m ≡ true
  names_keep [] d o m h = h
  names_keep (n ∷ ns) d o m h = ap (λ (e : Document). has_mark e o m) (fold_append d (puts n (values_of_property ps n)) (all_puts ns)) ∙ names_keep ns (fold changed d (puts n (values_of_property ps n))) o m (values_keep n (values_of_property ps n) d o m h)

  names_add : (n : Name) (ns : List Name) (d : Document) (o : Revision) → In n ns → has (values_of_property ps n) o ≡ true → has_mark (fold changed d (all_puts ns)) o (Prop n) ≡ true
  names_add n [] d o i h = absurd i
  names_add n (k ∷ ns) d o (inl e) h = ap (λ (x : Document). has_mark x o (Prop n)) (fold_append d (puts k (values_of_property ps k)) (all_puts ns))
      ∙ names_keep ns (fold changed d (puts k (values_of_property ps k))) o (Prop n) (subst (λ (x : Name). has_mark (fold changed d (puts x (values_of_property ps x))) o (Prop n) ≡ true) e (values_add n (values_of_property ps n) d o h))
  names_add n (k ∷ ns) d o (inr i) h = ap (λ (x : Document). has_mark x o (Prop n)) (fold_append d (puts k (values_of_property ps k)) (all_puts ns)) ∙ names_add n ns (fold changed d (puts k (values_of_property ps k))) o i h

  names_only : (ns : List Name) (d : Document) (o : Revision) (m : Mark) → has_mark (fold changed d (all_puts ns)) o m ≡ true → (has_mark d o m ≡ true) ⊎ ((n : Name) × (m ≡ Prop n) × (has (values_of_property ps n) o ≡ true))
  names_only [] d o m h = inl h
  names_only (n ∷ ns) d o m h = by (names_only ns (fold changed d (puts n (values_of_property ps n))) o m (sym (ap (λ (e : Document). has_mark e o m) (fold_append d (puts n (values_of_property ps n)) (all_puts ns))) ∙ h))
    where
      its : (has_mark d o m ≡ true) ⊎ ((m ≡ Prop n) × (has (values_of_property ps n) o ≡ true)) → (has_mark d o m ≡ true) ⊎ ((n : Name) × (m ≡ Prop n) × (has (values_of_property ps n) o ≡ true))
      its (inl k) = inl k
      its (inr k) = inr (n, k.0, k.1)

      by : (has_mark (fold changed d (puts n (values_of_property ps n))) o m ≡ true) ⊎ ((n : Name) × (m ≡ Prop n) × (has (values_of_property ps n) o ≡ true)) → (has_mark d o m ≡ true) ⊎ ((n : Name) × (m ≡ Prop n) × (has (values_of_property ps n) o ≡ true))
      by (inl k) = its (values_only n (values_of_property ps n) d o m k)
      by (inr k) = inr k

-- a property with a value has a name there
name_in : (n : Name) (ps : Props) (o : Revision) → has (values_of_property ps n) o ≡ true → In n (keys_of ps)
name_in n [] o h = absurd (false≢true h)
name_in n (p ∷ ps) o h = by (λ k. name_in n ps o k) (eq_by_cmp name_cmp n p.0) refl h
  where
    by : (has (values_of_property ps n) o ≡ true → In n (keys_of ps)) → (b : Bool) → eq_by_cmp name_cmp n p.0 ≡ b → has (Rattle.std.specs.Option.unwrap_or (cond b (Some p.1) (Rattle.std.specs.Map.lookup (Rattle.std.specs.BTreeMap.is_at (name_cmp n)) ps)) []) o ≡ true → (n ≡ p.0) ⊎ In n (keys_of ps)
    by rest true t k = inl (same_name n p.0 t)
    by rest false f k = inr (rest k)

module _ (p : Path) (o : Revision) where
  put_keeps : (doc : Option Document) (x : Document) (m : Mark) → marked doc o m ≡ true → marked (put_back p doc x) o m ≡ true
  put_keeps doc x m h = names_keep x.props (keys_of x.props) (document_of doc (id.Node p)) o m (empty_marks doc (id.Node p) o m ∙ h)

  put_adds : (doc : Option Document) (x : Document) (m : Mark) → has_moved o m x ≡ true → marked (put_back p doc x) o m ≡ true
  put_adds doc x (Prop n) h = names_add x.props n (keys_of x.props) (document_of doc (id.Node p)) o (name_in n x.props o h) h
  put_adds doc x Exists h = absurd (false≢true h)
  put_adds doc x Guard h = absurd (false≢true h)
  put_adds doc x Touch h = absurd (false≢true h)

  put_from : (doc : Option Document) (x : Document) (m : Mark) → marked (put_back p doc x) o m ≡ true → (marked doc o m ≡ true) ⊎ (has_moved o m x ≡ true)
  put_from doc x m h = by (names_only x.props (keys_of x.props) (document_of doc (id.Node p)) o m h)
    where
      by : (has_mark (document_of doc (id.Node p)) o m ≡ true) ⊎ ((n : Name) × (m ≡ Prop n) × (has (values_of_property x.props n) o ≡ true)) → (marked doc o m ≡ true) ⊎ (has_moved o m x ≡ true)
      by (inl k) = inl (sym (empty_marks doc (id.Node p) o m) ∙ k)
      by (inr (n, e, k)) = inr (subst (λ (l : Mark). has_moved o l x ≡ true) (sym e) k)

  -- the marks of the whole are those of the document and of what moved
  pub whole_to : (doc : Option Document) (xs : List Document) (m : Mark) → marked_in doc xs o m ≡ true → marked (whole p doc xs) o m ≡ true
  whole_to doc [] m h = by (or_cases (marked doc o m) false h)
    where
      by : (marked doc o m ≡ true) ⊎ (false ≡ true) → marked doc o m ≡ true
      by (inl k) = k
      by (inr k) = absurd (false≢true k)
  whole_to doc (x ∷ xs) m h = whole_to (put_back p doc x) xs m (by (or_cases (marked doc o m) _ h))
    where
      more : (has_moved o m x ≡ true) ⊎ (list_any (has_moved o m) xs ≡ true) → marked_in (put_back p doc x) xs o m ≡ true
      more (inl k) = or_left (marked (put_back p doc x) o m) _ (put_adds doc x m k)
      more (inr k) = or_right (marked (put_back p doc x) o m) _ k

      by : (marked doc o m ≡ true) ⊎ (list_any (has_moved o m) (x ∷ xs) ≡ true) → marked_in (put_back p doc x) xs o m ≡ true
      by (inl k) = or_left (marked (put_back p doc x) o m) _ (put_keeps doc x m k)
      by (inr k) = more (or_cases (has_moved o m x) _ k)

  pub whole_from : (doc : Option Document) (xs : List Document) (m : Mark) → marked (whole p doc xs) o m ≡ true → marked_in doc xs o m ≡ true
  whole_from doc [] m h = or_left (marked doc o m) _ h
  whole_from doc (x ∷ xs) m h = by (or_cases (marked (put_back p doc x) o m) _ (whole_from (put_back p doc x) xs m h))
    where
      first : (marked doc o m ≡ true) ⊎ (has_moved o m x ≡ true) → marked_in doc (x ∷ xs) o m ≡ true
      first (inl k) = or_left (marked doc o m) _ k
      first (inr k) = or_right (marked doc o m) _ (or_left (has_moved o m x) _ k)

      by : (marked (put_back p doc x) o m ≡ true) ⊎ (list_any (has_moved o m) xs ≡ true) → marked_in doc (x ∷ xs) o m ≡ true
      by (inl k) = first (put_from doc x m k)
      by (inr k) = or_right (marked doc o m) _ (or_right (has_moved o m x) _ k)

-- what moved stays where the document keeps its own
pub marked_carry : (a b : Option Document) (xs : List Document) (o : Revision) (m : Mark) → (marked a o m ≡ true → marked b o m ≡ true) → marked_in a xs o m ≡ true → marked_in b xs o m ≡ true
marked_carry a b xs o m keep h = by (or_cases (marked a o m) _ h)
  where
    by : (marked a o m ≡ true) ⊎ (list_any (has_moved o m) xs ≡ true) → marked_in b xs o m ≡ true
    by (inl k) = or_left (marked b o m) _ (keep k)
    by (inr k) = or_right (marked b o m) _ k
