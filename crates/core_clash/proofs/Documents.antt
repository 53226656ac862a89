-- What the changes of a write leave in a document.
use Rattle.std.proofs.Common.{◌≡◌, ℕ, Bool, true, false, cond, ◌||◌, ◌⊎◌, inl, inr, Some, None, Option, List, [], ◌∷◌, ◌++◌, map, refl, sym, ap, subst, ◌∙◌, is_some, fold, filter}
use Rattle.std.specs.List.{flat_map}
use Rattle.std.specs.Option.{option_map_or}
use Rattle.std.specs.Ordering.{eq_by_cmp}
use mathlib.Core.Bool.{false≢true}
use Rattle.std.specs.FinMap.{is_sorted}
use Rattle.jr_path.specs.Names.{name_cmp, path_cmp, parent_of}
use Rattle.jr_path.specs.declared.name.Name.{Name}
use Rattle.jr_path.specs.declared.path.Path.{Path}
use Rattle.jr_path.proofs.Maps.{lookup-insert_entry}
use Rattle.jr_value.specs.declared.value.Property.{Property}
use Rattle.jr_rev.specs.declared.revision.Revision.{Revision}
use Rattle.jr_rev.specs.Revisions.{revision_cmp, is_same}
use Rattle.jr_rev.proofs.Order.{revision_total}
use Rattle.jr_tree.specs.declared.edit.Write.{Write}
use Rattle.jr_tree.specs.declared.edit.Write.TheVariants as write
use Rattle.oak_clash.specs.declared.mark.Mark.{Mark}
use Rattle.oak_clash.specs.declared.mark.Mark.TheVariants.{Exists, Guard, Touch, Prop}
use Rattle.oak_clash.specs.declared.mark.MarkAt.{MarkAt}
use Rattle.oak_clash.specs.Clashes.{marks_at, commit_root}
use Rattle.oak_doc.specs.declared.document.Document.{Document}
use Rattle.oak_doc.specs.declared.update.Change.{Change}
use Rattle.oak_doc.specs.declared.update.Change.TheVariants as change
use Rattle.oak_doc.specs.Updates.{of_revision, with_revision, values_of_property, with_values, changed, Props}
use Rattle.oak_machine.specs.Laws.{is_of_item, is_of_item_mark}
use Rattle.oak_machine.specs.Marks.{marks_of_write}
use Rattle.oak_commit.specs.Writing.{entry_of, entries_at, rooting, marking_of, markings_at, write_op}
use Rattle.oak_commit.specs.Clashing.{has, has_mark}
use Rattle.core_read.proofs.Updates.{own_with, values_with, some_not_empty, sorted_with}
use Rattle.core_clash.specs.Views.{In, mark_at, NamesItems, AreOrdered}
use Rattle.core_clash.specs.Core.{is_path}
use Rattle.core_clash.proofs.Basics.{not_both, same_path, is_path_self, same_revision, is_same_self, same_name, is_name_self, or_left, or_right, or_cases, In-left, In-right, In-append}

-- an entry more
has-with : {X : Type 0} (es : List (Revision × X)) (r o : Revision) (x : X) → has (with_revision es r x) o ≡ (is_same o r || has es o)
has-with es r o x = ap (λ (y : Option _). is_some y) (lookup-insert_entry revision_cmp revision_total o r x es) ∙ by (is_same o r)
  where
    by : (b : Bool) → is_some (cond b (Some x) (of_revision es o)) ≡ (b || has es o)
    by true = refl
    by false = refl

pub has_keeps : {X : Type 0} (es : List (Revision × X)) (r o : Revision) (x : X) → has es o ≡ true → has (with_revision es r x) o ≡ true
has_keeps es r o x h = has-with es r o x ∙ or_right (is_same o r) _ h

pub has_adds : {X : Type 0} (es : List (Revision × X)) (r : Revision) (x : X) → has (with_revision es r x) r ≡ true
has_adds es r x = has-with es r r x ∙ or_left (is_same r r) _ (is_same_self r)

pub has_only : {X : Type 0} (es : List (Revision × X)) (r o : Revision) (x : X) → has (with_revision es r x) o ≡ true → (has es o ≡ true) ⊎ (o ≡ r)
has_only es r o x h = by (or_cases (is_same o r) _ (sym (has-with es r o x) ∙ h))
  where
    by : (is_same o r ≡ true) ⊎ (has es o ≡ true) → (has es o ≡ true) ⊎ (o ≡ r)
    by (inl e) = inr (same_revision o r e)
    by (inr k) = inl k

-- a property's entry more
module _ (ps : Props) (n : Name) (r : Revision) (x : Option Property) where
  abbrev with_prop : Props
  with_prop = with_values ps n (with_revision (values_of_property ps n) r x)

  has-prop : (m : Name) (o : Revision) → has (values_of_property with_prop m) o ≡ has (cond (eq_by_cmp name_cmp m n) (with_revision (values_of_property ps n) r x) (values_of_property ps m)) o
  has-prop m o = ap (λ (vs : List (Revision × Option Property)). has vs o)
      (values_with ps n m (with_revision (values_of_property ps n) r x) (λ e. some_not_empty _ r (ap (λ (y : Option _). is_some y) (own_with (values_of_property ps n) r x)) _ e))

  prop_keeps : (m : Name) (o : Revision) → has (values_of_property ps m) o ≡ true → has (values_of_property with_prop m) o ≡ true
  prop_keeps m o h = has-prop m o ∙ by (eq_by_cmp name_cmp m n) refl
    where
      by : (b : Bool) → eq_by_cmp name_cmp m n ≡ b → has (cond b (with_revision (values_of_property ps n) r x) (values_of_property ps m)) o ≡ true
      by true t = has_keeps (values_of_property ps n) r o x (subst (λ (k : Name). has (values_of_property ps k) o ≡ true) (same_name m n t) h)
      by false f = h

  prop_adds : has (values_of_property with_prop n) r ≡ true
  prop_adds = has-prop n r ∙ (ap (λ b. has (cond b (with_revision (values_of_property ps n) r x) (values_of_property ps n)) r) (is_name_self n) ∙ has_adds (values_of_property ps n) r x)

  prop_only : (m : Name) (o : Revision) → has (values_of_property with_prop m) o ≡ true → (has (values_of_property ps m) o ≡ true) ⊎ ((o ≡ r) × (m ≡ n))
  prop_only m o h = by (eq_by_cmp name_cmp m n) refl (sym (has-prop m o) ∙ h)
    where
      here : m ≡ n → (has (values_of_property ps n) o ≡ true) ⊎ (o ≡ r) → (has (values_of_property ps m) o ≡ true) ⊎ ((o ≡ r) × (m ≡ n))
      here e (inl k) = inl (subst (λ (k : Name). has (values_of_property ps k) o ≡ true) (sym e) k)
      here e (inr k) = inr (k, e)

      by : (b : Bool) → eq_by_cmp name_cmp m n ≡ b → has (cond b (with_revision (values_of_property ps n) r x) (values_of_property ps m)) o ≡ true → (has (values_of_property ps m) o ≡ true) ⊎ ((o ≡ r) × (m ≡ n))
      by true t k = here (same_name m n t) (has_only (values_of_property ps n) r o x k)
      by false f k = inl k

-- what changes of r make of a document: the marks ms of r more, and commit roots of r alone
pub record Leaves (d e : Document) (r : Revision) (ms : List Mark) : Type 0 where
  pub ordered : (p : Path) → AreOrdered p (Some d) → AreOrdered p (Some e)
  pub keeps : (o : Revision) (m : Mark) → has_mark d o m ≡ true → has_mark e o m ≡ true
  pub adds : (m : Mark) → In m ms → has_mark e r m ≡ true
  pub only : (o : Revision) (m : Mark) → has_mark e o m ≡ true → (has_mark d o m ≡ true) ⊎ ((o ≡ r) × In m ms)
  pub notes : (o : Revision) → has e.revisions o ≡ has d.revisions o
  pub collisions : (o : Revision) → of_revision e.collisions o ≡ of_revision d.collisions o
  pub name : e.id ≡ d.id
  pub roots : (o : Revision) → (o ≡ r) ⊎ (of_revision e.commit_root o ≡ of_revision d.commit_root o)

-- the mark that a change is the entry of
abbrev pub left_by : Change → List Mark
left_by (change.Deleted r b) = Exists ∷ []
left_by (change.Guard r) = Guard ∷ []
left_by (change.Touched r) = Touch ∷ []
left_by (change.Prop n r x) = Prop n ∷ []
left_by _ = []

-- a change is an entry of r, of a mark or of its commit root
abbrev pub IsEntry : Revision → Change → Type 0
IsEntry r (change.Deleted q b) = q ≡ r
IsEntry r (change.CommitRoot q depth) = q ≡ r
IsEntry r (change.Guard q) = q ≡ r
IsEntry r (change.Touched q) = q ≡ r
IsEntry r (change.Prop n q x) = q ≡ r
IsEntry r _ = ⊥

abbrev pub AreEntries : Revision → List Change → Type 0
AreEntries r [] = Unit {0}
AreEntries r (c ∷ cs) = IsEntry r c × AreEntries r cs

-- the one mark
its : {A B : Type 0} {k m : Mark} → m ≡ k → A ⊎ B → A ⊎ (B × In m (k ∷ []))
its e (inl h) = inl h
its e (inr b) = inr (b, inl e)

one : (P : Mark → Type 0) (k m : Mark) → P k → In m (k ∷ []) → P m
one P k m h (inl e) = subst P (sym e) h
one P k m h (inr n) = absurd n

module _ (d : Document) (r : Revision) where
  leaves_deleted : (b : Bool) → Leaves d (changed d (change.Deleted r b)) r (Exists ∷ [])
  leaves_deleted b = record {
    ordered = λ p o. (o.0, record { names = o.1.names });
    keeps = keeps;
    adds = λ m. one (λ (m : Mark). has_mark (changed d (change.Deleted r b)) r m ≡ true) Exists m (has_adds d.deleted r b);
    only = only;
    notes = λ o. refl;
    collisions = λ o. refl;
    name = refl;
    roots = λ o. inr refl;
  }
    where
      keeps : (o : Revision) (m : Mark) → has_mark d o m ≡ true → has_mark (changed d (change.Deleted r b)) o m ≡ true
      keeps o Exists h = has_keeps d.deleted r o b h
      keeps o Guard h = h
      keeps o Touch h = h
      keeps o (Prop n) h = h

      only : (o : Revision) (m : Mark) → has_mark (changed d (change.Deleted r b)) o m ≡ true → (has_mark d o m ≡ true) ⊎ ((o ≡ r) × In m (Exists ∷ []))
      only o Exists h = its refl (has_only d.deleted r o b h)
      only o Guard h = inl h
      only o Touch h = inl h
      only o (Prop n) h = inl h

  leaves_guard : Leaves d (changed d (change.Guard r)) r (Guard ∷ [])
  leaves_guard = record {
    ordered = λ p o. (o.0, record { names = o.1.names });
    keeps = keeps;
    adds = λ m. one (λ (m : Mark). has_mark (changed d (change.Guard r)) r m ≡ true) Guard m (has_adds d.guard r tt);
    only = only;
    notes = λ o. refl;
    collisions = λ o. refl;
    name = refl;
    roots = λ o. inr refl;
  }
    where
      keeps : (o : Revision) (m : Mark) → has_mark d o m ≡ true → has_mark (changed d (change.Guard r)) o m ≡ true
      keeps o Exists h = h
      keeps o Guard h = has_keeps d.guard r o tt h
      keeps o Touch h = h
      keeps o (Prop n) h = h

      only : (o : Revision) (m : Mark) → has_mark (changed d (change.Guard r)) o m ≡ true → (has_mark d o m ≡ true) ⊎ ((o ≡ r) × In m (Guard ∷ []))
      only o Exists h = inl h
      only o Guard h = its refl (has_only d.guard r o tt h)
      only o Touch h = inl h
      only o (Prop n) h = inl h

  leaves_touched : Leaves d (changed d (change.Touched r)) r (Touch ∷ [])
  leaves_touched = record {
    ordered = λ p o. (o.0, record { names = o.1.names });
    keeps = keeps;
    adds = λ m. one (λ (m : Mark). has_mark (changed d (change.Touched r)) r m ≡ true) Touch m (has_adds d.touched r tt);
    only = only;
    notes = λ o. refl;
    collisions = λ o. refl;
    name = refl;
    roots = λ o. inr refl;
  }
    where
      keeps : (o : Revision) (m : Mark) → has_mark d o m ≡ true → has_mark (changed d (change.Touched r)) o m ≡ true
      keeps o Exists h = h
      keeps o Guard h = h
      keeps o Touch h = has_keeps d.touched r o tt h
      keeps o (Prop n) h = h

      only : (o : Revision) (m : Mark) → has_mark (changed d (change.Touched r)) o m ≡ true → (has_mark d o m ≡ true) ⊎ ((o ≡ r) × In m (Touch ∷ []))
      only o Exists h = inl h
      only o Guard h = inl h
      only o Touch h = its refl (has_only d.touched r o tt h)
      only o (Prop n) h = inl h

  pub leaves_prop : (n : Name) (x : Option Property) → Leaves d (changed d (change.Prop n r x)) r (Prop n ∷ [])
  leaves_prop n x = record {
    ordered = λ p o. (o.0, record { names = sorted_with d.props n (with_revision (values_of_property d.props n) r x) o.1.names });
    keeps = keeps;
    adds = λ m. one (λ (m : Mark). has_mark (changed d (change.Prop n r x)) r m ≡ true) (Prop n) m (prop_adds d.props n r x);
    only = only;
    notes = λ o. refl;
    collisions = λ o. refl;
    name = refl;
    roots = λ o. inr refl;
  }
    where
      keeps : (o : Revision) (m : Mark) → has_mark d o m ≡ true → has_mark (changed d (change.Prop n r x)) o m ≡ true
      keeps o Exists h = h
      keeps o Guard h = h
      keeps o Touch h = h
      keeps o (Prop m) h = prop_keeps d.props n r x m o h

      named : (o : Revision) (m : Name) → (has_mark d o (Prop m) ≡ true) ⊎ ((o ≡ r) × (m ≡ n)) → (has_mark d o (Prop m) ≡ true) ⊎ ((o ≡ r) × In (Prop m) (Prop n ∷ []))
      named o m (inl h) = inl h
      named o m (inr h) = inr (h.0, inl (ap (λ k. Prop k) h.1))

      only : (o : Revision) (m : Mark) → has_mark (changed d (change.Prop n r x)) o m ≡ true → (has_mark d o m ≡ true) ⊎ ((o ≡ r) × In m (Prop n ∷ []))
      only o Exists h = inl h
      only o Guard h = inl h
      only o Touch h = inl h
      only o (Prop m) h = named o m (prop_only d.props n r x m o h)

  leaves_root : (depth : ℕ) → Leaves d (changed d (change.CommitRoot r depth)) r []
  leaves_root depth = record {
    ordered = λ p o. (o.0, record { names = o.1.names });
    keeps = keeps;
    adds = λ m h. absurd h;
    only = λ o m h. inl (only o m h);
    notes = λ o. refl;
    collisions = λ o. refl;
    name = refl;
    roots = λ o. by o (is_same o r) refl;
  }
    where
      keeps : (o : Revision) (m : Mark) → has_mark d o m ≡ true → has_mark (changed d (change.CommitRoot r depth)) o m ≡ true
      keeps o Exists h = h
      keeps o Guard h = h
      keeps o Touch h = h
      keeps o (Prop n) h = h

      only : (o : Revision) (m : Mark) → has_mark (changed d (change.CommitRoot r depth)) o m ≡ true → has_mark d o m ≡ true
      only o Exists h = h
      only o Guard h = h
      only o Touch h = h
      only o (Prop n) h = h

      by : (o : Revision) (b : Bool) → is_same o r ≡ b → (o ≡ r) ⊎ (of_revision (with_revision d.commit_root r depth) o ≡ of_revision d.commit_root o)
      by o true t = inl (same_revision o r t)
      by o false f = inr (lookup-insert_entry revision_cmp revision_total o r depth d.commit_root ∙ ap (λ b. cond b (Some depth) (of_revision d.commit_root o)) f)

-- the entry of any change
leaves_one : (d : Document) (r : Revision) (c : Change) → IsEntry r c → Leaves d (changed d c) r (left_by c)
leaves_one d r (change.Deleted q b) e = subst (λ (x : Revision). Leaves d (changed d (change.Deleted q b)) x (Exists ∷ [])) e (leaves_deleted d q b)
leaves_one d r (change.CommitRoot q depth) e = subst (λ (x : Revision). Leaves d (changed d (change.CommitRoot q depth)) x []) e (leaves_root d q depth)
leaves_one d r (change.Guard q) e = subst (λ (x : Revision). Leaves d (changed d (change.Guard q)) x (Guard ∷ [])) e (leaves_guard d q)
leaves_one d r (change.Touched q) e = subst (λ (x : Revision). Leaves d (changed d (change.Touched q)) x (Touch ∷ [])) e (leaves_touched d q)
leaves_one d r (change.Prop n q x) e = subst (λ (y : Revision). Leaves d (changed d (change.Prop n q x)) y (Prop n ∷ [])) e (leaves_prop d q n x)
leaves_one d r c e = absurd e

-- then those of more changes
leaves_more : (d e f : Document) (r : Revision) (ks ms : List Mark) → Leaves d e r ks → Leaves e f r ms → Leaves d f r (ks ++ ms)
leaves_more d e f r ks ms a b = record {
  ordered = λ p o. b.ordered p (a.ordered p o);
  keeps = λ o m h. b.keeps o m (a.keeps o m h);
  adds = λ m h. adds m (In-append m ks ms h);
  only = λ o m h. only o m (b.only o m h);
  notes = λ o. b.notes o ∙ a.notes o;
  collisions = λ o. b.collisions o ∙ a.collisions o;
  name = b.name ∙ a.name;
  roots = λ o. roots o (b.roots o) (a.roots o);
}
  where
    adds : (m : Mark) → In m ks ⊎ In m ms → has_mark f r m ≡ true
    adds m (inl h) = b.keeps r m (a.adds m h)
    adds m (inr h) = b.adds m h

    first : (o : Revision) (m : Mark) → (has_mark d o m ≡ true) ⊎ ((o ≡ r) × In m ks) → (has_mark d o m ≡ true) ⊎ ((o ≡ r) × In m (ks ++ ms))
    first o m (inl h) = inl h
    first o m (inr h) = inr (h.0, In-left m ks ms h.1)

    only : (o : Revision) (m : Mark) → (has_mark e o m ≡ true) ⊎ ((o ≡ r) × In m ms) → (has_mark d o m ≡ true) ⊎ ((o ≡ r) × In m (ks ++ ms))
    only o m (inl h) = first o m (a.only o m h)
    only o m (inr h) = inr (h.0, In-right m ks ms h.1)

    roots : (o : Revision) → (o ≡ r) ⊎ (of_revision f.commit_root o ≡ of_revision e.commit_root o) → (o ≡ r) ⊎ (of_revision e.commit_root o ≡ of_revision d.commit_root o) → (o ≡ r) ⊎ (of_revision f.commit_root o ≡ of_revision d.commit_root o)
    roots o (inl h) k = inl h
    roots o (inr h) (inl k) = inl k
    roots o (inr h) (inr k) = inr (h ∙ k)

-- all changes of a write
pub leaves_all : (d : Document) (r : Revision) (cs : List Change) → AreEntries r cs → Leaves d (fold changed d cs) r (flat_map left_by cs)
leaves_all d r [] h = record { ordered = λ p o. o; keeps = λ o m h. h; adds = λ m h. absurd h; only = λ o m h. inl h; notes = λ o. refl; collisions = λ o. refl; name = refl; roots = λ o. inr refl }
leaves_all d r (c ∷ cs) h = leaves_more d (changed d c) _ r (left_by c) (flat_map left_by cs) (leaves_one d r c h.0) (leaves_all (changed d c) r cs h.1)

-- ---- the changes of a write are entries of its revision

both_entries : (r : Revision) (cs ds : List Change) → AreEntries r cs → AreEntries r ds → AreEntries r (cs ++ ds)
both_entries r [] ds h k = k
both_entries r (c ∷ cs) ds h k = (h.0, both_entries r cs ds h.1 k)

module _ (r : Revision) (p : Path) where
  entry_one : (w : Write) → AreEntries r (entry_of r p w)
  entry_one (write.Here q) = elim (eq_by_cmp path_cmp p q) as (λ b. AreEntries r (cond b (change.Deleted r false ∷ []) [])) [ true ↦ (refl, tt) | false ↦ tt ]
  entry_one (write.Gone q) = elim (eq_by_cmp path_cmp p q) as (λ b. AreEntries r (cond b (change.Deleted r true ∷ []) [])) [ true ↦ (refl, tt) | false ↦ tt ]
  entry_one (write.Put q m x) = elim (eq_by_cmp path_cmp p q) as (λ b. AreEntries r (cond b (change.Prop m r (Some x) ∷ []) [])) [ true ↦ (refl, tt) | false ↦ tt ]
  entry_one (write.Unset q m) = elim (eq_by_cmp path_cmp p q) as (λ b. AreEntries r (cond b (change.Prop m r None ∷ []) [])) [ true ↦ (refl, tt) | false ↦ tt ]

  entry_each : (ws : List Write) → AreEntries r (entries_at r p ws)
  entry_each [] = tt
  entry_each (w ∷ ws) = both_entries r (entry_of r p w) (entries_at r p ws) (entry_one w) (entry_each ws)

  root_one : (root : Path) → AreEntries r (rooting r p root)
  root_one root = elim (eq_by_cmp path_cmp p root) as (λ b. AreEntries r (cond b [] (change.CommitRoot r (Rattle.std.specs.Prelude.length root) ∷ []))) [ true ↦ tt | false ↦ (refl, tt) ]

  marking_one : (m : Mark) → AreEntries r (marking_of r m)
  marking_one Exists = tt
  marking_one Guard = (refl, tt)
  marking_one Touch = (refl, tt)
  marking_one (Prop n) = tt

  marking_each : (ms : List Mark) → AreEntries r (flat_map (marking_of r) ms)
  marking_each [] = tt
  marking_each (m ∷ ms) = both_entries r (marking_of r m) (flat_map (marking_of r) ms) (marking_one m) (marking_each ms)

  pub write_entries : (ws : List Write) (ms : List MarkAt) → AreEntries r (write_op r ws ms p).changes
  write_entries ws ms = both_entries r (entries_at r p ws) _ (entry_each ws) (both_entries r (rooting r p (commit_root ms)) _ (root_one (commit_root ms)) (marking_each (marks_at p ms)))

-- ---- and leave just its marks there

left_first : (m : Mark) (cs ds : List Change) → In m (flat_map left_by cs) → In m (flat_map left_by (cs ++ ds))
left_first m [] ds h = absurd h
left_first m (c ∷ cs) ds h = by (λ k. left_first m cs ds k) (In-append m (left_by c) (flat_map left_by cs) h)
  where
    by : (In m (flat_map left_by cs) → In m (flat_map left_by (cs ++ ds))) → In m (left_by c) ⊎ In m (flat_map left_by cs) → In m (left_by c ++ flat_map left_by (cs ++ ds))
    by rest (inl k) = In-left m (left_by c) (flat_map left_by (cs ++ ds)) k
    by rest (inr k) = In-right m (left_by c) (flat_map left_by (cs ++ ds)) (rest k)

left_second : (m : Mark) (cs ds : List Change) → In m (flat_map left_by ds) → In m (flat_map left_by (cs ++ ds))
left_second m [] ds h = h
left_second m (c ∷ cs) ds h = In-right m (left_by c) _ (left_second m cs ds h)

left_either : (m : Mark) (cs ds : List Change) → In m (flat_map left_by (cs ++ ds)) → In m (flat_map left_by cs) ⊎ In m (flat_map left_by ds)
left_either m [] ds h = inr h
left_either m (c ∷ cs) ds h = by (λ k. left_either m cs ds k) (In-append m (left_by c) (flat_map left_by (cs ++ ds)) h)
  where
    more : In m (flat_map left_by cs) ⊎ In m (flat_map left_by ds) → In m (left_by c ++ flat_map left_by cs) ⊎ In m (flat_map left_by ds)
    more (inl k) = inl (In-right m (left_by c) (flat_map left_by cs) k)
    more (inr k) = inr k

    by : (In m (flat_map left_by (cs ++ ds)) → In m (flat_map left_by cs) ⊎ In m (flat_map left_by ds)) → In m (left_by c) ⊎ In m (flat_map left_by (cs ++ ds)) → In m (left_by c ++ flat_map left_by cs) ⊎ In m (flat_map left_by ds)
    by rest (inl k) = inl (In-left m (left_by c) (flat_map left_by cs) k)
    by rest (inr k) = more (rest k)

-- the marks of items that a write has at p
module _ (r : Revision) (p : Path) where
  -- a change where the path is p
  there : (q : Path) (c : Change) (m k : Mark) → left_by c ≡ k ∷ [] → mark_at p m ≡ mark_at q k → In m (flat_map left_by (cond (eq_by_cmp path_cmp p q) (c ∷ []) []))
  there q c m k is e = subst (λ b. In m (flat_map left_by (cond b (c ∷ []) []))) (sym here) (subst (λ (xs : List Mark). In m (xs ++ [])) (sym is) (inl (ap (λ (x : MarkAt). x.mark) e)))
    where
      here : eq_by_cmp path_cmp p q ≡ true
      here = subst (λ (x : Path). is_path p x ≡ true) (ap (λ (x : MarkAt). x.path) e) (is_path_self p)

  back : (q : Path) (c : Change) (m k : Mark) → left_by c ≡ k ∷ [] → In m (flat_map left_by (cond (eq_by_cmp path_cmp p q) (c ∷ []) [])) → mark_at p m ≡ mark_at q k
  back q c m k is h = by (eq_by_cmp path_cmp p q) refl h
    where
      same : p ≡ q → In m (k ∷ []) → mark_at p m ≡ mark_at q k
      same e (inl f) = ap (λ (x : Path). mark_at x m) e ∙ ap (λ (x : Mark). mark_at q x) f
      same e (inr f) = absurd f

      by : (b : Bool) → eq_by_cmp path_cmp p q ≡ b → In m (flat_map left_by (cond b (c ∷ []) [])) → mark_at p m ≡ mark_at q k
      by true t i = same (same_path p q t) (subst (λ (xs : List Mark). In m (xs ++ [])) is i)
      by false f i = absurd i

  -- the mark of a parent is none of an item
  no_touch : (o : Option Path) (m : Mark) → is_of_item_mark m ≡ true → In (mark_at p m) (option_map_or (λ q. record { path = q; mark = Touch } ∷ []) o []) → ⊥
  no_touch None m item h = h
  no_touch (Some q) m item (inl e) = false≢true (sym (ap (λ (x : MarkAt). is_of_item x) e) ∙ item)
  no_touch (Some q) m item (inr h) = h

  entry_to : (m : Mark) (w : Write) → is_of_item_mark m ≡ true → In (mark_at p m) (marks_of_write w) → In m (flat_map left_by (entry_of r p w))
  entry_to m (write.Here q) item (inl e) = there q (change.Deleted r false) m Exists refl e
  entry_to m (write.Here q) item (inr h) = absurd (no_touch (parent_of q) m item h)
  entry_to m (write.Gone q) item (inl e) = there q (change.Deleted r true) m Exists refl e
  entry_to m (write.Gone q) item (inr h) = absurd (no_touch (parent_of q) m item h)
  entry_to m (write.Put q n x) item (inl e) = there q (change.Prop n r (Some x)) m (Prop n) refl e
  entry_to m (write.Put q n x) item (inr h) = absurd h
  entry_to m (write.Unset q n) item (inl e) = there q (change.Prop n r None) m (Prop n) refl e
  entry_to m (write.Unset q n) item (inr h) = absurd h

  entry_from : (m : Mark) (w : Write) → In m (flat_map left_by (entry_of r p w)) → In (mark_at p m) (marks_of_write w)
  entry_from m (write.Here q) h = inl (back q (change.Deleted r false) m Exists refl h)
  entry_from m (write.Gone q) h = inl (back q (change.Deleted r true) m Exists refl h)
  entry_from m (write.Put q n x) h = inl (back q (change.Prop n r (Some x)) m (Prop n) refl h)
  entry_from m (write.Unset q n) h = inl (back q (change.Prop n r None) m (Prop n) refl h)

  item_of_mark : (q : Path) (m k : Mark) → is_of_item_mark k ≡ true → mark_at p m ≡ mark_at q k → is_of_item_mark m ≡ true
  item_of_mark q m k item e = ap (λ (x : MarkAt). is_of_item x) e ∙ item

  entry_item : (m : Mark) (w : Write) → In m (flat_map left_by (entry_of r p w)) → is_of_item_mark m ≡ true
  entry_item m (write.Here q) h = item_of_mark q m Exists refl (back q (change.Deleted r false) m Exists refl h)
  entry_item m (write.Gone q) h = item_of_mark q m Exists refl (back q (change.Deleted r true) m Exists refl h)
  entry_item m (write.Put q n x) h = item_of_mark q m (Prop n) refl (back q (change.Prop n r (Some x)) m (Prop n) refl h)
  entry_item m (write.Unset q n) h = item_of_mark q m (Prop n) refl (back q (change.Prop n r None) m (Prop n) refl h)

  entries_to : (m : Mark) (ws : List Write) → is_of_item_mark m ≡ true → In (mark_at p m) (flat_map marks_of_write ws) → In m (flat_map left_by (entries_at r p ws))
  entries_to m [] item h = absurd h
  entries_to m (w ∷ ws) item h = by (λ k. entries_to m ws item k) (In-append (mark_at p m) (marks_of_write w) (flat_map marks_of_write ws) h)
    where
      by : (In (mark_at p m) (flat_map marks_of_write ws) → In m (flat_map left_by (entries_at r p ws))) → In (mark_at p m) (marks_of_write w) ⊎ In (mark_at p m) (flat_map marks_of_write ws) → In m (flat_map left_by (entry_of r p w ++ entries_at r p ws))
      by rest (inl k) = left_first m (entry_of r p w) (entries_at r p ws) (entry_to m w item k)
      by rest (inr k) = left_second m (entry_of r p w) (entries_at r p ws) (rest k)

  entries_from : (m : Mark) (ws : List Write) → In m (flat_map left_by (entries_at r p ws)) → (is_of_item_mark m ≡ true) × In (mark_at p m) (flat_map marks_of_write ws)
  entries_from m [] h = absurd h
  entries_from m (w ∷ ws) h = by (λ k. entries_from m ws k) (left_either m (entry_of r p w) (entries_at r p ws) h)
    where
      more : (is_of_item_mark m ≡ true) × In (mark_at p m) (flat_map marks_of_write ws) → (is_of_item_mark m ≡ true) × In (mark_at p m) (marks_of_write w ++ flat_map marks_of_write ws)
      more k = (k.0, In-right (mark_at p m) (marks_of_write w) (flat_map marks_of_write ws) k.1)

      by : (In m (flat_map left_by (entries_at r p ws)) → (is_of_item_mark m ≡ true) × In (mark_at p m) (flat_map marks_of_write ws)) → In m (flat_map left_by (entry_of r p w)) ⊎ In m (flat_map left_by (entries_at r p ws)) → (is_of_item_mark m ≡ true) × In (mark_at p m) (marks_of_write w ++ flat_map marks_of_write ws)
      by rest (inl k) = (entry_item m w k, In-left (mark_at p m) (marks_of_write w) (flat_map marks_of_write ws) (entry_from m w k))
      by rest (inr k) = more (rest k)

  -- a mark of no item is noted as it is
  marking_to : (m k : Mark) → is_of_item_mark m ≡ false → m ≡ k → In m (flat_map left_by (marking_of r k))
  marking_to m Exists item e = not_both (is_of_item_mark m) (ap is_of_item_mark e) item
  marking_to m Guard item e = inl e
  marking_to m Touch item e = inl e
  marking_to m (Prop n) item e = not_both (is_of_item_mark m) (ap is_of_item_mark e) item

  marking_from : (m k : Mark) → In m (flat_map left_by (marking_of r k)) → m ≡ k
  marking_from m Exists h = absurd h
  marking_from m Guard (inl e) = e
  marking_from m Guard (inr h) = absurd h
  marking_from m Touch (inl e) = e
  marking_from m Touch (inr h) = absurd h
  marking_from m (Prop n) h = absurd h

  markings_to : (m : Mark) (ks : List Mark) → is_of_item_mark m ≡ false → In m ks → In m (flat_map left_by (flat_map (marking_of r) ks))
  markings_to m [] item h = absurd h
  markings_to m (k ∷ ks) item (inl e) = left_first m (marking_of r k) (flat_map (marking_of r) ks) (marking_to m k item e)
  markings_to m (k ∷ ks) item (inr h) = left_second m (marking_of r k) (flat_map (marking_of r) ks) (markings_to m ks item h)

  markings_from : (m : Mark) (ks : List Mark) → In m (flat_map left_by (flat_map (marking_of r) ks)) → In m ks
  markings_from m [] h = absurd h
  markings_from m (k ∷ ks) h = by (λ i. markings_from m ks i) (left_either m (marking_of r k) (flat_map (marking_of r) ks) h)
    where
      by : (In m (flat_map left_by (flat_map (marking_of r) ks)) → In m ks) → In m (flat_map left_by (marking_of r k)) ⊎ In m (flat_map left_by (flat_map (marking_of r) ks)) → In m (k ∷ ks)
      by rest (inl i) = inl (marking_from m k i)
      by rest (inr i) = inr (rest i)

  root_none : (m : Mark) (root : Path) → In m (flat_map left_by (rooting r p root)) → ⊥
  root_none m root h = by (eq_by_cmp path_cmp p root) h
    where
      by : (b : Bool) → In m (flat_map left_by (cond b [] (change.CommitRoot r (Rattle.std.specs.Prelude.length root) ∷ []))) → ⊥
      by true h = h
      by false h = h

-- the marks at a path
pub In-marks_at : (p : Path) (m : Mark) (ms : List MarkAt) → In (mark_at p m) ms → In m (marks_at p ms)
In-marks_at p m [] h = absurd h
In-marks_at p m (x ∷ ms) h = by (In-marks_at p m ms) (is_path p x.path) refl h
  where
    by : (In (mark_at p m) ms → In m (marks_at p ms)) → (b : Bool) → is_path p x.path ≡ b → In (mark_at p m) (x ∷ ms) → In m (map (λ y. y.mark) (cond b (x ∷ filter (λ y. is_path p y.path) ms) (filter (λ y. is_path p y.path) ms)))
    by rest true t (inl e) = inl (ap (λ (y : MarkAt). y.mark) e)
    by rest true t (inr h) = inr (rest h)
    by rest false f (inl e) = not_both (is_path p x.path) (subst (λ (y : MarkAt). is_path p y.path ≡ true) e (is_path_self p)) f
    by rest false f (inr h) = rest h

pub In-from_marks_at : (p : Path) (m : Mark) (ms : List MarkAt) → In m (marks_at p ms) → In (mark_at p m) ms
In-from_marks_at p m [] h = absurd h
In-from_marks_at p m (x ∷ ms) h = by (In-from_marks_at p m ms) (is_path p x.path) refl h
  where
    by : (In m (marks_at p ms) → In (mark_at p m) ms) → (b : Bool) → is_path p x.path ≡ b → In m (map (λ y. y.mark) (cond b (x ∷ filter (λ y. is_path p y.path) ms) (filter (λ y. is_path p y.path) ms))) → In (mark_at p m) (x ∷ ms)
    by rest true t (inl e) = inl (ap (λ (y : Path × Mark). mark_at y.0 y.1) (let k : (p, m) ≡ (x.path, x.mark) = rw (same_path p x.path t, e) refl in k))
    by rest true t (inr h) = inr (rest h)
    by rest false f h = inr (rest h)

-- the changes of a write leave just the marks of r at p
module _ (r : Revision) (p : Path) (ws : List Write) (ms : List MarkAt) (names : NamesItems ms ws) where
  pub left_to : (m : Mark) → In (mark_at p m) ms → In m (flat_map left_by (write_op r ws ms p).changes)
  left_to m h = by (is_of_item_mark m) refl
    where
      by : (b : Bool) → is_of_item_mark m ≡ b → In m (flat_map left_by (write_op r ws ms p).changes)
      by true item = left_first m (entries_at r p ws) _ (entries_to r p m ws item ((names (mark_at p m) item).0 h))
      by false item = left_second m (entries_at r p ws) _ (left_second m (rooting r p (commit_root ms)) _ (markings_to r p m (marks_at p ms) item (In-marks_at p m ms h)))

  pub left_from : (m : Mark) → In m (flat_map left_by (write_op r ws ms p).changes) → In (mark_at p m) ms
  left_from m h = by (left_either m (entries_at r p ws) _ h)
    where
      behind : In m (flat_map left_by (rooting r p (commit_root ms))) ⊎ In m (flat_map left_by (markings_at r p ms)) → In (mark_at p m) ms
      behind (inl k) = absurd (root_none r p m (commit_root ms) k)
      behind (inr k) = In-from_marks_at p m ms (markings_from r p m (marks_at p ms) k)

      by : In m (flat_map left_by (entries_at r p ws)) ⊎ In m (flat_map left_by (rooting r p (commit_root ms) ++ markings_at r p ms)) → In (mark_at p m) ms
      by (inl k) = let e = entries_from r p m ws k in (names (mark_at p m) e.0).1 e.1
      by (inr k) = behind (left_either m (rooting r p (commit_root ms)) (markings_at r p ms) k)
