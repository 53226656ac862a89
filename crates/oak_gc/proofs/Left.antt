-- What is left of a document once its garbage was dropped has no garbage.
use Rattle.std.proofs.Common.{◌≡◌, ℕ, Bool, true, false, cond, ◌&&◌, ◌||◌, List, [], ◌∷◌, ◌++◌, Option, None, Some, map, fold, refl, sym, ap, ◌∙◌, subst}
use Rattle.std.specs.Prelude.{not}
use Rattle.std.specs.Option.{unwrap_or}
use Rattle.std.specs.List.{AllByRecursion, filter, flat_map, list_any}
use Rattle.std.specs.List.Sorted.{IsStrictlySortedBy}
use Rattle.std.specs.Map.{keys_of, lookup}
use Rattle.std.specs.BTreeMap.{is_at}
use Rattle.std.specs.Ordering.{eq_by_cmp, is_eq}
use Rattle.std.proofs.lemmas.Bool.{false≢true}
use Rattle.std.proofs.lemmas.Cmp.{nat_list_cmp_total, tied_itself}
use Rattle.jr_path.proofs.Maps.{lookup-insert_entry, name_exact}
use Rattle.jr_path.proofs.Orders.{tested}
use Rattle.jr_path.specs.Names.{name_cmp}
use Rattle.jr_path.specs.declared.name.Name.{Name}
use Rattle.jr_value.specs.declared.value.Property.{Property}
use Rattle.jr_rev.proofs.Order.{revision_total}
use Rattle.jr_rev.specs.declared.revision.Revision.{Revision}
use Rattle.jr_rev.specs.declared.vector.RevVec.{RevVec}
use Rattle.jr_rev.specs.Revisions.{is_before, is_same}
use Rattle.jr_rev.specs.Vectors.{sees}
use Rattle.oak_doc.specs.declared.document.Document.{Document}
use Rattle.oak_doc.specs.declared.update.Change.TheVariants as change
use Rattle.oak_doc.specs.declared.update.EntryKey.{EntryKey}
use Rattle.oak_doc.specs.declared.update.Field.{Field}
use Rattle.oak_doc.specs.declared.update.Field.TheVariants as field
use Rattle.oak_doc.specs.Updates.{Props, changed, pruned, values_of_property, with_values, without_revision}
use Rattle.oak_gc.proofs.Ordered.{each_found, lookup_removed, sorted_put, sorted_removed}
use Rattle.oak_gc.specs.Garbage.{garbage_in, is_superseded, keys_where}
use Rattle.oak_gc.specs.Left.{LeavesNoGarbage}

-- ---- tests

or_more : (c y : Bool) → y ≡ true → (c || y) ≡ true
or_more true y h = refl
or_more false y h = h

either_more : (c x y : Bool) → (x ≡ true → y ≡ true) → (c || x) ≡ true → (c || y) ≡ true
either_more true x y f h = refl
either_more false x y f h = f h

second_false : (x a b : Bool) → (b ≡ true → a ≡ true) → (x && a) ≡ false → (x && b) ≡ false
second_false false a b f h = refl
second_false true a true f h = absurd (false≢true (sym h ∙ f refl))
second_false true a false f h = refl

any_first : {X : Type 0} (p : X → Bool) (xs ys : List X) → list_any p xs ≡ true → list_any p (xs ++ ys) ≡ true
any_first p [] ys h = absurd (false≢true h)
any_first p (x ∷ xs) ys h = either_more (p x) (list_any p xs) (list_any p (xs ++ ys)) (any_first p xs ys) h

any_second : {X : Type 0} (p : X → Bool) (xs ys : List X) → list_any p ys ≡ true → list_any p (xs ++ ys) ≡ true
any_second p [] ys h = h
any_second p (x ∷ xs) ys h = or_more (p x) (list_any p (xs ++ ys)) (any_second p xs ys h)

both_none : {X : Type 0} (xs ys : List X) → xs ≡ [] → ys ≡ [] → xs ++ ys ≡ []
both_none xs ys h k = ap (λ xs. xs ++ ys) h ∙ k

all_of : {X : Type 0} (P Q : X → Type 0) → ((x : X) → P x → Q x) → (xs : List X) → AllByRecursion P xs → AllByRecursion Q xs
all_of P Q f [] h = tt
all_of P Q f (x ∷ xs) h = (f x h.0, all_of P Q f xs h.1)

-- whether a key is of such a field, and of this revision
abbrev hits : (Field → Bool) → Revision → EntryKey → Bool
hits is_of r k = is_of k.field && is_same k.revision r

module _ {X : Type 0} where
  filter_none : (test : Revision × X → Bool) (es : List (Revision × X)) → AllByRecursion (λ e. test e ≡ false) es → filter test es ≡ []
  filter_none test [] h = refl
  filter_none test (e ∷ es) h = ap (λ b. cond b (e ∷ filter test es) (filter test es)) h.0 ∙ filter_none test es h.1

  no_keys : (test : Revision → Bool) (f : Field) (es : List (Revision × X)) → AllByRecursion (λ e. test e.0 ≡ false) es → keys_where test f es ≡ []
  no_keys test f es h = ap (map (λ e. record { field = f; revision = e.0 })) (filter_none (λ e. test e.0) es h)

  filter_all : (es : List (Revision × X)) → filter (λ e. true) es ≡ es
  filter_all [] = refl
  filter_all (e ∷ es) = ap (λ (es : List (Revision × X)). e ∷ es) (filter_all es)

  filter_both : (g h : Revision → Bool) (es : List (Revision × X)) → filter (λ e. not (h e.0)) (filter (λ e. not (g e.0)) es) ≡ filter (λ e. not (g e.0 || h e.0)) es
  filter_both g h [] = refl
  filter_both g h (e ∷ es) = by (g e.0) (h e.0) refl (filter_both g h es)
    where
      by : (a b : Bool) → h e.0 ≡ b → filter (λ e. not (h e.0)) (filter (λ e. not (g e.0)) es) ≡ filter (λ e. not (g e.0 || h e.0)) es
          → filter (λ e. not (h e.0)) (cond (not a) (e ∷ filter (λ e. not (g e.0)) es) (filter (λ e. not (g e.0)) es)) ≡ cond (not (a || b)) (e ∷ filter (λ e. not (g e.0 || h e.0)) es) (filter (λ e. not (g e.0 || h e.0)) es)
      by true b is rest = rest
      by false true is rest = ap (λ b. cond (not b) (e ∷ filter (λ e. not (h e.0)) (filter (λ e. not (g e.0)) es)) (filter (λ e. not (h e.0)) (filter (λ e. not (g e.0)) es))) is ∙ rest
      by false false is rest = ap (λ b. cond (not b) (e ∷ filter (λ e. not (h e.0)) (filter (λ e. not (g e.0)) es)) (filter (λ e. not (h e.0)) (filter (λ e. not (g e.0)) es))) is ∙ ap (λ (es : List (Revision × X)). e ∷ es) rest

  -- without what these keys drop of such a field
  abbrev undropped : (Field → Bool) → List EntryKey → List (Revision × X) → List (Revision × X)
  undropped is_of ks es = filter (λ e. not (list_any (hits is_of e.0) ks)) es

  undropped_more : (is_of : Field → Bool) (k : EntryKey) (ks : List EntryKey) (es : List (Revision × X)) → undropped is_of ks (cond (is_of k.field) (without_revision k.revision es) es) ≡ undropped is_of (k ∷ ks) es
  undropped_more is_of k ks es = by (is_of k.field)
    where
      by : (b : Bool) → undropped is_of ks (cond b (without_revision k.revision es) es) ≡ filter (λ e. not ((b && is_same k.revision e.0) || list_any (hits is_of e.0) ks)) es
      by true = filter_both (is_same k.revision) (λ r. list_any (hits is_of r) ks) es
      by false = refl

  -- where each entry that passes a test is dropped, none is left that passes
  none_left : (is_of : Field → Bool) (ks : List EntryKey) (test : Revision → Bool) (es : List (Revision × X)) → AllByRecursion (λ e. test e.0 ≡ true → list_any (hits is_of e.0) ks ≡ true) es → AllByRecursion (λ e. test e.0 ≡ false) (undropped is_of ks es)
  none_left is_of ks test [] h = tt
  none_left is_of ks test (e ∷ es) h = by (list_any (hits is_of e.0) ks) (test e.0) refl refl (none_left is_of ks test es h.1)
    where
      by : (b c : Bool) → list_any (hits is_of e.0) ks ≡ b → test e.0 ≡ c → AllByRecursion (λ e. test e.0 ≡ false) (undropped is_of ks es) → AllByRecursion (λ (e : Revision × X). test e.0 ≡ false) (cond (not b) (e ∷ undropped is_of ks es) (undropped is_of ks es))
      by true c hit is rest = rest
      by false true hit is rest = absurd (false≢true (sym hit ∙ h.0 is))
      by false false hit is rest = (is, rest)

  -- the keys of what passes a test hit it
  covers : (is_of : Field → Bool) (f : Field) → is_of f ≡ true → (test : Revision → Bool) (es : List (Revision × X)) → AllByRecursion (λ e. test e.0 ≡ true → list_any (hits is_of e.0) (keys_where test f es) ≡ true) es
  covers is_of f of test [] = tt
  covers is_of f of test (e ∷ es) = (here (test e.0), all_of (λ g. test g.0 ≡ true → list_any (hits is_of g.0) (keys_where test f es) ≡ true) _ (λ g h is. later (test e.0) g (h is)) es (covers is_of f of test es))
    where
      own : hits is_of e.0 (record { field = f; revision = e.0 }) ≡ true
      own = ap (λ b. b && is_same e.0 e.0) of ∙ ap is_eq (tied_itself revision_total e.0)

      here : (b : Bool) → b ≡ true → list_any (hits is_of e.0) (map (λ e. record { field = f; revision = e.0 }) (cond b (e ∷ filter (λ e. test e.0) es) (filter (λ e. test e.0) es))) ≡ true
      here true is = ap (λ b. b || list_any (hits is_of e.0) (keys_where test f es)) own
      here false is = absurd (false≢true is)

      later : (b : Bool) (g : Revision × X) → list_any (hits is_of g.0) (keys_where test f es) ≡ true → list_any (hits is_of g.0) (map (λ e. record { field = f; revision = e.0 }) (cond b (e ∷ filter (λ e. test e.0) es) (filter (λ e. test e.0) es))) ≡ true
      later true g h = or_more (hits is_of g.0 (record { field = f; revision = e.0 })) (list_any (hits is_of g.0) (keys_where test f es)) h
      later false g h = h

  -- fewer entries supersede less
  fewer : (p : Revision → Bool) (f : Revision × X → Bool) (es : List (Revision × X)) → list_any p (keys_of (filter f es)) ≡ true → list_any p (keys_of es) ≡ true
  fewer p f [] h = h
  fewer p f (e ∷ es) h = by (f e) h (fewer p f es)
    where
      by : (b : Bool) → list_any p (keys_of (cond b (e ∷ filter f es) (filter f es))) ≡ true → (list_any p (keys_of (filter f es)) ≡ true → list_any p (keys_of es) ≡ true) → (p e.0 || list_any p (keys_of es)) ≡ true
      by true h' rest = either_more (p e.0) (list_any p (keys_of (filter f es))) (list_any p (keys_of es)) rest h'
      by false h' rest = or_more (p e.0) (list_any p (keys_of es)) (rest h')

-- ---- documents

abbrev IsSorted : Document → Type 0
IsSorted d = IsStrictlySortedBy name_cmp (keys_of d.props)

abbrev drop_value : Props → Name → Revision → Props
drop_value ps n r = with_values ps n (without_revision r (values_of_property ps n))

stays_sorted : (d : Document) (k : EntryKey) → IsSorted d → IsSorted (pruned d k)
stays_sorted d k sorted = by k.field k.revision
  where
    value : (n : Name) (vs : List (Revision × Option Property)) → IsStrictlySortedBy name_cmp (keys_of (with_values d.props n vs))
    value n [] = sorted_removed name_cmp nat_list_cmp_total name_exact n d.props sorted
    value n (v ∷ vs) = sorted_put name_cmp nat_list_cmp_total name_exact n (v ∷ vs) d.props sorted

    by : (f : Field) (r : Revision) → IsSorted (pruned d (record { field = f; revision = r }))
    by field.Deleted r = sorted
    by field.CommitRoot r = sorted
    by field.Revisions r = sorted
    by field.Collisions r = sorted
    by field.Touched r = sorted
    by field.Guard r = sorted
    by (field.Prop n) r = value n (without_revision r (values_of_property d.props n))

-- what a field keeps once entries were dropped one after another
module _ {X : Type 0} (get : Document → List (Revision × X)) (is_of : Field → Bool)
    (each : (d : Document) (f : Field) (r : Revision) → IsSorted d → get (pruned d (record { field = f; revision = r })) ≡ cond (is_of f) (without_revision r (get d)) (get d)) where
  after_keys : (ks : List EntryKey) (d : Document) → IsSorted d → get (fold pruned d ks) ≡ undropped is_of ks (get d)
  after_keys [] d sorted = sym (filter_all (get d))
  after_keys (k ∷ ks) d sorted = after_keys ks (pruned d k) (stays_sorted d k sorted) ∙ ap (undropped is_of ks) (each d k.field k.revision sorted) ∙ undropped_more is_of k ks (get d)

abbrev is_deleted : Field → Bool
is_deleted field.Deleted = true
is_deleted _ = false

abbrev is_commit_root : Field → Bool
is_commit_root field.CommitRoot = true
is_commit_root _ = false

abbrev is_revisions : Field → Bool
is_revisions field.Revisions = true
is_revisions _ = false

abbrev is_collisions : Field → Bool
is_collisions field.Collisions = true
is_collisions _ = false

abbrev is_touched : Field → Bool
is_touched field.Touched = true
is_touched _ = false

abbrev is_guard : Field → Bool
is_guard field.Guard = true
is_guard _ = false

abbrev is_prop : Name → Field → Bool
is_prop n (field.Prop k) = eq_by_cmp name_cmp n k
is_prop n _ = false

each_deleted : (d : Document) (f : Field) (r : Revision) → IsSorted d → (pruned d (record { field = f; revision = r })).deleted ≡ cond (is_deleted f) (without_revision r d.deleted) d.deleted
each_deleted d field.Deleted r sorted = refl
each_deleted d field.CommitRoot r sorted = refl
each_deleted d field.Revisions r sorted = refl
each_deleted d field.Collisions r sorted = refl
each_deleted d field.Touched r sorted = refl
each_deleted d field.Guard r sorted = refl
each_deleted d (field.Prop n) r sorted = refl

each_commit_root : (d : Document) (f : Field) (r : Revision) → IsSorted d → (pruned d (record { field = f; revision = r })).commit_root ≡ cond (is_commit_root f) (without_revision r d.commit_root) d.commit_root
each_commit_root d field.Deleted r sorted = refl
each_commit_root d field.CommitRoot r sorted = refl
each_commit_root d field.Revisions r sorted = refl
each_commit_root d field.Collisions r sorted = refl
each_commit_root d field.Touched r sorted = refl
each_commit_root d field.Guard r sorted = refl
each_commit_root d (field.Prop n) r sorted = refl

each_revisions : (d : Document) (f : Field) (r : Revision) → IsSorted d → (pruned d (record { field = f; revision = r })).revisions ≡ cond (is_revisions f) (without_revision r d.revisions) d.revisions
each_revisions d field.Deleted r sorted = refl
each_revisions d field.CommitRoot r sorted = refl
each_revisions d field.Revisions r sorted = refl
each_revisions d field.Collisions r sorted = refl
each_revisions d field.Touched r sorted = refl
each_revisions d field.Guard r sorted = refl
each_revisions d (field.Prop n) r sorted = refl

each_collisions : (d : Document) (f : Field) (r : Revision) → IsSorted d → (pruned d (record { field = f; revision = r })).collisions ≡ cond (is_collisions f) (without_revision r d.collisions) d.collisions
each_collisions d field.Deleted r sorted = refl
each_collisions d field.CommitRoot r sorted = refl
each_collisions d field.Revisions r sorted = refl
each_collisions d field.Collisions r sorted = refl
each_collisions d field.Touched r sorted = refl
each_collisions d field.Guard r sorted = refl
each_collisions d (field.Prop n) r sorted = refl

each_touched : (d : Document) (f : Field) (r : Revision) → IsSorted d → (pruned d (record { field = f; revision = r })).touched ≡ cond (is_touched f) (without_revision r d.touched) d.touched
each_touched d field.Deleted r sorted = refl
each_touched d field.CommitRoot r sorted = refl
each_touched d field.Revisions r sorted = refl
each_touched d field.Collisions r sorted = refl
each_touched d field.Touched r sorted = refl
each_touched d field.Guard r sorted = refl
each_touched d (field.Prop n) r sorted = refl

each_guard : (d : Document) (f : Field) (r : Revision) → IsSorted d → (pruned d (record { field = f; revision = r })).guard ≡ cond (is_guard f) (without_revision r d.guard) d.guard
each_guard d field.Deleted r sorted = refl
each_guard d field.CommitRoot r sorted = refl
each_guard d field.Revisions r sorted = refl
each_guard d field.Collisions r sorted = refl
each_guard d field.Touched r sorted = refl
each_guard d field.Guard r sorted = refl
each_guard d (field.Prop n) r sorted = refl

same_name : (a b : Name) → eq_by_cmp name_cmp a b ≡ true → a ≡ b
same_name a b = (tested nat_list_cmp_total name_exact a b).0

value_at : (ps : Props) (n k : Name) (vs : List (Revision × Option Property)) → IsStrictlySortedBy name_cmp (keys_of ps) → values_of_property (with_values ps n vs) k ≡ cond (eq_by_cmp name_cmp k n) vs (values_of_property ps k)
value_at ps n k [] sorted = ap (λ o. unwrap_or o []) (lookup_removed name_cmp nat_list_cmp_total name_exact n k ps sorted) ∙ by (eq_by_cmp name_cmp k n)
  where
    by : (b : Bool) → unwrap_or (cond b None (lookup (is_at (name_cmp k)) ps)) [] ≡ cond b [] (values_of_property ps k)
    by true = refl
    by false = refl
value_at ps n k (v ∷ vs) sorted = ap (λ o. unwrap_or o []) (lookup-insert_entry name_cmp nat_list_cmp_total k n (v ∷ vs) ps) ∙ by (eq_by_cmp name_cmp k n)
  where
    by : (b : Bool) → unwrap_or (cond b (Some (v ∷ vs)) (lookup (is_at (name_cmp k)) ps)) [] ≡ cond b (v ∷ vs) (values_of_property ps k)
    by true = refl
    by false = refl

each_prop : (n : Name) (d : Document) (f : Field) (r : Revision) → IsSorted d → values_of_property (pruned d (record { field = f; revision = r })).props n ≡ cond (is_prop n f) (without_revision r (values_of_property d.props n)) (values_of_property d.props n)
each_prop n d field.Deleted r sorted = refl
each_prop n d field.CommitRoot r sorted = refl
each_prop n d field.Revisions r sorted = refl
each_prop n d field.Collisions r sorted = refl
each_prop n d field.Touched r sorted = refl
each_prop n d field.Guard r sorted = refl
each_prop n d (field.Prop k) r sorted = value_at d.props k n (without_revision r (values_of_property d.props k)) sorted ∙ by (eq_by_cmp name_cmp n k) refl
  where
    by : (b : Bool) → eq_by_cmp name_cmp n k ≡ b → cond b (without_revision r (values_of_property d.props k)) (values_of_property d.props n) ≡ cond b (without_revision r (values_of_property d.props n)) (values_of_property d.props n)
    by true is = ap (λ m. without_revision r (values_of_property d.props m)) (sym (same_name n k is))
    by false is = refl

module _ (m t : RevVec) (d : Document) (sorted : IsSorted d) where
  -- the keys of each field, and those of all fields up to it
  abbrev deleted_keys : List EntryKey
  deleted_keys = keys_where (is_superseded m t (keys_of d.deleted)) field.Deleted d.deleted

  abbrev root_keys : List EntryKey
  root_keys = keys_where (sees t) field.CommitRoot d.commit_root

  abbrev revision_keys : List EntryKey
  revision_keys = keys_where (sees t) field.Revisions d.revisions

  abbrev collision_keys : List EntryKey
  collision_keys = keys_where (sees m) field.Collisions d.collisions

  abbrev touched_keys : List EntryKey
  touched_keys = keys_where (sees m) field.Touched d.touched

  abbrev guard_keys : List EntryKey
  guard_keys = keys_where (sees m) field.Guard d.guard

  abbrev value_keys : List EntryKey
  value_keys = flat_map (λ p. keys_where (is_superseded m t (keys_of p.1)) (field.Prop p.0) p.1) d.props

  abbrev to_roots : List EntryKey
  to_roots = deleted_keys ++ root_keys

  abbrev to_revisions : List EntryKey
  to_revisions = to_roots ++ revision_keys

  abbrev to_collisions : List EntryKey
  to_collisions = to_revisions ++ collision_keys

  abbrev to_touched : List EntryKey
  to_touched = to_collisions ++ touched_keys

  abbrev to_guard : List EntryKey
  to_guard = to_touched ++ guard_keys

  abbrev ks : List EntryKey
  ks = to_guard ++ value_keys

  abbrev left : Document
  left = fold pruned d ks

  -- what hits one of the keys of a field hits one of all
  module _ (p : EntryKey → Bool) where
    of_values : list_any p value_keys ≡ true → list_any p ks ≡ true
    of_values h = any_second p to_guard value_keys h

    of_guard : list_any p guard_keys ≡ true → list_any p ks ≡ true
    of_guard h = any_first p to_guard value_keys (any_second p to_touched guard_keys h)

    among_touched : list_any p to_touched ≡ true → list_any p ks ≡ true
    among_touched h = any_first p to_guard value_keys (any_first p to_touched guard_keys h)

    of_touched : list_any p touched_keys ≡ true → list_any p ks ≡ true
    of_touched h = among_touched (any_second p to_collisions touched_keys h)

    of_collisions : list_any p collision_keys ≡ true → list_any p ks ≡ true
    of_collisions h = among_touched (any_first p to_collisions touched_keys (any_second p to_revisions collision_keys h))

    among_revisions : list_any p to_revisions ≡ true → list_any p ks ≡ true
    among_revisions h = among_touched (any_first p to_collisions touched_keys (any_first p to_revisions collision_keys h))

    of_revisions : list_any p revision_keys ≡ true → list_any p ks ≡ true
    of_revisions h = among_revisions (any_second p to_roots revision_keys h)

    of_roots : list_any p root_keys ≡ true → list_any p ks ≡ true
    of_roots h = among_revisions (any_first p to_roots revision_keys (any_second p deleted_keys root_keys h))

    of_deleted : list_any p deleted_keys ≡ true → list_any p ks ≡ true
    of_deleted h = among_revisions (any_first p to_roots revision_keys (any_first p deleted_keys root_keys h))

  abbrev prop_keys : Name × List (Revision × Option Property) → List EntryKey
  prop_keys p = keys_where (is_superseded m t (keys_of p.1)) (field.Prop p.0) p.1

  abbrev props_keys : Props → List EntryKey
  props_keys ps = flat_map (λ p. keys_where (is_superseded m t (keys_of p.1)) (field.Prop p.0) p.1) ps

  -- of the keys of one property's values
  covers_props : (n : Name) (ps : Props) → AllByRecursion (λ e. is_superseded m t (keys_of (values_of_property ps n)) e.0 ≡ true
      → list_any (hits (is_prop n) e.0) (flat_map (λ p. keys_where (is_superseded m t (keys_of p.1)) (field.Prop p.0) p.1) ps) ≡ true) (values_of_property ps n)
  covers_props n [] = tt
  covers_props n (p ∷ ps) = by (eq_by_cmp name_cmp n p.0) refl (covers_props n ps)
    where
      by : (b : Bool) → eq_by_cmp name_cmp n p.0 ≡ b → AllByRecursion (λ e. is_superseded m t (keys_of (values_of_property ps n)) e.0 ≡ true → list_any (hits (is_prop n) e.0) (props_keys ps) ≡ true) (values_of_property ps n)
          → AllByRecursion (λ e. is_superseded m t (keys_of (unwrap_or (cond b (Some p.1) (lookup (is_at (name_cmp n)) ps)) [])) e.0 ≡ true → list_any (hits (is_prop n) e.0) (prop_keys p ++ props_keys ps) ≡ true) (unwrap_or (cond b (Some p.1) (lookup (is_at (name_cmp n)) ps)) [])
      by true is rest = all_of (λ e. is_superseded m t (keys_of p.1) e.0 ≡ true → list_any (hits (is_prop n) e.0) (prop_keys p) ≡ true) _ (λ e h is. any_first (hits (is_prop n) e.0) (prop_keys p) (props_keys ps) (h is)) p.1 (covers (is_prop n) (field.Prop p.0) is (is_superseded m t (keys_of p.1)) p.1)
      by false is rest = all_of (λ e. is_superseded m t (keys_of (values_of_property ps n)) e.0 ≡ true → list_any (hits (is_prop n) e.0) (props_keys ps) ≡ true) _ (λ e h is. any_second (hits (is_prop n) e.0) (prop_keys p) (props_keys ps) (h is)) (values_of_property ps n) rest

  -- what was not superseded isn't by fewer
  not_by_fewer : {X : Type 0} (f : Revision × X → Bool) (es : List (Revision × X)) (r : Revision) → is_superseded m t (keys_of es) r ≡ false → is_superseded m t (keys_of (filter f es)) r ≡ false
  not_by_fewer f es r h = second_false (sees m r) (list_any (λ q. is_before r q && sees m q && sees t q) (keys_of es)) (list_any (λ q. is_before r q && sees m q && sees t q) (keys_of (filter f es))) (fewer (λ q. is_before r q && sees m q && sees t q) f es) h

  -- of a field whose entries that pass a test are all dropped none is left that passes
  module _ {X : Type 0} (get : Document → List (Revision × X)) (is_of : Field → Bool)
      (each : (d : Document) (f : Field) (r : Revision) → IsSorted d → get (pruned d (record { field = f; revision = r })) ≡ cond (is_of f) (without_revision r (get d)) (get d)) where
    cleared : (f : Field) → is_of f ≡ true → (test : Revision → Bool) → ((p : EntryKey → Bool) → list_any p (keys_where test f (get d)) ≡ true → list_any p ks ≡ true)
        → AllByRecursion (λ e. test e.0 ≡ false) (undropped is_of ks (get d))
    cleared f of test in_all =
        none_left is_of ks test (get d)
        (all_of (λ e. test e.0 ≡ true → list_any (hits is_of e.0) (keys_where test f (get d)) ≡ true) _ (λ e h is. in_all (hits is_of e.0) (h is)) (get d) (covers is_of f of test (get d)))

    -- a test that stays
    none_of : (f : Field) → is_of f ≡ true → (test : Revision → Bool) → ((p : EntryKey → Bool) → list_any p (keys_where test f (get d)) ≡ true → list_any p ks ≡ true) → keys_where test f (get left) ≡ []
    none_of f of test in_all = no_keys test f (get left) (subst (λ es. AllByRecursion (λ (e : Revision × X). test e.0 ≡ false) es) (sym (after_keys get is_of each ks d sorted)) (cleared f of test in_all))

  none_deleted : keys_where (is_superseded m t (keys_of left.deleted)) field.Deleted left.deleted ≡ []
  none_deleted =
      subst (λ (es : List (Revision × Bool)). keys_where (is_superseded m t (keys_of es)) field.Deleted es ≡ []) (sym (after_keys (λ d. d.deleted) is_deleted each_deleted ks d sorted))
      (no_keys (is_superseded m t (keys_of (undropped is_deleted ks d.deleted))) field.Deleted (undropped is_deleted ks d.deleted)
      (all_of (λ e. is_superseded m t (keys_of d.deleted) e.0 ≡ false) _ (λ e h. not_by_fewer (λ e. not (list_any (hits is_deleted e.0) ks)) d.deleted e.0 h) (undropped is_deleted ks d.deleted)
      (cleared (λ d. d.deleted) is_deleted each_deleted field.Deleted refl (is_superseded m t (keys_of d.deleted)) of_deleted)))

  left_sorted : (ks : List EntryKey) (e : Document) → IsSorted e → IsSorted (fold pruned e ks)
  left_sorted [] e is = is
  left_sorted (k ∷ ks) e is = left_sorted ks (pruned e k) (stays_sorted e k is)

  none_of_value : (n : Name) (vs : List (Revision × Option Property)) → lookup (is_at (name_cmp n)) left.props ≡ Some vs → keys_where (is_superseded m t (keys_of vs)) (field.Prop n) vs ≡ []
  none_of_value n vs found =
      subst (λ (es : List (Revision × Option Property)). keys_where (is_superseded m t (keys_of es)) (field.Prop n) es ≡ [])
      (sym (after_keys (λ d. values_of_property d.props n) (is_prop n) (each_prop n) ks d sorted) ∙ ap (λ o. unwrap_or o []) found)
      (no_keys (is_superseded m t (keys_of (undropped (is_prop n) ks (values_of_property d.props n)))) (field.Prop n) (undropped (is_prop n) ks (values_of_property d.props n))
      (all_of (λ e. is_superseded m t (keys_of (values_of_property d.props n)) e.0 ≡ false) _ (λ e h. not_by_fewer (λ e. not (list_any (hits (is_prop n) e.0) ks)) (values_of_property d.props n) e.0 h) (undropped (is_prop n) ks (values_of_property d.props n))
      (none_left (is_prop n) ks (is_superseded m t (keys_of (values_of_property d.props n))) (values_of_property d.props n)
      (all_of (λ e. is_superseded m t (keys_of (values_of_property d.props n)) e.0 ≡ true → list_any (hits (is_prop n) e.0) value_keys ≡ true) _ (λ e h is. of_values (hits (is_prop n) e.0) (h is)) (values_of_property d.props n) (covers_props n d.props)))))

  none_of_values : (ps : Props) → AllByRecursion (λ p. lookup (is_at (name_cmp p.0)) left.props ≡ Some p.1) ps → flat_map (λ p. keys_where (is_superseded m t (keys_of p.1)) (field.Prop p.0) p.1) ps ≡ []
  none_of_values [] h = refl
  none_of_values (p ∷ ps) h = both_none (keys_where (is_superseded m t (keys_of p.1)) (field.Prop p.0) p.1) (flat_map (λ p. keys_where (is_superseded m t (keys_of p.1)) (field.Prop p.0) p.1) ps) (none_of_value p.0 p.1 h.0) (none_of_values ps h.1)

  none_at_all : garbage_in m t left ≡ []
  none_at_all =
      both_none _ _
      (both_none _ _
      (both_none _ _
      (both_none _ _
      (both_none _ _
      (both_none _ _ none_deleted (none_of (λ d. d.commit_root) is_commit_root each_commit_root field.CommitRoot refl (sees t) of_roots))
      (none_of (λ d. d.revisions) is_revisions each_revisions field.Revisions refl (sees t) of_revisions))
      (none_of (λ d. d.collisions) is_collisions each_collisions field.Collisions refl (sees m) of_collisions))
      (none_of (λ d. d.touched) is_touched each_touched field.Touched refl (sees m) of_touched))
      (none_of (λ d. d.guard) is_guard each_guard field.Guard refl (sees m) of_guard))
      (none_of_values left.props (each_found name_cmp nat_list_cmp_total name_exact left.props (left_sorted ks d sorted)))

unlisted_alike : (m t : RevVec) (ns : List ℕ) (d : Document) → garbage_in m t (fold changed d (map change.Unlist ns)) ≡ garbage_in m t d
unlisted_alike m t [] d = refl
unlisted_alike m t (n ∷ ns) d = unlisted_alike m t ns (changed d (change.Unlist n))

pub leaves_no_garbage : LeavesNoGarbage
leaves_no_garbage m t d ns number sorted = unlisted_alike m t ns (fold pruned d (garbage_in m t d)) ∙ none_at_all m t d sorted
