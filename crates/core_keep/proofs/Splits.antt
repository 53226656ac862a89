-- The two updates of a split move what its definition says.
use Rattle.std.proofs.Common.{◌≡◌, ◌⊎◌, inl, inr, ℕ, take, Bool, true, false, cond, ◌&&◌, ◌||◌, Some, None, Option, List, [], ◌∷◌, ◌++◌, map, refl, sym, ap, ◌∙◌, subst, is_some}
use Rattle.std.specs.Option.{option_map, option_map_or, option_or, option_and_then, unwrap_or}
use Rattle.std.specs.Ordering.{is_eq, eq_by_cmp}
use Rattle.std.specs.Cmp.{tied_itself}
use Rattle.std.specs.Map.{keys_of, lookup}
use Rattle.std.specs.BTreeMap.{is_at, insert_entry}
use Rattle.std.specs.FinMap.{is_sorted}
use Rattle.std.specs.FinMap.Entries.{below_all}
use Rattle.std.specs.List.{filter, fold, flat_map, list_any}
use Rattle.std.proofs.lemmas.Cmp.{nat_list_cmp_total}
use mathlib.Core.Bool.{false≢true}
use Rattle.jr_path.specs.Names.{name_cmp}
use Rattle.jr_path.specs.declared.name.Name.{Name}
use Rattle.jr_path.specs.declared.path.Path.{Path}
use Rattle.jr_path.specs.declared.path.DocId.TheVariants as id
use Rattle.jr_path.proofs.Maps.{lookup-insert_entry}
use Rattle.jr_value.specs.declared.value.Property.{Property}
use Rattle.jr_rev.specs.declared.revision.Revision.{Revision}
use Rattle.jr_rev.specs.declared.vector.Pin.{Pin}
use Rattle.jr_rev.specs.Revisions.{revision_cmp, is_before, is_same}
use Rattle.jr_rev.specs.Vectors.{sees}
use Rattle.jr_rev.proofs.Order.{revision_total}
use Rattle.jr_tree.proofs.Proper.{same_name}
use Rattle.oak_doc.specs.declared.document.Document.{Document}
use Rattle.oak_doc.specs.declared.document.PrevEntry.{PrevEntry}
use Rattle.oak_doc.specs.declared.update.EntryKey.{EntryKey}
use Rattle.oak_doc.specs.declared.update.Field.TheVariants as field
use Rattle.oak_doc.specs.declared.update.Change.{Change}
use Rattle.oak_doc.specs.declared.update.Change.TheVariants as change
use Rattle.oak_doc.specs.Updates.{of_revision, with_revision, values_of_property, pruned, changed, after_changes, document_of, Props}
use Rattle.oak_read.specs.Meaning.{Documents, commit_root_of, is_committed, main_of, path_of}
use Rattle.oak_read.specs.Shown.{with_previous}
use Rattle.core_read.proofs.Entries.{none_below}
use Rattle.core_read.proofs.Latest.{same_revision, before_itself}
use Rattle.core_read.proofs.Updates.{own_with, values_with, some_not_empty}
use Rattle.core_keep.specs.Keeps.{Course, is_done, KeepsAt, IsPrevious}
use Rattle.core_keep.specs.Splits.{older, has_values, moved_props, moved_revisions, moved_roots, previous_write, main_write, IsInOrder}
use Rattle.core_keep.specs.Standing.{values_in}
use Rattle.core_keep.specs.Steps.{IsMoved, IsParted}
use Rattle.core_keep.specs.Formers.{Former, IsCopyOf}
use Rattle.core_keep.proofs.Item.{and_both, some_of, not_true, either_true}
use Rattle.core_keep.proofs.Found.{found_append, found_first}
use Rattle.core_keep.proofs.Garbage.{drops_value, drops_root, drops_deleted, drops_status, by_keys, after_keys, one_value, same_parts, sorted_keys}

-- ---- all but the last

same_some : (q r : Revision) → eq_by_cmp revision_cmp q r ≡ true → q ≡ r
same_some = same_revision

pub older_is : {X : Type 0} (es : List (Revision × X)) (q : Revision) (x : X) → of_revision (older es) q ≡ Some x → of_revision es q ≡ Some x
older_is [] q x h = h
older_is (a ∷ []) q x h = absurd (false≢true (ap is_some h))
older_is (a ∷ b ∷ es) q x h = by (eq_by_cmp revision_cmp q a.0) (older_is (b ∷ es) q x) h
  where
    by : (t : Bool) → (of_revision (older (b ∷ es)) q ≡ Some x → of_revision (b ∷ es) q ≡ Some x) → cond t (Some a.1) (of_revision (older (b ∷ es)) q) ≡ Some x → cond t (Some a.1) (of_revision (b ∷ es) q) ≡ Some x
    by true rest h = h
    by false rest h = rest h

-- the last
last_of : {X : Type 0} → Revision × X → List (Revision × X) → Revision
last_of a [] = a.0
last_of a (b ∷ es) = last_of b es

last_in : {X : Type 0} (a : Revision × X) (es : List (Revision × X)) → is_some (of_revision (a ∷ es) (last_of a es)) ≡ true
unfolding last_of
last_in a [] = ap is_some (found_first a [])
last_in a (b ∷ es) = by (eq_by_cmp revision_cmp (last_of b es) a.0) (last_in b es)
  where
    by : (t : Bool) → is_some (of_revision (b ∷ es) (last_of b es)) ≡ true → is_some (cond t (Some a.1) (of_revision (b ∷ es) (last_of b es))) ≡ true
    by true h = refl
    by false h = h

-- what is below all of a list is before each that is found
below_found : {X : Type 0} (r : Revision) (es : List (Revision × X)) → below_all revision_cmp r es ≡ true → (q : Revision) → is_some (of_revision es q) ≡ true → is_before r q ≡ true
below_found r [] b q h = absurd (false≢true h)
below_found r (e ∷ es) b q h = by (λ k. below_found r es (and_both _ _ b).1 q k) (eq_by_cmp revision_cmp q e.0) refl h
  where
    by : (is_some (of_revision es q) ≡ true → is_before r q ≡ true) → (t : Bool) → eq_by_cmp revision_cmp q e.0 ≡ t → is_some (cond t (Some e.1) (of_revision es q)) ≡ true → is_before r q ≡ true
    by rest true k h = subst (λ (x : Revision). is_before r x ≡ true) (sym (same_revision q e.0 k)) (and_both _ _ b).0
    by rest false k h = rest h

-- each but the last is before the last
older_before : {X : Type 0} (a : Revision × X) (es : List (Revision × X)) → is_sorted revision_cmp (a ∷ es) ≡ true → (q : Revision) → is_some (of_revision (older (a ∷ es)) q) ≡ true → is_before q (last_of a es) ≡ true
unfolding last_of
older_before a [] s q h = absurd (false≢true h)
older_before a (b ∷ es) s q h = by (λ k. older_before b es (and_both _ _ s).1 q k) (eq_by_cmp revision_cmp q a.0) refl h
  where
    by : (is_some (of_revision (older (b ∷ es)) q) ≡ true → is_before q (last_of b es) ≡ true) → (t : Bool) → eq_by_cmp revision_cmp q a.0 ≡ t → is_some (cond t (Some a.1) (of_revision (older (b ∷ es)) q)) ≡ true → is_before q (last_of b es) ≡ true
    by rest true k h = subst (λ (x : Revision). is_before x (last_of b es) ≡ true) (sym (same_revision q a.0 k)) (below_found a.0 (b ∷ es) (and_both _ _ s).0 (last_of b es) (last_in b es))
    by rest false k h = rest h

-- so behind each of them stands one that isn't among them
pub older_behind : {X : Type 0} (es : List (Revision × X)) → is_sorted revision_cmp es ≡ true → (q : Revision) → is_some (of_revision (older es) q) ≡ true
    → (r : Revision) × (is_before q r ≡ true) × (is_some (of_revision es r) ≡ true) × (of_revision (older es) r ≡ None)
older_behind [] s q h = absurd (false≢true h)
older_behind (a ∷ es) s q h = (last_of a es, older_before a es s q h, last_in a es, Rattle.core_keep.proofs.Item.is_none _ (λ x k. false≢true (sym (before_itself (last_of a es)) ∙ older_before a es s (last_of a es) (ap is_some k))))

-- ---- what passes a test

none : {X : Type 0} (b : Bool) → ◌≡◌ {A = Option X} None (cond b None None)
none true = refl
none false = refl

pub passing_found : {X : Type 0} (test : Revision → Bool) (es : List (Revision × X)) (q : Revision) → of_revision (filter (λ e. test e.0) es) q ≡ cond (test q) (of_revision es q) None
passing_found {X} test [] q = none (test q)
passing_found {X} test (e ∷ es) q = by (passing_found test es q) (test e.0) refl (eq_by_cmp revision_cmp q e.0) refl
  where
    by : of_revision (filter (λ e. test e.0) es) q ≡ cond (test q) (of_revision es q) None → (b : Bool) → test e.0 ≡ b → (k : Bool) → eq_by_cmp revision_cmp q e.0 ≡ k
        → of_revision (cond b (e ∷ filter (λ e. test e.0) es) (filter (λ e. test e.0) es)) q ≡ cond (test q) (cond k (Some e.1) (of_revision es q)) None
    by rest true h true k = ap (λ b. cond b (Some e.1) (of_revision (filter (λ e. test e.0) es) q)) k ∙ sym (ap (λ b. cond b (Some e.1) None) (ap test (same_revision q e.0 k) ∙ h))
    by rest true h false k = ap (λ b. cond b (Some e.1) (of_revision (filter (λ e. test e.0) es) q)) k ∙ rest
    by rest false h true k = rest ∙ (ap (λ b. cond b (of_revision es q) None) (ap test (same_revision q e.0 k) ∙ h) ∙ sym (ap (λ b. cond b (Some e.1) None) (ap test (same_revision q e.0 k) ∙ h)))
    by rest false h false k = rest

below_filter : {X : Type 0} (r : Revision) (test : Revision → Bool) (es : List (Revision × X)) → below_all revision_cmp r es ≡ true → below_all revision_cmp r (filter (λ e. test e.0) es) ≡ true
below_filter r test [] h = refl
below_filter r test (e ∷ es) h = by (test e.0) (below_filter r test es (and_both _ _ h).1)
  where
    both : (a b : Bool) → a ≡ true → b ≡ true → (a && b) ≡ true
    both true b p q = q
    both false b p q = absurd (false≢true p)

    by : (b : Bool) → below_all revision_cmp r (filter (λ e. test e.0) es) ≡ true → below_all revision_cmp r (cond b (e ∷ filter (λ e. test e.0) es) (filter (λ e. test e.0) es)) ≡ true
    by true rest = both _ _ (and_both _ _ h).0 rest
    by false rest = rest

sorted_filter : {X : Type 0} (test : Revision → Bool) (es : List (Revision × X)) → is_sorted revision_cmp es ≡ true → is_sorted revision_cmp (filter (λ e. test e.0) es) ≡ true
sorted_filter test [] s = refl
sorted_filter test (e ∷ es) s = by (test e.0) (sorted_filter test es (and_both _ _ s).1)
  where
    both : (a b : Bool) → a ≡ true → b ≡ true → (a && b) ≡ true
    both true b p q = q
    both false b p q = absurd (false≢true p)

    by : (b : Bool) → is_sorted revision_cmp (filter (λ e. test e.0) es) ≡ true → is_sorted revision_cmp (cond b (e ∷ filter (λ e. test e.0) es) (filter (λ e. test e.0) es)) ≡ true
    by true rest = both _ _ (below_filter e.0 test es (and_both _ _ s).0) rest
    by false rest = rest

-- ---- what moves of each property

-- a property that moves nothing is left out
kept_values : (g : List (Revision × Option Property) → List (Revision × Option Property)) → g [] ≡ [] → (ps : Props) → is_sorted name_cmp ps ≡ true → (n : Name) → values_of_property (filter has_values (map (λ p. (p.0, g p.1)) ps)) n ≡ g (values_of_property ps n)
kept_values g none [] s n = sym none
kept_values g none (e ∷ ps) s n = by (kept_values g none ps (and_both _ _ s).1 n) (g e.1) refl (eq_by_cmp name_cmp n e.0) refl
  where
    rest_none : eq_by_cmp name_cmp n e.0 ≡ true → values_of_property ps n ≡ []
    rest_none k = ap (λ o. unwrap_or o []) (none_below name_cmp nat_list_cmp_total n e.0 (Rattle.core_read.proofs.Entries.exactly _ k) ps (and_both _ _ s).0)

    others : Props
    others = filter has_values (map (λ p. (p.0, g p.1)) ps)

    by : values_of_property (filter has_values (map (λ p. (p.0, g p.1)) ps)) n ≡ g (values_of_property ps n) → (l : List (Revision × Option Property)) → g e.1 ≡ l → (k : Bool) → eq_by_cmp name_cmp n e.0 ≡ k
        → values_of_property (cond (has_values (e.0, l)) ((e.0, l) ∷ filter has_values (map (λ p. (p.0, g p.1)) ps)) (filter has_values (map (λ p. (p.0, g p.1)) ps))) n ≡ g (unwrap_or (cond k (Some e.1) (lookup (is_at (name_cmp n)) ps)) [])
    by rest [] h true k = rest ∙ (ap g (rest_none k) ∙ (none ∙ sym h))
    by rest [] h false k = rest
    by rest (x ∷ l) h true k = ap (λ b. unwrap_or (cond b (Some (x ∷ l)) (lookup (is_at (name_cmp n)) (filter has_values (map (λ p. (p.0, g p.1)) ps)))) []) k ∙ sym h
    by rest (x ∷ l) h false k = ap (λ b. unwrap_or (cond b (Some (x ∷ l)) (lookup (is_at (name_cmp n)) (filter has_values (map (λ p. (p.0, g p.1)) ps)))) []) k ∙ rest

-- ---- values are written

-- one value more
put_value : (d : Document) (m n : Name) (r q : Revision) (x : Option Property) → of_revision (values_of_property (changed d (change.Prop m r x)).props n) q ≡ cond (eq_by_cmp name_cmp n m) (cond (is_same q r) (Some x) (of_revision (values_of_property d.props m) q)) (of_revision (values_of_property d.props n) q)
put_value d m n r q x =
    ap (λ (es : List (Revision × Option Property)). of_revision es q) (values_with d.props m n (with_revision (values_of_property d.props m) r x) (λ e. some_not_empty _ r (ap is_some (own_with (values_of_property d.props m) r x)) _ e))
    ∙ by (eq_by_cmp name_cmp n m)
  where
    by : (b : Bool) → of_revision (cond b (with_revision (values_of_property d.props m) r x) (values_of_property d.props n)) q ≡ cond b (cond (is_same q r) (Some x) (of_revision (values_of_property d.props m) q)) (of_revision (values_of_property d.props n) q)
    by true = lookup-insert_entry revision_cmp revision_total q r x (values_of_property d.props m)
    by false = refl

abbrev puts : Name → List (Revision × Option Property) → List Change
puts m es = map (λ e. change.Prop m e.0 e.1) es

-- the values of one property
put_values : (m : Name) (es : List (Revision × Option Property)) → is_sorted revision_cmp es ≡ true → (d : Document) (n : Name) (q : Revision)
    → of_revision (values_of_property (fold changed d (puts m es)).props n) q ≡ cond (eq_by_cmp name_cmp n m) (option_or (of_revision es q) (of_revision (values_of_property d.props m) q)) (of_revision (values_of_property d.props n) q)
put_values m [] s d n q = by (eq_by_cmp name_cmp n m) refl
  where
    by : (b : Bool) → eq_by_cmp name_cmp n m ≡ b → of_revision (values_of_property d.props n) q ≡ cond b (of_revision (values_of_property d.props m) q) (of_revision (values_of_property d.props n) q)
    by true k = ap (λ (a : Name). of_revision (values_of_property d.props a) q) (same_name n m k)
    by false k = refl
put_values m (e ∷ es) s d n q =
    put_values m es (and_both _ _ s).1 (changed d (change.Prop m e.0 e.1)) n q ∙ by (eq_by_cmp name_cmp n m) refl
  where
    own : of_revision (values_of_property (changed d (change.Prop m e.0 e.1)).props m) q ≡ cond (is_same q e.0) (Some e.1) (of_revision (values_of_property d.props m) q)
    own = put_value d m m e.0 q e.1 ∙ ap (λ o. cond (is_eq o) (cond (is_same q e.0) (Some e.1) (of_revision (values_of_property d.props m) q)) (of_revision (values_of_property d.props m) q)) (tied_itself nat_list_cmp_total m)

    join : (b : Bool) → is_same q e.0 ≡ b → (o : Option (Option Property)) → option_or (of_revision es q) (cond b (Some e.1) o) ≡ option_or (cond b (Some e.1) (of_revision es q)) o
    join true k o = ap (λ w. option_or w (Some e.1)) (none_below revision_cmp revision_total q e.0 (Rattle.core_read.proofs.Entries.exactly _ k) es (and_both _ _ s).0)
    join false k o = refl

    by : (b : Bool) → eq_by_cmp name_cmp n m ≡ b → cond b (option_or (of_revision es q) (of_revision (values_of_property (changed d (change.Prop m e.0 e.1)).props m) q)) (of_revision (values_of_property (changed d (change.Prop m e.0 e.1)).props n) q)
        ≡ cond b (option_or (of_revision (e ∷ es) q) (of_revision (values_of_property d.props m) q)) (of_revision (values_of_property d.props n) q)
    by true k = ap (option_or (of_revision es q)) own ∙ join (is_same q e.0) refl (of_revision (values_of_property d.props m) q)
    by false k = put_value d m n e.0 q e.1 ∙ ap (λ b. cond b (cond (is_same q e.0) (Some e.1) (of_revision (values_of_property d.props m) q)) (of_revision (values_of_property d.props n) q)) k

-- the values of all
abbrev all_puts : Props → List Change
all_puts ps = flat_map (λ p. puts p.0 p.1) ps

AreSorted : Props → Type 0
AreSorted [] = Unit {0}
AreSorted (p ∷ ps) = (is_sorted revision_cmp p.1 ≡ true) × AreSorted ps

fold_append : {A B : Type 0} (f : A → B → A) (xs ys : List B) (a : A) → fold f a (xs ++ ys) ≡ fold f (fold f a xs) ys
fold_append f [] ys a = refl
fold_append f (x ∷ xs) ys a = fold_append f xs ys (f a x)

put_all : (ps : Props) → is_sorted name_cmp ps ≡ true → AreSorted ps → (d : Document) (n : Name) (q : Revision) → of_revision (values_of_property (fold changed d (all_puts ps)).props n) q ≡ option_or (of_revision (values_of_property ps n) q) (of_revision (values_of_property d.props n) q)
unfolding AreSorted
put_all [] s each d n q = refl
put_all (p ∷ ps) s each d n q =
    ap (λ (e : Document). of_revision (values_of_property e.props n) q) (fold_append changed (puts p.0 p.1) (all_puts ps) d)
    ∙ (put_all ps (and_both _ _ s).1 each.1 (fold changed d (puts p.0 p.1)) n q
    ∙ (ap (option_or (of_revision (values_of_property ps n) q)) (put_values p.0 p.1 each.0 d n q) ∙ by (eq_by_cmp name_cmp n p.0) refl))
  where
    by : (b : Bool) → eq_by_cmp name_cmp n p.0 ≡ b → option_or (of_revision (values_of_property ps n) q) (cond b (option_or (of_revision p.1 q) (of_revision (values_of_property d.props p.0) q)) (of_revision (values_of_property d.props n) q))
        ≡ option_or (of_revision (unwrap_or (cond b (Some p.1) (lookup (is_at (name_cmp n)) ps)) []) q) (of_revision (values_of_property d.props n) q)
    by true k =
        ap (λ (o : Option (List (Revision × Option Property))). option_or (of_revision (unwrap_or o []) q) (option_or (of_revision p.1 q) (of_revision (values_of_property d.props p.0) q))) (none_below name_cmp nat_list_cmp_total n p.0 (Rattle.core_read.proofs.Entries.exactly _ k) ps (and_both _ _ s).0)
        ∙ ap (λ (a : Name). option_or (of_revision p.1 q) (of_revision (values_of_property d.props a) q)) (sym (same_name n p.0 k))
    by false k = refl

-- other parts stay
record IsBeside (d e : Document) : Type 0 where
  deleted : e.deleted ≡ d.deleted
  roots : e.commit_root ≡ d.commit_root
  names : e.id ≡ d.id

beside_puts : (m : Name) (es : List (Revision × Option Property)) (d : Document) → IsBeside d (fold changed d (puts m es))
beside_puts m [] d = record { deleted = refl; roots = refl; names = refl }
beside_puts m (e ∷ es) d = let r = beside_puts m es (changed d (change.Prop m e.0 e.1)) in record { deleted = r.deleted; roots = r.roots; names = r.names }

beside_all : (ps : Props) (d : Document) → IsBeside d (fold changed d (all_puts ps))
beside_all [] d = record { deleted = refl; roots = refl; names = refl }
beside_all (p ∷ ps) d =
    let a = beside_puts p.0 p.1 d in
    let b = beside_all ps (fold changed d (puts p.0 p.1)) in
    let shape = fold_append changed (puts p.0 p.1) (all_puts ps) d in
    record {
      deleted = ap (λ (e : Document). e.deleted) shape ∙ (b.deleted ∙ a.deleted);
      roots = ap (λ (e : Document). e.commit_root) shape ∙ (b.roots ∙ a.roots);
      names = ap (λ (e : Document). e.id) shape ∙ (b.names ∙ a.names);
    }

-- ---- commit roots are noted

abbrev notes_of : List (Revision × ℕ) → List Change
notes_of es = map (λ e. change.CommitRoot e.0 e.1) es

record IsNoted (d e : Document) : Type 0 where
  deleted : e.deleted ≡ d.deleted
  props : e.props ≡ d.props
  names : e.id ≡ d.id

noted_all : (es : List (Revision × ℕ)) (d : Document) → IsNoted d (fold changed d (notes_of es))
noted_all [] d = record { deleted = refl; props = refl; names = refl }
noted_all (e ∷ es) d = let r = noted_all es (changed d (change.CommitRoot e.0 e.1)) in record { deleted = r.deleted; props = r.props; names = r.names }

note_roots : (es : List (Revision × ℕ)) → is_sorted revision_cmp es ≡ true → (d : Document) (q : Revision) → of_revision (fold changed d (notes_of es)).commit_root q ≡ option_or (of_revision es q) (of_revision d.commit_root q)
note_roots [] s d q = refl
note_roots (e ∷ es) s d q =
    note_roots es (and_both _ _ s).1 (changed d (change.CommitRoot e.0 e.1)) q
    ∙ (ap (option_or (of_revision es q)) (lookup-insert_entry revision_cmp revision_total q e.0 e.1 d.commit_root) ∙ by (is_same q e.0) refl)
  where
    by : (b : Bool) → is_same q e.0 ≡ b → option_or (of_revision es q) (cond b (Some e.1) (of_revision d.commit_root q)) ≡ option_or (cond b (Some e.1) (of_revision es q)) (of_revision d.commit_root q)
    by true k = ap (λ w. option_or w (Some e.1)) (none_below revision_cmp revision_total q e.0 (Rattle.core_read.proofs.Entries.exactly _ k) es (and_both _ _ s).0)
    by false k = refl

-- ---- the keys that move

key_in_list : {X : Type 0} (es : List (Revision × X)) (q : Revision) → list_any (is_same q) (keys_of es) ≡ is_some (of_revision es q)
key_in_list [] q = refl
key_in_list (e ∷ es) q = ap (λ b. is_same q e.0 || b) (key_in_list es q) ∙ by (is_same q e.0)
  where
    by : (b : Bool) → (b || is_some (of_revision es q)) ≡ is_some (cond b (Some e.1) (of_revision es q))
    by true = refl
    by false = refl

abbrev keys_for : Name → List (Revision × Option Property) → List EntryKey
keys_for m es = map (λ e. record { field = field.Prop m; revision = e.0 }) es

abbrev all_keys : Props → List EntryKey
all_keys ps = flat_map (λ p. keys_for p.0 p.1) ps

keys_hit : (n m : Name) (es : List (Revision × Option Property)) (q : Revision) → by_keys (drops_value n) (keys_for m es) q ≡ (eq_by_cmp name_cmp n m && is_some (of_revision es q))
keys_hit n m [] q = by (eq_by_cmp name_cmp n m)
  where
    by : (b : Bool) → false ≡ (b && false)
    by true = refl
    by false = refl
keys_hit n m (e ∷ es) q = ap (λ b. (eq_by_cmp name_cmp n m && is_same q e.0) || b) (keys_hit n m es q) ∙ by (eq_by_cmp name_cmp n m) (is_same q e.0)
  where
    by : (a b : Bool) → ((a && b) || (a && is_some (of_revision es q))) ≡ (a && is_some (cond b (Some e.1) (of_revision es q)))
    by true true = refl
    by true false = refl
    by false b = refl

any_append : {A : Type 0} (test : A → Bool) (xs ys : List A) → list_any test (xs ++ ys) ≡ (list_any test xs || list_any test ys)
any_append test [] ys = refl
any_append test (x ∷ xs) ys = ap (λ b. test x || b) (any_append test xs ys) ∙ by (test x)
  where
    by : (a : Bool) → (a || (list_any test xs || list_any test ys)) ≡ ((a || list_any test xs) || list_any test ys)
    by true = refl
    by false = refl

all_hit : (ps : Props) → is_sorted name_cmp ps ≡ true → (n : Name) (q : Revision) → by_keys (drops_value n) (all_keys ps) q ≡ is_some (of_revision (values_of_property ps n) q)
all_hit [] s n q = refl
all_hit (p ∷ ps) s n q =
    any_append (λ (k : EntryKey). drops_value n k.field k.revision q) (keys_for p.0 p.1) (all_keys ps)
    ∙ (ap (λ b. b || by_keys (drops_value n) (all_keys ps) q) (keys_hit n p.0 p.1 q)
    ∙ (ap (λ b. (eq_by_cmp name_cmp n p.0 && is_some (of_revision p.1 q)) || b) (all_hit ps (and_both _ _ s).1 n q) ∙ by (eq_by_cmp name_cmp n p.0) refl))
  where
    or_false : (b : Bool) → (b || false) ≡ b
    or_false true = refl
    or_false false = refl

    by : (b : Bool) → eq_by_cmp name_cmp n p.0 ≡ b → ((b && is_some (of_revision p.1 q)) || is_some (of_revision (values_of_property ps n) q)) ≡ is_some (of_revision (unwrap_or (cond b (Some p.1) (lookup (is_at (name_cmp n)) ps)) []) q)
    by true k =
        ap (λ (o : Option (List (Revision × Option Property))). is_some (of_revision p.1 q) || is_some (of_revision (unwrap_or o []) q)) (none_below name_cmp nat_list_cmp_total n p.0 (Rattle.core_read.proofs.Entries.exactly _ k) ps (and_both _ _ s).0)
        ∙ or_false (is_some (of_revision p.1 q))
    by false k = refl

-- a revision of a key is among those that move
gathered : (keys : List EntryKey) (es : List (Revision × Bool)) (q : Revision) → is_some (of_revision (fold (λ es k. insert_entry revision_cmp es k.revision true) es keys) q) ≡ (list_any (λ (k : EntryKey). is_same q k.revision) keys || is_some (of_revision es q))
gathered [] es q = refl
gathered (k ∷ keys) es q =
    gathered keys (insert_entry revision_cmp es k.revision true) q
    ∙ (ap (λ (o : Option Bool). list_any (λ (k : EntryKey). is_same q k.revision) keys || is_some o) (lookup-insert_entry revision_cmp revision_total q k.revision true es) ∙ by (is_same q k.revision) (list_any (λ (k : EntryKey). is_same q k.revision) keys))
  where
    by : (a b : Bool) → (b || is_some (cond a (Some true) (of_revision es q))) ≡ ((a || b) || is_some (of_revision es q))
    by true true = refl
    by true false = refl
    by false b = refl

hit_revision : (n : Name) (keys : List EntryKey) (q : Revision) → by_keys (drops_value n) keys q ≡ true → list_any (λ (k : EntryKey). is_same q k.revision) keys ≡ true
hit_revision n [] q h = absurd (false≢true h)
hit_revision n (k ∷ keys) q h = by (either_true (drops_value n k.field k.revision q) (by_keys (drops_value n) keys q) h) (λ m. hit_revision n keys q m)
  where
    one : (f : Rattle.oak_doc.specs.declared.update.Field.Field) (r : Revision) → drops_value n f r q ≡ true → is_same q r ≡ true
    one (field.Prop m) r h = (and_both (eq_by_cmp name_cmp n m) (is_same q r) h).1
    one field.Deleted r h = absurd (false≢true h)
    one field.CommitRoot r h = absurd (false≢true h)
    one field.Revisions r h = absurd (false≢true h)
    one field.Collisions r h = absurd (false≢true h)
    one field.Touched r h = absurd (false≢true h)
    one field.Guard r h = absurd (false≢true h)

    or_l : (a b : Bool) → a ≡ true → (a || b) ≡ true
    or_l true b h = refl
    or_l false b h = absurd (false≢true h)

    or_r : (a b : Bool) → b ≡ true → (a || b) ≡ true
    or_r true b h = refl
    or_r false b h = h

    by : (drops_value n k.field k.revision q ≡ true) ⊎ (by_keys (drops_value n) keys q ≡ true) → (by_keys (drops_value n) keys q ≡ true → list_any (λ (k : EntryKey). is_same q k.revision) keys ≡ true) → (is_same q k.revision || list_any (λ (k : EntryKey). is_same q k.revision) keys) ≡ true
    by (inl h) rest = or_l _ _ (one k.field k.revision h)
    by (inr h) rest = or_r (is_same q k.revision) _ (rest h)

-- keys of properties leave other fields
no_hit : (ps : Props) (q : Revision) → (by_keys drops_deleted (all_keys ps) q ≡ false) × (by_keys drops_root (all_keys ps) q ≡ false) × (by_keys drops_status (all_keys ps) q ≡ false)
no_hit ps q = (over drops_deleted (λ m r. refl) ps, over drops_root (λ m r. refl) ps, over drops_status (λ m r. refl) ps)
  where
    list : (hit : Rattle.oak_doc.specs.declared.update.Field.Field → Revision → Revision → Bool) → ((m : Name) (r : Revision) → hit (field.Prop m) r q ≡ false) → (m : Name) (es : List (Revision × Option Property)) → by_keys hit (keys_for m es) q ≡ false
    list hit none m [] = refl
    list hit none m (e ∷ es) = ap (λ b. b || by_keys hit (keys_for m es) q) (none m e.0) ∙ list hit none m es

    over : (hit : Rattle.oak_doc.specs.declared.update.Field.Field → Revision → Revision → Bool) → ((m : Name) (r : Revision) → hit (field.Prop m) r q ≡ false) → (ps : Props) → by_keys hit (all_keys ps) q ≡ false
    over hit none [] = refl
    over hit none (p ∷ ps) = any_append (λ (k : EntryKey). hit k.field k.revision q) (keys_for p.0 p.1) (all_keys ps) ∙ (ap (λ b. b || by_keys hit (all_keys ps) q) (list hit none p.0 p.1) ∙ over hit none ps)

-- ---- order

both : (a b : Bool) → a ≡ true → b ≡ true → (a && b) ≡ true
both true b p q = q
both false b p q = absurd (false≢true p)

below_older : {X : Type 0} (r : Revision) (es : List (Revision × X)) → below_all revision_cmp r es ≡ true → below_all revision_cmp r (older es) ≡ true
below_older r [] h = h
below_older r (a ∷ []) h = refl
below_older r (a ∷ b ∷ es) h = both _ _ (and_both _ _ h).0 (below_older r (b ∷ es) (and_both _ _ h).1)

sorted_older : {X : Type 0} (es : List (Revision × X)) → is_sorted revision_cmp es ≡ true → is_sorted revision_cmp (older es) ≡ true
sorted_older [] s = s
sorted_older (a ∷ []) s = refl
sorted_older (a ∷ b ∷ es) s = both _ _ (below_older a.0 (b ∷ es) (and_both _ _ s).0) (sorted_older (b ∷ es) (and_both _ _ s).1)

module _ (g : List (Revision × Option Property) → List (Revision × Option Property)) where
  below_moved : (n : Name) (ps : Props) → below_all name_cmp n ps ≡ true → below_all name_cmp n (filter has_values (map (λ p. (p.0, g p.1)) ps)) ≡ true
  below_moved n [] h = h
  below_moved n (p ∷ ps) h = by (has_values (p.0, g p.1)) (below_moved n ps (and_both _ _ h).1)
    where
      rest : Props
      rest = filter has_values (map (λ p. (p.0, g p.1)) ps)

      by : (b : Bool) → below_all name_cmp n (filter has_values (map (λ p. (p.0, g p.1)) ps)) ≡ true → below_all name_cmp n (cond b ((p.0, g p.1) ∷ filter has_values (map (λ p. (p.0, g p.1)) ps)) (filter has_values (map (λ p. (p.0, g p.1)) ps))) ≡ true
      by true k = both _ _ (and_both _ _ h).0 k
      by false k = k

  sorted_moved : (ps : Props) → is_sorted name_cmp ps ≡ true → is_sorted name_cmp (filter has_values (map (λ p. (p.0, g p.1)) ps)) ≡ true
  sorted_moved [] s = s
  sorted_moved (p ∷ ps) s = by (has_values (p.0, g p.1)) (sorted_moved ps (and_both _ _ s).1)
    where
      by : (b : Bool) → is_sorted name_cmp (filter has_values (map (λ p. (p.0, g p.1)) ps)) ≡ true → is_sorted name_cmp (cond b ((p.0, g p.1) ∷ filter has_values (map (λ p. (p.0, g p.1)) ps)) (filter has_values (map (λ p. (p.0, g p.1)) ps))) ≡ true
      by true k = both _ _ (below_moved p.0 ps (and_both _ _ s).0) k
      by false k = k

  are_sorted : ((es : List (Revision × Option Property)) → is_sorted revision_cmp es ≡ true → is_sorted revision_cmp (g es) ≡ true) → (ps : Props) → Rattle.std.specs.List.list_all (λ p. is_sorted revision_cmp p.1) ps ≡ true → AreSorted (filter has_values (map (λ p. (p.0, g p.1)) ps))
  unfolding AreSorted
  are_sorted keep [] s = tt
  are_sorted keep (p ∷ ps) s = by (has_values (p.0, g p.1)) (are_sorted keep ps (and_both _ _ s).1)
    where
      by : (b : Bool) → AreSorted (filter has_values (map (λ p. (p.0, g p.1)) ps)) → AreSorted (cond b ((p.0, g p.1) ∷ filter has_values (map (λ p. (p.0, g p.1)) ps)) (filter has_values (map (λ p. (p.0, g p.1)) ps)))
      by true k = (keep p.1 (and_both _ _ s).0, k)
      by false k = k

values_sorted : (ps : Props) → Rattle.std.specs.List.list_all (λ p. is_sorted revision_cmp p.1) ps ≡ true → (n : Name) → is_sorted revision_cmp (values_of_property ps n) ≡ true
values_sorted [] s n = refl
values_sorted (p ∷ ps) s n = by (eq_by_cmp name_cmp n p.0) (values_sorted ps (and_both _ _ s).1 n)
  where
    by : (b : Bool) → is_sorted revision_cmp (values_of_property ps n) ≡ true → is_sorted revision_cmp (unwrap_or (cond b (Some p.1) (lookup (is_at (name_cmp n)) ps)) []) ≡ true
    by true k = (and_both _ _ s).0
    by false k = k

-- pruning of properties leaves the other lists
record LeavesLists (d e : Document) : Type 0 where
  deleted : e.deleted ≡ d.deleted
  roots : e.commit_root ≡ d.commit_root
  revisions : e.revisions ≡ d.revisions
  collisions : e.collisions ≡ d.collisions
  touched : e.touched ≡ d.touched
  guard : e.guard ≡ d.guard

leaves_one : (m : Name) (es : List (Revision × Option Property)) (d : Document) → LeavesLists d (fold pruned d (keys_for m es))
leaves_one m [] d = record { deleted = refl; roots = refl; revisions = refl; collisions = refl; touched = refl; guard = refl }
leaves_one m (e ∷ es) d = let r = leaves_one m es (pruned d (record { field = field.Prop m; revision = e.0 })) in record { deleted = r.deleted; roots = r.roots; revisions = r.revisions; collisions = r.collisions; touched = r.touched; guard = r.guard }

leaves_all : (ps : Props) (d : Document) → LeavesLists d (fold pruned d (all_keys ps))
leaves_all [] d = record { deleted = refl; roots = refl; revisions = refl; collisions = refl; touched = refl; guard = refl }
leaves_all (p ∷ ps) d =
    let a = leaves_one p.0 p.1 d in
    let b = leaves_all ps (fold pruned d (keys_for p.0 p.1)) in
    let shape = fold_append pruned (keys_for p.0 p.1) (all_keys ps) d in
    record {
      deleted = ap (λ (e : Document). e.deleted) shape ∙ (b.deleted ∙ a.deleted);
      roots = ap (λ (e : Document). e.commit_root) shape ∙ (b.roots ∙ a.roots);
      revisions = ap (λ (e : Document). e.revisions) shape ∙ (b.revisions ∙ a.revisions);
      collisions = ap (λ (e : Document). e.collisions) shape ∙ (b.collisions ∙ a.collisions);
      touched = ap (λ (e : Document). e.touched) shape ∙ (b.touched ∙ a.touched);
      guard = ap (λ (e : Document). e.guard) shape ∙ (b.guard ∙ a.guard);
    }

-- ---- the split

-- the commit root of an entry, by its note
root_place : (o u : Option ℕ) → o ≡ u → (a b : Document) → main_of a.id ≡ main_of b.id → path_of a.id ≡ path_of b.id → option_map_or (λ depth. id.Node (take depth (path_of a.id))) o (main_of a.id) ≡ option_map_or (λ depth. id.Node (take depth (path_of b.id))) u (main_of b.id)
root_place o None h a b m k = ap (λ o. option_map_or (λ depth. id.Node (take depth (path_of a.id))) o (main_of a.id)) h ∙ m
root_place o (Some depth) h a b m k = ap (λ o. option_map_or (λ depth. id.Node (take depth (path_of a.id))) o (main_of a.id)) h ∙ ap (λ (q : Path). id.Node (take depth q)) k

module _ (ds : Documents) (pin : Pin) (old : Document) (e : PrevEntry) (first second : ℕ) (order : IsInOrder old) where
  abbrev test : Revision → Bool
  test r = sees pin.base r && is_committed ds pin.sweep old r

  abbrev counting : List (Revision × Option Property) → List (Revision × Option Property)
  counting es = filter (λ e. test e.0) es

  abbrev moving : List (Revision × Option Property) → List (Revision × Option Property)
  moving es = older (counting es)

  abbrev ps : Props
  ps = moved_props ds pin old

  abbrev x : Document
  x = after_changes None (previous_write ds pin old) first

  abbrev d : Document
  d = after_changes (Some old) (main_write ds pin old e) second

  abbrev begun : Document
  begun = document_of None (id.Prev old.mod_count (path_of old.id))

  abbrev noted : Document
  noted = fold changed begun (notes_of (moved_roots ds pin old))

  names_sorted : is_sorted name_cmp ps ≡ true
  names_sorted = sorted_moved moving old.props order.names

  lists_sorted : AreSorted ps
  lists_sorted = are_sorted moving (λ es s. sorted_older (counting es) (sorted_filter test es s)) old.props order.values

  moved_is : (n : Name) → values_of_property ps n ≡ moving (values_of_property old.props n)
  moved_is n = kept_values moving refl old.props order.names n

  shape_x : x ≡ record (fold changed noted (all_puts ps)) { mod_count = first }
  shape_x = ap (λ (e : Document). record e { mod_count = first }) (fold_append changed (notes_of (moved_roots ds pin old)) (all_puts ps) begun)

  value_x : (n : Name) (q : Revision) → of_revision (values_of_property x.props n) q ≡ of_revision (moving (values_of_property old.props n)) q
  value_x n q =
      ap (λ (e : Document). of_revision (values_of_property e.props n) q) shape_x
      ∙ (put_all ps names_sorted lists_sorted noted n q
      ∙ (ap (λ (qs : Props). option_or (of_revision (values_of_property ps n) q) (of_revision (values_of_property qs n) q)) (noted_all (moved_roots ds pin old) begun).props
      ∙ (or_none (of_revision (values_of_property ps n) q) ∙ ap (λ (es : List (Revision × Option Property)). of_revision es q) (moved_is n))))
    where
      or_none : (o : Option (Option Property)) → option_or o None ≡ o
      or_none None = refl
      or_none (Some x) = refl

  abbrev pruned_old : Document
  pruned_old = fold pruned old (all_keys ps)

  value_d : (n : Name) (q : Revision) → of_revision (values_of_property d.props n) q ≡ cond (is_some (of_revision (moving (values_of_property old.props n)) q)) None (of_revision (values_of_property old.props n) q)
  value_d n q =
      after_keys (λ d. values_of_property d.props n) (drops_value n) (one_value n) (all_keys ps) old order.names q
      ∙ ap (λ b. cond b None (of_revision (values_of_property old.props n) q)) (all_hit ps names_sorted n q ∙ ap (λ (es : List (Revision × Option Property)). is_some (of_revision es q)) (moved_is n))

  -- what moves stands in the document, and counts
  moved_from : (n : Name) (q : Revision) (v : Option Property) → of_revision (moving (values_of_property old.props n)) q ≡ Some v → (test q ≡ true) × (of_revision (values_of_property old.props n) q ≡ Some v)
  moved_from n q v h = Rattle.core_keep.proofs.Item.cond_some (test q) _ v (sym (passing_found test (values_of_property old.props n) q) ∙ older_is (counting (values_of_property old.props n)) q v h)

  props_join : (n : Name) (q : Revision) → option_or (of_revision (values_of_property d.props n) q) (of_revision (values_of_property x.props n) q) ≡ of_revision (values_of_property old.props n) q
  props_join n q = ap (λ o. option_or o (of_revision (values_of_property x.props n) q)) (value_d n q) ∙ (ap (option_or (cond (is_some (of_revision (moving (values_of_property old.props n)) q)) None (of_revision (values_of_property old.props n) q))) (value_x n q)
      ∙ by (of_revision (moving (values_of_property old.props n)) q) refl)
    where
      or_none : (o : Option (Option Property)) → option_or o None ≡ o
      or_none None = refl
      or_none (Some x) = refl

      by : (o : Option (Option Property)) → of_revision (moving (values_of_property old.props n)) q ≡ o → option_or (cond (is_some o) None (of_revision (values_of_property old.props n) q)) o ≡ of_revision (values_of_property old.props n) q
      by None h = or_none _
      by (Some v) h = sym (moved_from n q v h).1

  moved_some : (n : Name) (q : Revision) → is_some (of_revision (values_of_property x.props n) q) ≡ true → is_some (of_revision (moving (values_of_property old.props n)) q) ≡ true
  moved_some n q h = sym (ap is_some (value_x n q)) ∙ h

  -- the commit root that moves with it
  root_x : (n : Name) (q : Revision) → is_some (of_revision (values_of_property x.props n) q) ≡ true → of_revision x.commit_root q ≡ of_revision old.commit_root q
  root_x n q h =
      ap (λ (e : Document). of_revision e.commit_root q) shape_x
      ∙ (ap (λ (es : List (Revision × ℕ)). of_revision es q) (beside_all ps noted).roots
      ∙ (note_roots (moved_roots ds pin old) (sorted_filter (λ r. list_any (is_same r) (moved_revisions ds pin old)) old.commit_root order.roots) begun q
      ∙ (or_none (of_revision (moved_roots ds pin old) q)
      ∙ (passing_found (λ r. list_any (is_same r) (moved_revisions ds pin old)) old.commit_root q
      ∙ ap (λ b. cond b (of_revision old.commit_root q) None) among))))
    where
      or_none : (o : Option ℕ) → option_or o None ≡ o
      or_none None = refl
      or_none (Some x) = refl

      hit : by_keys (drops_value n) (all_keys ps) q ≡ true
      hit = all_hit ps names_sorted n q ∙ (ap (λ (es : List (Revision × Option Property)). is_some (of_revision es q)) (moved_is n) ∙ moved_some n q h)

      or_l : (a b : Bool) → a ≡ true → (a || b) ≡ true
      or_l true b h = refl
      or_l false b h = absurd (false≢true h)

      among : list_any (is_same q) (moved_revisions ds pin old) ≡ true
      among = key_in_list (fold (λ es k. insert_entry revision_cmp es k.revision true) [] (all_keys ps)) q ∙ (gathered (all_keys ps) [] q ∙ or_l _ _ (hit_revision n (all_keys ps) q hit))

  -- entries of properties go to the previous document, and the rest stays
  pub split_parts : IsParted old d x
  split_parts = let l = leaves_all ps old in record {
    deleted = l.deleted;
    roots = l.roots;
    revisions = l.revisions;
    collisions = l.collisions;
    touched = l.touched;
    guard = l.guard;
    named = (same_parts (all_keys ps) old).1;
    props = props_join;
  }

  -- names stay in order
  pub split_sorted : is_sorted name_cmp d.props ≡ true
  split_sorted = sorted_keys (all_keys ps) old order.names

  -- what moves counts in the documents that the split has read
  pub parted_counts : (n : Name) (q : Revision) → is_some (of_revision (values_of_property x.props n) q) ≡ true → (is_some (of_revision (values_of_property old.props n) q) ≡ true) × ((sees pin.base q && is_committed ds pin.sweep old q) ≡ true)
  parted_counts n q h = let v = some_of _ (moved_some n q h) in let f = moved_from n q v.0 v.1 in (ap is_some f.1, f.0)

  -- what a split writes is a copy of what the document had that it read, be it late
  pub split_copies : (p : Path) → old.id ≡ id.Node p → (f : Former) → f.document ≡ old
      → ((n : Name) (r : Revision) → is_some (of_revision (values_of_property old.props n) r) ≡ true → (sees pin.base r && is_committed ds pin.sweep old r) ≡ true → f.done r ≡ true) → IsCopyOf p old.mod_count f x
  split_copies p named f same counted = record {
    named = x_named;
    plain = ap (λ (e : Document). e.deleted) shape_x ∙ ((beside_all ps noted).deleted ∙ (noted_all (moved_roots ds pin old) begun).deleted);
    numbered = ap (λ (d : Document). d.mod_count) same;
    had = λ n r y h. let m = moved_from n r y (sym (value_x n r) ∙ h) in (counted n r (ap is_some m.1) m.0, ap (λ (d : Document). of_revision (values_of_property d.props n) r) same ∙ m.1);
    roots = λ n r h. root_place (of_revision x.commit_root r) (of_revision old.commit_root r) (root_x n r h) x old (ap main_of x_named ∙ sym (ap main_of named)) (ap path_of x_named ∙ sym (ap path_of named)) ∙ ap (λ (d : Document). commit_root_of d r) (sym same);
  }
    where
      x_named : x.id ≡ id.Prev old.mod_count p
      x_named = ap (λ (e : Document). e.id) shape_x ∙ ((beside_all ps noted).names ∙ ((noted_all (moved_roots ds pin old) begun).names ∙ ap (λ i. id.Prev old.mod_count (path_of i)) named))

  module _ (now : Documents) (c : Course) (p : Path) (at : KeepsAt now c p) (is : now (id.Node p) ≡ Some old) (number : e.number ≡ old.mod_count)
      (counted : (n : Name) (r : Revision) → is_some (of_revision (values_of_property old.props n) r) ≡ true → (sees pin.base r && is_committed ds pin.sweep old r) ≡ true → is_done c r ≡ true) where
    plain : x.deleted ≡ []
    plain = ap (λ (e : Document). e.deleted) shape_x ∙ ((beside_all ps noted).deleted ∙ (noted_all (moved_roots ds pin old) begun).deleted)

    named_x : x.id ≡ id.Prev e.number p
    named_x = ap (λ (e : Document). e.id) shape_x ∙ ((beside_all ps noted).names ∙ ((noted_all (moved_roots ds pin old) begun).names
        ∙ (ap (λ (k : ℕ). id.Prev k (path_of old.id)) (sym number) ∙ ap (λ i. id.Prev e.number (path_of i)) (at.named old is))))

    listed : IsPrevious c p d e.number x
    listed = record {
      named = named_x;
      plain = plain;
      done = λ n r h. let v = some_of _ (moved_some n r h) in counted n r (ap is_some (moved_from n r v.0 v.1).1) (moved_from n r v.0 v.1).0;
      genuine = λ n r ws v f h.
          let m = moved_from n r v (sym (value_x n r) ∙ h) in
          (at.prop n).genuine r ws v f (ap (λ l. of_revision (values_in n l) r) (ap (λ o. option_map_or (with_previous now p) o []) is)
          ∙ (found_append (values_of_property old.props n) (values_in n (Rattle.std.specs.List.filter_map (λ e. now (id.Prev e.number p)) old.prev)) r ∙ ap (λ o. option_or o (of_revision (values_in n (Rattle.std.specs.List.filter_map (λ e. now (id.Prev e.number p)) old.prev)) r)) m.1));
      behind = λ n r h.
          let b = older_behind (counting (values_of_property old.props n)) (sorted_filter test (values_of_property old.props n) (values_sorted old.props order.values n)) r (moved_some n r h) in
          let v = some_of (of_revision (counting (values_of_property old.props n)) b.0) b.2 in
          let f = Rattle.core_keep.proofs.Item.cond_some (test b.0) _ v.0 (sym (passing_found test (values_of_property old.props n) b.0) ∙ v.1) in
          (b.0, b.1, counted n b.0 (ap is_some f.1) f.0, ap is_some (value_d n b.0 ∙ (ap (λ (o : Option (Option Property)). cond (is_some o) None (of_revision (values_of_property old.props n) b.0)) b.3 ∙ f.1)));
    }

    pub split_moved : IsMoved c p old d e x
    split_moved = record {
      prev = ap (λ es. e ∷ es) (same_parts (all_keys ps) old).0;
      deleted = (leaves_all ps old).deleted;
      roots = (leaves_all ps old).roots;
      revisions = (leaves_all ps old).revisions;
      named = (same_parts (all_keys ps) old).1 ∙ at.named old is;
      props = props_join;
      parted = λ n r h. value_d n r ∙ ap (λ b. cond b None (of_revision (values_of_property old.props n) r)) (moved_some n r h);
      noted = root_x;
      listed = listed;
    }
