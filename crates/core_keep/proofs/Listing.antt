-- The update of a collection drops garbage and nothing else.
use Rattle.std.proofs.Common.{◌≡◌, ◌⊎◌, inl, inr, ℕ, Bool, true, false, cond, Some, Option, List, [], ◌∷◌, ◌++◌, map, refl, sym, ap, ◌∙◌, subst}
use Rattle.std.specs.Prelude.{◌==◌}
use Rattle.std.specs.Option.{option_map_or, unwrap_or}
use Rattle.std.specs.Ordering.{eq_by_cmp}
use Rattle.std.specs.Cmp.{tied_itself}
use Rattle.std.specs.FinMap.{is_sorted}
use Rattle.std.specs.FinMap.Entries.{below_all}
use Rattle.std.specs.Map.{keys_of}
use Rattle.std.specs.List.{filter, flat_map, list_any}
use Rattle.std.proofs.lemmas.Cmp.{nat_list_cmp_total}
use mathlib.Core.Bool.{false≢true}
use Rattle.jr_path.specs.Names.{name_cmp}
use Rattle.jr_path.specs.declared.name.Name.{Name}
use Rattle.jr_path.specs.declared.path.Path.{Path}
use Rattle.jr_path.specs.declared.path.DocId.TheVariants as id
use Rattle.jr_value.specs.declared.value.Property.{Property}
use Rattle.jr_rev.specs.declared.revision.Revision.{Revision}
use Rattle.jr_rev.specs.declared.vector.RevVec.{RevVec}
use Rattle.jr_rev.specs.Vectors.{sees}
use Rattle.jr_rev.proofs.Entries.{number_same}
use Rattle.oak_doc.specs.declared.document.Document.{Document}
use Rattle.oak_doc.specs.declared.document.PrevEntry.{PrevEntry}
use Rattle.oak_doc.specs.declared.update.EntryKey.{EntryKey}
use Rattle.oak_doc.specs.declared.update.Field.{Field}
use Rattle.oak_doc.specs.declared.update.Field.TheVariants as field
use Rattle.oak_doc.specs.Updates.{values_of_property, Props}
use Rattle.oak_read.specs.Meaning.{Documents, path_of}
use Rattle.core_read.specs.Told.{IsIn}
use Rattle.core_read.specs.Writes.{IsOrderedDocument}
use Rattle.core_keep.specs.Garbage.{keys_where, is_superseded, garbage_in, is_garbage_previous, is_garbage_listed, garbage_listed, pruning}
use Rattle.core_keep.specs.Dropping.{is_garbage_of, is_number_of, DropsGarbage}
use Rattle.core_keep.proofs.Item.{and_both, either_true}

from_append : {X : Type 0} (k : X) (xs ys : List X) → IsIn k (xs ++ ys) → IsIn k xs ⊎ IsIn k ys
from_append k [] ys h = inr h
from_append k (x ∷ xs) ys (inl e) = inl (inl e)
from_append k (x ∷ xs) ys (inr i) = elim (from_append k xs ys i) [ inl j ↦ inl (inr j) | inr j ↦ inr j ]

from_flat : {X Y : Type 0} (f : X → List Y) (xs : List X) (y : Y) → IsIn y (flat_map f xs) → (x : X) × IsIn x xs × IsIn y (f x)
from_flat f [] y i = absurd i
from_flat f (x ∷ xs) y i = elim (from_append y (f x) (flat_map f xs) i) [
  | inl j ↦ (x, inl refl, j)
  | inr j ↦ let r = from_flat f xs y j in (r.0, inr r.1, r.2)
]

-- a key of a field, of entries that pass
from_keys : {X : Type 0} (test : Revision → Bool) (f : Field) (es : List (Revision × X)) (k : EntryKey) → IsIn k (keys_where test f es) → (f ≡ k.field) × (test k.revision ≡ true)
from_keys test f [] k i = absurd i
from_keys {X} test f (e ∷ es) k i = by (test e.0) refl i (λ j. from_keys test f es k j)
  where
    by : (b : Bool) → test e.0 ≡ b → IsIn k (map (λ (e : Revision × X). record { field = f; revision = e.0 }) (cond b (e ∷ filter (λ e. test e.0) es) (filter (λ e. test e.0) es))) → (IsIn k (keys_where test f es) → (f ≡ k.field) × (test k.revision ≡ true)) → (f ≡ k.field) × (test k.revision ≡ true)
    by true h (inl one) rest = (ap (λ (j : EntryKey). j.field) one, ap (λ (j : EntryKey). test j.revision) (sym one) ∙ h)
    by true h (inr j) rest = rest j
    by false h j rest = rest j

-- names that are below all others are found first
apart_below : (n m : Name) (ps : Props) → below_all name_cmp n ps ≡ true → (p : Name × List (Revision × Option Property)) → IsIn p ps → eq_by_cmp name_cmp p.0 n ≡ false
apart_below n m [] h p i = absurd i
apart_below n m (q ∷ ps) h p (inr i) = apart_below n m ps (and_both _ _ h).1 p i
apart_below n m (q ∷ ps) h p (inl one) = by (eq_by_cmp name_cmp p.0 n) refl
  where
    less : Rattle.std.specs.Ordering.is_lt (name_cmp n p.0) ≡ true
    less = ap (λ (r : Name × List (Revision × Option Property)). Rattle.std.specs.Ordering.is_lt (name_cmp n r.0)) (sym one) ∙ (and_both _ _ h).0

    by : (b : Bool) → eq_by_cmp name_cmp p.0 n ≡ b → b ≡ false
    by false k = refl
    by true k =
        let same : p.0 ≡ n = Rattle.jr_tree.proofs.Proper.same_name p.0 n k in
        absurd (false≢true (sym (ap Rattle.std.specs.Ordering.is_lt (tied_itself nat_list_cmp_total n)) ∙ subst (λ (a : Name). Rattle.std.specs.Ordering.is_lt (name_cmp n a) ≡ true) same less))

values_in_order : (ps : Props) → is_sorted name_cmp ps ≡ true → (p : Name × List (Revision × Option Property)) → IsIn p ps → values_of_property ps p.0 ≡ p.1
values_in_order [] s p i = absurd i
values_in_order (q ∷ ps) s p (inl one) = subst (λ (r : Name × List (Revision × Option Property)). values_of_property (q ∷ ps) r.0 ≡ r.1) one
    (ap (λ o. unwrap_or (cond (Rattle.std.specs.Ordering.is_eq o) (Some q.1) (Rattle.std.specs.Map.lookup (Rattle.std.specs.BTreeMap.is_at (name_cmp q.0)) ps)) []) (tied_itself nat_list_cmp_total q.0))
values_in_order (q ∷ ps) s p (inr i) =
    ap (λ b. unwrap_or (cond b (Some q.1) (Rattle.std.specs.Map.lookup (Rattle.std.specs.BTreeMap.is_at (name_cmp p.0)) ps)) []) (apart_below q.0 p.0 ps (and_both _ _ s).0 p i) ∙ values_in_order ps (and_both _ _ s).1 p i

-- what a collection lists as garbage of a document is garbage
pub listed_garbage : (m t : RevVec) (d : Document) → IsOrderedDocument d → (k : EntryKey) → IsIn k (garbage_in m t d) → is_garbage_of m t d k.field k.revision ≡ true
listed_garbage m t d rise k i = elim (from_append k _ (flat_map (λ p. keys_where (is_superseded m t (keys_of p.1)) (field.Prop p.0) p.1) d.props) i) [
  | inr j ↦ property j
  | inl j ↦ elim (from_append k _ (keys_where (sees m) field.Guard d.guard) j) [
    | inr l ↦ one field.Guard (sees m) (λ r h. h) (from_keys (sees m) field.Guard d.guard k l)
    | inl l ↦ elim (from_append k _ (keys_where (sees m) field.Touched d.touched) l) [
      | inr u ↦ one field.Touched (sees m) (λ r h. h) (from_keys (sees m) field.Touched d.touched k u)
      | inl u ↦ elim (from_append k _ (keys_where (sees m) field.Collisions d.collisions) u) [
        | inr v ↦ one field.Collisions (sees m) (λ r h. h) (from_keys (sees m) field.Collisions d.collisions k v)
        | inl v ↦ elim (from_append k _ (keys_where (sees t) field.Revisions d.revisions) v) [
          | inr w ↦ one field.Revisions (sees t) (λ r h. h) (from_keys (sees t) field.Revisions d.revisions k w)
          | inl w ↦ elim (from_append k (keys_where (is_superseded m t (keys_of d.deleted)) field.Deleted d.deleted) (keys_where (sees t) field.CommitRoot d.commit_root) w) [
            | inr x ↦ one field.CommitRoot (sees t) (λ r h. h) (from_keys (sees t) field.CommitRoot d.commit_root k x)
            | inl x ↦ one field.Deleted (is_superseded m t (keys_of d.deleted)) (λ r h. h) (from_keys (is_superseded m t (keys_of d.deleted)) field.Deleted d.deleted k x)
          ]
        ]
      ]
    ]
  ]
]
  where
    one : (f : Field) (test : Revision → Bool) → ((r : Revision) → test r ≡ true → is_garbage_of m t d f r ≡ true) → (f ≡ k.field) × (test k.revision ≡ true) → is_garbage_of m t d k.field k.revision ≡ true
    one f test is h = subst (λ (g : Field). is_garbage_of m t d g k.revision ≡ true) h.0 (is k.revision h.1)

    property : IsIn k (flat_map (λ p. keys_where (is_superseded m t (keys_of p.1)) (field.Prop p.0) p.1) d.props) → is_garbage_of m t d k.field k.revision ≡ true
    property j =
        let f = from_flat (λ (p : Name × List (Revision × Option Property)). keys_where (is_superseded m t (keys_of p.1)) (field.Prop p.0) p.1) d.props k j in
        one (field.Prop f.0.0) (is_superseded m t (keys_of f.0.1)) (λ r h. subst (λ (es : List (Revision × Option Property)). is_superseded m t (keys_of es) r ≡ true) (sym (values_in_order d.props rise.names f.0 f.1)) h) (from_keys (is_superseded m t (keys_of f.0.1)) (field.Prop f.0.0) f.0.1 k f.2)

-- the numbers of the garbage among what is listed
listed_number : (test : PrevEntry → Bool) (es : List PrevEntry) (e : PrevEntry) → is_number_of (map (λ (f : PrevEntry). f.number) (filter test es)) e ≡ true → (f : PrevEntry) × (test f ≡ true) × (e.number ≡ f.number)
listed_number test [] e h = absurd (false≢true h)
listed_number test (f ∷ es) e h = by (test f) refl h (λ j. listed_number test es e j)
  where
    by : (b : Bool) → test f ≡ b → is_number_of (map (λ (f : PrevEntry). f.number) (cond b (f ∷ filter test es) (filter test es))) e ≡ true → (is_number_of (map (λ (f : PrevEntry). f.number) (filter test es)) e ≡ true → (f : PrevEntry) × (test f ≡ true) × (e.number ≡ f.number)) → (f : PrevEntry) × (test f ≡ true) × (e.number ≡ f.number)
    by true k h rest = elim (either_true (e.number == f.number) (is_number_of (map (λ (f : PrevEntry). f.number) (filter test es)) e) h) [ inl j ↦ (f, k, number_same e.number f.number j) | inr j ↦ rest j ]
    by false k h rest = rest h

-- the update of a collection: all garbage of a document, with the previous documents that are garbage
pub pruning_drops : (ds : Documents) (m t : RevVec) (p : Path) (d : Document) → d.id ≡ id.Node p → IsOrderedDocument d → DropsGarbage ds m t p d (pruning m t d (garbage_listed m t ds d)) (garbage_in m t d) (garbage_listed m t ds d)
pruning_drops ds m t p d named rise = record {
  changes = refl;
  entries = listed_garbage m t d rise;
  previous = λ e i h x is.
      let f = listed_number (is_garbage_listed m t ds d) d.prev e h in
      let there : ds (id.Prev f.0.number (path_of d.id)) ≡ Some x = ap (λ i. ds (id.Prev f.0.number (path_of i))) named ∙ (ap (λ (k : ℕ). ds (id.Prev k p)) (sym f.2) ∙ is) in
      sym (ap (λ o. option_map_or (is_garbage_previous m t d) o false) there) ∙ f.1;
}
