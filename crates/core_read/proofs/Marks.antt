-- Edits whose marks don't clash are apart.
use Rattle.std.proofs.Common.{◌≡◌, ◌⊎◌, inl, inr, Bool, true, false, cond, ◌&&◌, ◌||◌, Some, None, Option, List, [], ◌∷◌, ◌++◌, refl, sym, ap, ◌∙◌, subst, is_some}
use Rattle.std.specs.declared.cmp.Ordering.{Ordering}
use Rattle.std.specs.declared.cmp.Ordering.TheVariants.{Less, Equal, Greater}
use Rattle.std.specs.Option.{option_or}
use Rattle.std.specs.Ordering.{is_eq, eq_by_cmp, match_ordering, ordering_then}
use Rattle.std.specs.Cmp.{tied_itself}
use Rattle.std.specs.Map.{keys_of}
use Rattle.std.specs.BTreeMap.{insert_entry}
use Rattle.std.specs.List.{filter, fold, flat_map, list_any}
use mathlib.Core.Bool.{false≢true}
use Rattle.jr_path.specs.Names.{name_cmp, path_cmp}
use Rattle.jr_path.specs.declared.name.Name.{Name}
use Rattle.jr_path.specs.declared.path.Path.{Path}
use Rattle.jr_path.proofs.Maps.{path_total, path_exact, name_exact}
use Rattle.jr_tree.specs.declared.edit.Write.{Write}
use Rattle.jr_tree.specs.declared.edit.Write.TheVariants.{Here, Gone, Put, Unset}
use Rattle.jr_tree.specs.Trees.{Nodes}
use Rattle.jr_tree.proofs.Pointwise.{same_path}
use Rattle.oak_clash.specs.declared.mark.Mark.{Mark}
use Rattle.oak_clash.specs.declared.mark.Mark.TheVariants.{Exists, Guard, Touch, Prop}
use Rattle.oak_clash.specs.declared.mark.MarkAt.{MarkAt}
use Rattle.oak_clash.specs.Clashes.{clash, clashing}
use Rattle.oak_machine.specs.Marks.{marks_of_write, mark_cmp, mark_at_cmp, marks_for, with_marks}
use Rattle.oak_machine.specs.Laws.{is_of_item}
use Rattle.jr_tree.specs.Items.{here_of, put_of, written}
use Rattle.core_read.specs.Commits.{Apart}
use Rattle.core_read.specs.Told.{IsIn, Covers}
use Rattle.core_read.proofs.Entries.{first, second, both}
use Rattle.jr_tree.proofs.Proper.{same_name}

or_right : (a b : Bool) → b ≡ true → (a || b) ≡ true
or_right true b h = refl
or_right false b h = h

or_left : (a b : Bool) → a ≡ true → (a || b) ≡ true
or_left true b h = refl
or_left false b h = absurd (false≢true h)

any_in : {X : Type 0} (test : X → Bool) (k : X) (xs : List X) → IsIn k xs → test k ≡ true → list_any test xs ≡ true
any_in test k [] h t = absurd h
any_in test k (x ∷ xs) h t = elim h [ inl e ↦ or_left (test x) _ (ap test e ∙ t) | inr i ↦ or_right (test x) _ (any_in test k xs i t) ]

unwritten : {X : Type 0} (o : Option X) → (is_some o ≡ true → ⊥) → o ≡ None
unwritten None h = refl
unwritten (Some x) h = absurd (h refl)

same_paths : (p : Path) → eq_by_cmp path_cmp p p ≡ true
same_paths p = ap is_eq (tied_itself path_total p)

pub meet : (ms os : List MarkAt) (p : Path) (a b : Mark) → IsIn (record { path = p; mark = a }) ms → IsIn (record { path = p; mark = b }) os → clash a b ≡ true → clashing ms os ≡ true
meet ms os p a b h k c = any_in (λ (m : MarkAt). list_any (λ (o : MarkAt). eq_by_cmp path_cmp m.path o.path && clash m.mark o.mark) os) (record { path = p; mark = a }) ms h
    (any_in (λ (o : MarkAt). eq_by_cmp path_cmp p o.path && clash a o.mark) (record { path = p; mark = b }) os k (both _ _ (same_paths p) c))

pub apart_marks : (ms os : List MarkAt) (ws us : List Write) → Covers ms ws → Covers os us → clashing ms os ≡ false → Apart ws us
apart_marks ms os ws us c d none = record {
  below = λ p n h. unwritten _ (λ k. false≢true (sym none ∙ meet ms os p Exists (Prop n) (c.node p h) (d.prop p n k) refl));
  prop = λ p n h. unwritten _ (λ k. false≢true (sym none ∙ meet ms os p (Prop n) Exists (c.prop p n h) (d.node p k) refl));
}

-- ---- the marks of an edit cover it

in_first : {X : Type 0} (k : X) (xs ys : List X) → IsIn k xs → IsIn k (xs ++ ys)
in_first k [] ys h = absurd h
in_first k (x ∷ xs) ys h = elim h [ inl e ↦ inl e | inr i ↦ inr (in_first k xs ys i) ]

in_second : {X : Type 0} (k : X) (xs ys : List X) → IsIn k ys → IsIn k (xs ++ ys)
in_second k [] ys h = h
in_second k (x ∷ xs) ys h = inr (in_second k xs ys h)

from_append : {X : Type 0} (k : X) (xs ys : List X) → IsIn k (xs ++ ys) → IsIn k xs ⊎ IsIn k ys
from_append k [] ys h = inr h
from_append k (x ∷ xs) ys h = elim h [ inl e ↦ inl (inl e) | inr i ↦ elim (from_append k xs ys i) [ inl j ↦ inl (inr j) | inr j ↦ inr j ] ]

-- a mark of the last write of an item is a mark of the edit
of_writes : {X : Type 0} (f : Write → Option X) (k : MarkAt) → ((w : Write) → is_some (f w) ≡ true → IsIn k (marks_of_write w)) → (ws : List Write) → is_some (written f ws) ≡ true → IsIn k (flat_map marks_of_write ws)
of_writes f k is [] h = absurd (false≢true h)
of_writes f k is (w ∷ ws) h =
    (elim (written f ws) as (λ o. (is_some o ≡ true → IsIn k (flat_map marks_of_write ws)) → is_some (option_or o (f w)) ≡ true → IsIn k (marks_of_write w ++ flat_map marks_of_write ws)) [
      | None ↦ λ rest s. in_first k (marks_of_write w) _ (is w s)
      | Some x ↦ λ rest s. in_second k (marks_of_write w) _ (rest refl)
    ]) (λ s. of_writes f k is ws s) h

passes : {X : Type 0} (b : Bool) (x : X) → is_some (cond b (Some x) None) ≡ true → b ≡ true
passes true x h = refl
passes false x h = h

node_mark : (p : Path) (w : Write) → is_some (here_of p w) ≡ true → IsIn (record { path = p; mark = Exists }) (marks_of_write w)
node_mark p (Here q) h = inl (ap (λ (r : Path). record { path = r; mark = Exists }) (sym (same_path p q (passes _ true h))))
node_mark p (Gone q) h = inl (ap (λ (r : Path). record { path = r; mark = Exists }) (sym (same_path p q (passes _ false h))))
node_mark p (Put q m x) h = absurd (false≢true h)
node_mark p (Unset q m) h = absurd (false≢true h)

named : (p q : Path) (n m : Name) → (eq_by_cmp path_cmp p q && eq_by_cmp name_cmp n m) ≡ true → ◌≡◌ {A = MarkAt} (record { path = q; mark = Prop m }) (record { path = p; mark = Prop n })
named p q n m h = ap (λ (r : Path). record { path = r; mark = Prop m }) (sym (same_path p q (first _ _ h))) ∙ ap (λ (r : Name). record { path = p; mark = Prop r }) (sym (same_name n m (second _ _ h)))

prop_mark : (p : Path) (n : Name) (w : Write) → is_some (put_of p n w) ≡ true → IsIn (record { path = p; mark = Prop n }) (marks_of_write w)
prop_mark p n (Here q) h = absurd (false≢true h)
prop_mark p n (Gone q) h = absurd (false≢true h)
prop_mark p n (Put q m x) h = inl (named p q n m (passes _ (Some x) h))
prop_mark p n (Unset q m) h = inl (named p q n m (passes _ None h))

-- ---- the list of marks, each once and in order, has each of them

unlike : (o : Ordering) (G : Type 0) → is_eq o ≡ false → o ≡ Equal → G
unlike o G h k = absurd (false≢true (sym h ∙ ap is_eq k))

mark_exact : (a b : Mark) → mark_cmp a b ≡ Equal → a ≡ b
mark_exact Exists Exists h = refl
mark_exact Exists Guard h = unlike Less _ refl h
mark_exact Exists Touch h = unlike Less _ refl h
mark_exact Exists (Prop n) h = unlike Less _ refl h
mark_exact Guard Exists h = unlike Greater _ refl h
mark_exact Guard Guard h = refl
mark_exact Guard Touch h = unlike Less _ refl h
mark_exact Guard (Prop n) h = unlike Less _ refl h
mark_exact Touch Exists h = unlike Greater _ refl h
mark_exact Touch Guard h = unlike Greater _ refl h
mark_exact Touch Touch h = refl
mark_exact Touch (Prop n) h = unlike Less _ refl h
mark_exact (Prop m) Exists h = unlike Greater _ refl h
mark_exact (Prop m) Guard h = unlike Greater _ refl h
mark_exact (Prop m) Touch h = unlike Greater _ refl h
mark_exact (Prop m) (Prop n) h = ap (λ (x : Name). Prop x) (name_exact m n h)

mark_at_exact : (a b : MarkAt) → mark_at_cmp a b ≡ Equal → a ≡ b
mark_at_exact a b h = by (path_cmp a.path b.path) refl h
  where
    by : (o : Ordering) → path_cmp a.path b.path ≡ o → ordering_then o (mark_cmp a.mark b.mark) ≡ Equal → a ≡ b
    by Equal e k = ap (λ (p : Path). record { path = p; mark = a.mark }) (path_exact a.path b.path e) ∙ ap (λ (m : Mark). record { path = b.path; mark = m }) (mark_exact a.mark b.mark k)
    by Less e k = unlike Less _ refl k
    by Greater e k = unlike Greater _ refl k

abbrev marks_in : List (MarkAt × Bool) → List MarkAt
marks_in es = keys_of es

in_insert : (k m : MarkAt) (es : List (MarkAt × Bool)) → (m ≡ k) ⊎ IsIn k (marks_in es) → IsIn k (marks_in (insert_entry mark_at_cmp es m true))
in_insert k m [] h = h
in_insert k m (e ∷ es) h =
    elim (mark_at_cmp m e.0) as (λ o. mark_at_cmp m e.0 ≡ o → IsIn k (marks_in (match_ordering o ((m, true) ∷ e ∷ es) ((e.0, true) ∷ es) (e ∷ insert_entry mark_at_cmp es m true)))) [
      | Less ↦ λ p. h
      | Equal ↦ λ p. elim h [ inl x ↦ inl (sym (mark_at_exact m e.0 p) ∙ x) | inr i ↦ i ]
      | Greater ↦ λ p. elim h [ inl x ↦ inr (in_insert k m es (inl x)) | inr i ↦ elim i [ inl y ↦ inl y | inr z ↦ inr (in_insert k m es (inr z)) ] ]
    ] refl

in_fold : (k : MarkAt) (ms : List MarkAt) (es : List (MarkAt × Bool)) → IsIn k ms ⊎ IsIn k (marks_in es) → IsIn k (marks_in (fold (λ es m. insert_entry mark_at_cmp es m true) es ms))
in_fold k [] es h = elim h [ inl x ↦ absurd x | inr i ↦ i ]
in_fold k (m ∷ ms) es h = in_fold k ms (insert_entry mark_at_cmp es m true)
    (elim h [ inl x ↦ elim x [ inl e ↦ inr (in_insert k m es (inl e)) | inr i ↦ inl i ] | inr i ↦ inr (in_insert k m es (inr i)) ])

in_writes : (k : MarkAt) (ws : List Write) (es : List (MarkAt × Bool)) → IsIn k (flat_map marks_of_write ws) ⊎ IsIn k (marks_in es) → IsIn k (marks_in (fold (λ es w. with_marks es (marks_of_write w)) es ws))
in_writes k [] es h = elim h [ inl x ↦ absurd x | inr i ↦ i ]
in_writes k (w ∷ ws) es h = in_writes k ws (with_marks es (marks_of_write w))
    (elim h [ inl x ↦ elim (from_append k (marks_of_write w) (flat_map marks_of_write ws) x) [ inl i ↦ inr (in_fold k (marks_of_write w) es (inl i)) | inr i ↦ inl i ] | inr i ↦ inr (in_fold k (marks_of_write w) es (inr i)) ])

in_filter : {X : Type 0} (test : X → Bool) (k : X) (xs : List X) → IsIn k xs → test k ≡ true → IsIn k (filter test xs)
in_filter test k [] h t = absurd h
in_filter test k (x ∷ xs) h t =
    elim (test x) as (λ b. test x ≡ b → IsIn k (cond b (x ∷ filter test xs) (filter test xs))) [
      | true ↦ λ p. elim h [ inl e ↦ inl e | inr i ↦ inr (in_filter test k xs i t) ]
      | false ↦ λ p. elim h [ inl e ↦ absurd (false≢true (sym p ∙ (ap test e ∙ t))) | inr i ↦ in_filter test k xs i t ]
    ] refl

from_filter : {X : Type 0} (test : X → Bool) (k : X) (xs : List X) → IsIn k (filter test xs) → IsIn k xs
from_filter test k [] h = h
from_filter test k (x ∷ xs) h =
    (elim (test x) as (λ b. IsIn k (cond b (x ∷ filter test xs) (filter test xs)) → (x ≡ k) ⊎ IsIn k xs) [
      | true ↦ λ i. elim i [ inl e ↦ inl e | inr j ↦ inr (from_filter test k xs j) ]
      | false ↦ λ i. inr (from_filter test k xs i)
    ]) h

-- marks whose Exists and Props are those of the writes cover the edit
pub covers_writes : (t : Nodes) (ws : List Write) (ms : List MarkAt) → filter is_of_item ms ≡ filter is_of_item (marks_for t ws) → Covers ms ws
covers_writes t ws ms same = record {
  node = λ p h. one (record { path = p; mark = Exists }) refl (of_writes (here_of p) _ (λ w. node_mark p w) ws h);
  prop = λ p n h. one (record { path = p; mark = Prop n }) refl (of_writes (put_of p n) _ (λ w. prop_mark p n w) ws h);
}
  where
    one : (k : MarkAt) → is_of_item k ≡ true → IsIn k (flat_map marks_of_write ws) → IsIn k ms
    one k item h = from_filter is_of_item k ms (subst (λ (l : List MarkAt). IsIn k l) (sym same) (in_filter is_of_item k (marks_for t ws) (in_writes k ws [] (inl h)) item))
