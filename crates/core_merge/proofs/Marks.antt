-- Edits whose marks don't clash are independent; and the marks of an edit mark the parents of the nodes that it adds or removes.
use Rattle.std.proofs.Common.{◌≡◌, ◌⊎◌, inl, inr, Bool, true, false, cond, ◌&&◌, ◌||◌, Some, None, Option, List, [], ◌∷◌, refl, sym, ap, ◌∙◌, subst, is_some}
use Rattle.std.specs.declared.cmp.Ordering.{Ordering}
use Rattle.std.specs.declared.cmp.Ordering.TheVariants.{Less, Equal, Greater}
use Rattle.std.specs.Cmp.{IsEquivalence}
use Rattle.std.specs.Option.{option_map_or, option_or}
use Rattle.std.specs.Ordering.{is_eq, eq_by_cmp, match_ordering, ordering_then}
use Rattle.std.specs.Map.{keys_of}
use Rattle.std.specs.BTreeMap.{insert_entry}
use Rattle.std.specs.List.{fold, list_any}
use Rattle.std.proofs.lemmas.Cmp.{eq_by_cmp_equiv, nat_list_cmp_total}
use mathlib.Core.Bool.{false≢true}
use Rattle.jr_path.specs.Names.{name_cmp, path_cmp, parent_of}
use Rattle.jr_path.specs.declared.path.Path.{Path}
use Rattle.jr_path.proofs.Maps.{path_total, path_exact}
use Rattle.jr_tree.specs.declared.edit.Write.{Write}
use Rattle.jr_tree.specs.declared.edit.Write.TheVariants.{Here, Gone, Put, Unset}
use Rattle.jr_tree.specs.Trees.{Nodes}
use Rattle.jr_tree.proofs.Pointwise.{same_path}
use Rattle.oak_clash.specs.declared.mark.Mark.{Mark}
use Rattle.oak_clash.specs.declared.mark.Mark.TheVariants.{Exists, Prop, Touch}
use Rattle.oak_clash.specs.declared.mark.MarkAt.{MarkAt}
use Rattle.oak_clash.specs.Clashes.{clash, clashing}
use Rattle.oak_clash.proofs.Marks.{clash-symm}
use Rattle.oak_machine.specs.Marks.{Marked, marks_for, marks_of_node, marks_of_write, mark_cmp, mark_at_cmp, with_marks}
use Rattle.jr_tree.specs.Items.{here_of, written}
use Rattle.core_read.specs.Told.{Covers, IsIn}
use Rattle.core_read.proofs.Entries.{both}
use Rattle.core_merge.specs.Independent.{writes_node, is_marked, MarkParents, AreIndependent}

or_right : (a b : Bool) → b ≡ true → (a || b) ≡ true
or_right true b h = refl
or_right false b h = h

or_left : (a b : Bool) → a ≡ true → (a || b) ≡ true
or_left true b h = refl
or_left false b h = absurd (false≢true h)

any_in : {X : Type 0} (test : X → Bool) (k : X) (xs : List X) → IsIn k xs → test k ≡ true → list_any test xs ≡ true
any_in test k [] h t = absurd h
any_in test k (x ∷ xs) h t = elim h [ inl e ↦ or_left (test x) _ (ap test e ∙ t) | inr i ↦ or_right (test x) _ (any_in test k xs i t) ]

either : (a b c d : Bool) → (a ≡ true → c ≡ true) → (b ≡ true → d ≡ true) → (a || b) ≡ true → (c || d) ≡ true
either true b c d f g h = or_left c d (f refl)
either false b c d f g h = or_right c d (g h)

any_each : {X : Type 0} (f g : X → Bool) (xs : List X) → ((x : X) → f x ≡ true → g x ≡ true) → list_any f xs ≡ true → list_any g xs ≡ true
any_each f g [] to h = absurd (false≢true h)
any_each f g (x ∷ xs) to h = either (f x) (list_any f xs) (g x) (list_any g xs) (to x) (λ k. any_each f g xs to k) h

path_ties : IsEquivalence (eq_by_cmp path_cmp)
path_ties = eq_by_cmp_equiv path_total

name_ties : IsEquivalence (eq_by_cmp name_cmp)
name_ties = eq_by_cmp_equiv nat_list_cmp_total

-- ---- marks that don't clash

-- marks of one path that clash
meet : (ms os : List MarkAt) (p : Path) (a b : Mark) → IsIn (record { path = p; mark = a }) ms → IsIn (record { path = p; mark = b }) os → clash a b ≡ true → clashing ms os ≡ true
meet ms os p a b h k c = any_in (λ (m : MarkAt). list_any (λ (o : MarkAt). eq_by_cmp path_cmp m.path o.path && clash m.mark o.mark) os) (record { path = p; mark = a }) ms h
    (any_in (λ (o : MarkAt). eq_by_cmp path_cmp p o.path && clash a o.mark) (record { path = p; mark = b }) os k (both _ _ (path_ties.refl p) c))

-- a node that the one adds or removes has a mark of the other
meet_left : (ms os : List MarkAt) (q : Path) → IsIn (record { path = q; mark = Exists }) ms → is_marked q os ≡ true → clashing ms os ≡ true
meet_left ms os q h k = any_in (λ (m : MarkAt). list_any (λ (o : MarkAt). eq_by_cmp path_cmp m.path o.path && clash m.mark o.mark) os) (record { path = q; mark = Exists }) ms h
    (any_each (λ (o : MarkAt). eq_by_cmp path_cmp q o.path) (λ (o : MarkAt). eq_by_cmp path_cmp q o.path && clash Exists o.mark) os (λ o t. both _ _ t refl) k)

meet_right : (ms os : List MarkAt) (q : Path) → is_marked q ms ≡ true → IsIn (record { path = q; mark = Exists }) os → clashing ms os ≡ true
meet_right ms os q k h = any_each (λ (m : MarkAt). eq_by_cmp path_cmp q m.path) (λ (m : MarkAt). list_any (λ (o : MarkAt). eq_by_cmp path_cmp m.path o.path && clash m.mark o.mark) os) ms
    (λ m t. any_in (λ (o : MarkAt). eq_by_cmp path_cmp m.path o.path && clash m.mark o.mark) (record { path = q; mark = Exists }) os h (both _ _ (sym (path_ties.symm q m.path) ∙ t) (clash-symm m.mark Exists))) k

not_true : (b : Bool) → (b ≡ true → ⊥) → b ≡ false
not_true false h = refl
not_true true h = absurd (h refl)

pub independent_marks : (ms os : List MarkAt) (ws us : List Write) → Covers ms ws → Covers os us → MarkParents ms ws → MarkParents os us → clashing ms os ≡ false → AreIndependent ws us
independent_marks ms os ws us c d m n none = record {
  nodes = λ p h. not_true _ (λ k. false≢true (sym none ∙ meet ms os p Exists Exists (c.node p h) (d.node p k) refl));
  properties = λ p l h. not_true _ (λ k. false≢true (sym none ∙ meet ms os p (Prop l) (Prop l) (c.prop p l h) (d.prop p l k) (name_ties.refl l)));
  of_node = λ p l h. not_true _ (λ k. false≢true (sym none ∙ meet ms os p Exists (Prop l) (c.node p h) (d.prop p l k) refl));
  of_property = λ p l h. not_true _ (λ k. false≢true (sym none ∙ meet ms os p (Prop l) Exists (c.prop p l h) (d.node p k) refl));
  below = λ p q up h. not_true _ (λ k. false≢true (sym none ∙ meet_right ms os q (m p q up h) (d.node q k)));
  above = λ p q up h. not_true _ (λ k. false≢true (sym none ∙ meet_left ms os q (c.node q k) (n p q up h)));
}

-- ---- the marks of an edit

unlike : (o : Ordering) (G : Type 0) → is_eq o ≡ false → o ≡ Equal → G
unlike o G h k = absurd (false≢true (sym h ∙ ap is_eq k))

-- marks of one place in their order are at one path
one_path : (a b : MarkAt) → mark_at_cmp a b ≡ Equal → a.path ≡ b.path
one_path a b h = by (path_cmp a.path b.path) refl h
  where
    by : (o : Ordering) → path_cmp a.path b.path ≡ o → ordering_then o (mark_cmp a.mark b.mark) ≡ Equal → a.path ≡ b.path
    by Equal e k = path_exact a.path b.path e
    by Less e k = unlike Less _ refl k
    by Greater e k = unlike Greater _ refl k

abbrev marks_in : Marked → List MarkAt
marks_in es = keys_of es

marked_insert : (q : Path) (m : MarkAt) (es : Marked) → (eq_by_cmp path_cmp q m.path ≡ true) ⊎ (is_marked q (marks_in es) ≡ true) → is_marked q (marks_in (insert_entry mark_at_cmp es m true)) ≡ true
marked_insert q m [] h = elim h [ inl t ↦ or_left _ false t | inr k ↦ absurd (false≢true k) ]
marked_insert q m (e ∷ es) h =
    elim (mark_at_cmp m e.0) as (λ o. mark_at_cmp m e.0 ≡ o → is_marked q (marks_in (match_ordering o ((m, true) ∷ e ∷ es) ((e.0, true) ∷ es) (e ∷ insert_entry mark_at_cmp es m true))) ≡ true) [
      | Less ↦ λ p. elim h [ inl t ↦ or_left _ _ t | inr k ↦ or_right (eq_by_cmp path_cmp q m.path) _ k ]
      | Equal ↦ λ p. elim h [ inl t ↦ or_left _ _ (sym (ap (eq_by_cmp path_cmp q) (one_path m e.0 p)) ∙ t) | inr k ↦ k ]
      | Greater ↦ λ p. elim h [ inl t ↦ or_right (eq_by_cmp path_cmp q e.0.path) _ (marked_insert q m es (inl t)) | inr k ↦ either _ _ (eq_by_cmp path_cmp q e.0.path) _ (λ t. t) (λ t. marked_insert q m es (inr t)) k ]
    ] refl

marked_fold : (q : Path) (ms : List MarkAt) (es : Marked) → (is_marked q ms ≡ true) ⊎ (is_marked q (marks_in es) ≡ true) → is_marked q (marks_in (fold (λ es m. insert_entry mark_at_cmp es m true) es ms)) ≡ true
marked_fold q [] es h = elim h [ inl t ↦ absurd (false≢true t) | inr k ↦ k ]
marked_fold q (m ∷ ms) es h = marked_fold q ms (insert_entry mark_at_cmp es m true)
    (elim h [ inl t ↦ split (eq_by_cmp path_cmp q m.path) refl t | inr k ↦ inr (marked_insert q m es (inr k)) ])
  where
    split : (b : Bool) → eq_by_cmp path_cmp q m.path ≡ b → (b || is_marked q ms) ≡ true → (is_marked q ms ≡ true) ⊎ (is_marked q (marks_in (insert_entry mark_at_cmp es m true)) ≡ true)
    split true e t = inr (marked_insert q m es (inl e))
    split false e t = inl t

-- each write may mark that path, or what was marked before does
marked_writes : (q : Path) (ws : List Write) (es : Marked) → (list_any (λ w. is_marked q (marks_of_write w)) ws ≡ true) ⊎ (is_marked q (marks_in es) ≡ true) → is_marked q (marks_in (fold (λ es w. with_marks es (marks_of_write w)) es ws)) ≡ true
marked_writes q [] es h = elim h [ inl t ↦ absurd (false≢true t) | inr k ↦ k ]
marked_writes q (w ∷ ws) es h = marked_writes q ws (with_marks es (marks_of_write w))
    (elim h [ inl t ↦ split (is_marked q (marks_of_write w)) refl t | inr k ↦ inr (marked_fold q (marks_of_write w) es (inr k)) ])
  where
    split : (b : Bool) → is_marked q (marks_of_write w) ≡ b → (b || list_any (λ w. is_marked q (marks_of_write w)) ws) ≡ true
        → (list_any (λ w. is_marked q (marks_of_write w)) ws ≡ true) ⊎ (is_marked q (marks_in (with_marks es (marks_of_write w))) ≡ true)
    split true e t = inr (marked_fold q (marks_of_write w) es (inl e))
    split false e t = inl t

passes : {X : Type 0} (b : Bool) (x : X) → is_some (cond b (Some x) None) ≡ true → b ≡ true
passes true x h = refl
passes false x h = h

-- a node that comes or goes marks its parent
node_marks : (p q r : Path) → parent_of p ≡ Some q → p ≡ r → is_marked q (marks_of_node r) ≡ true
node_marks p q r up same =
    subst (λ (x : Path). is_marked q (marks_of_node x) ≡ true) same
    (or_right (eq_by_cmp path_cmp q p) _ (subst (λ (o : Option Path). is_marked q (option_map_or (λ q. record { path = q; mark = Touch } ∷ []) o []) ≡ true) (sym up) (or_left (eq_by_cmp path_cmp q q) false (path_ties.refl q))))

write_marks : (p q : Path) → parent_of p ≡ Some q → (w : Write) → is_some (here_of p w) ≡ true → is_marked q (marks_of_write w) ≡ true
write_marks p q up (Here r) h = node_marks p q r up (same_path p r (passes _ true h))
write_marks p q up (Gone r) h = node_marks p q r up (same_path p r (passes _ false h))
write_marks p q up (Put r m x) h = absurd (false≢true h)
write_marks p q up (Unset r m) h = absurd (false≢true h)

writes_mark : (p q : Path) (ws : List Write) → parent_of p ≡ Some q → writes_node p ws ≡ true → list_any (λ w. is_marked q (marks_of_write w)) ws ≡ true
writes_mark p q [] up h = absurd (false≢true h)
writes_mark p q (w ∷ ws) up h =
    (elim (written (here_of p) ws) as (λ o. (is_some o ≡ true → list_any (λ w. is_marked q (marks_of_write w)) ws ≡ true) → is_some (option_or o (here_of p w)) ≡ true → (is_marked q (marks_of_write w) || list_any (λ w. is_marked q (marks_of_write w)) ws) ≡ true) [
      | None ↦ λ rest s. or_left _ _ (write_marks p q up w s)
      | Some x ↦ λ rest s. or_right (is_marked q (marks_of_write w)) _ (rest refl)
    ]) (λ s. writes_mark p q ws up s) h

pub marks_for_parents : (t : Nodes) (ws : List Write) → MarkParents (marks_for t ws) ws
marks_for_parents t ws p q up h = marked_writes q ws [] (inl (writes_mark p q ws up h))
