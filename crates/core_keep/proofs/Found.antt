-- What the documents mean at a path is the node there of the tree that a vector sees.
use Rattle.std.proofs.Common.{◌≡◌, inl, inr, Bool, true, false, cond, ◌&&◌, ◌||◌, Some, None, Option, List, [], ◌∷◌, ◌++◌, refl, sym, ap, ◌∙◌, subst, is_some}
use Rattle.std.specs.Option.{option_or}
use Rattle.std.specs.Ordering.{is_eq, eq_by_cmp}
use Rattle.std.specs.Cmp.{tied_itself}
use Rattle.std.specs.List.{filter, flat_map}
use mathlib.Core.Bool.{false≢true}
use Rattle.jr_path.specs.declared.name.Name.{Name}
use Rattle.jr_path.specs.declared.path.Path.{Path}
use Rattle.jr_rev.specs.declared.revision.Revision.{Revision}
use Rattle.jr_rev.specs.declared.vector.RevVec.{RevVec}
use Rattle.jr_rev.specs.Revisions.{revision_cmp}
use Rattle.jr_rev.specs.Vectors.{sees}
use Rattle.jr_rev.proofs.Order.{revision_total}
use Rattle.jr_tree.specs.declared.edit.Write.{Write}
use Rattle.jr_tree.specs.Trees.{Nodes, born_at, node_at, property_at}
use Rattle.jr_tree.specs.Items.{put_of}
use Rattle.oak_doc.specs.declared.document.Document.{Document}
use Rattle.oak_doc.specs.Updates.{of_revision, values_of_property}
use Rattle.oak_read.specs.Meaning.{Documents, is_committed, counting, entry_of, found_node, latest, commit_root_of}
use Rattle.core_read.specs.Holds.{has_revision}
use Rattle.core_read.specs.Told.{IsIn}
use Rattle.core_read.specs.Commits.{last_entry}
use Rattle.core_keep.specs.Standing.{all_at, gone_of, shows_node, shows_value, HasEntryOf}
use Rattle.core_keep.specs.Keeps.{Course, edit_in, is_done, Matches, KeepsAt, Keeps, IsDownward, IsCourse, Shows, IsHeldPair}
use Rattle.core_keep.proofs.Item.{not_true, matches}
use Rattle.core_keep.proofs.Named.{root_is_node}
use Rattle.core_keep.proofs.Shown.{found_by}

-- ---- lists of entries

pub found_first : {X : Type 0} (e : Revision × X) (es : List (Revision × X)) → of_revision (e ∷ es) e.0 ≡ Some e.1
found_first e es = ap (λ o. cond (is_eq o) (Some e.1) (of_revision es e.0)) (tied_itself revision_total e.0)

still_found : {X : Type 0} (e : Revision × X) (es : List (Revision × X)) (r : Revision) → is_some (of_revision es r) ≡ true → is_some (of_revision (e ∷ es) r) ≡ true
still_found e es r h = by (eq_by_cmp revision_cmp r e.0)
  where
    by : (b : Bool) → is_some (cond b (Some e.1) (of_revision es r)) ≡ true
    by true = refl
    by false = h

-- tests that agree on the revisions of the entries
pub same_filter : {X : Type 0} (s u : Revision → Bool) (es : List (Revision × X)) → ((r : Revision) → is_some (of_revision es r) ≡ true → s r ≡ u r) → filter (λ e. s e.0) es ≡ filter (λ e. u e.0) es
same_filter s u [] same = refl
same_filter {X} s u (e ∷ es) same =
    ap (λ b. cond b (e ∷ filter (λ e. s e.0) es) (filter (λ e. s e.0) es)) (same e.0 (ap is_some (found_first e es)))
    ∙ ap (λ (l : List (Revision × X)). cond (u e.0) (e ∷ l) l) (same_filter s u es (λ r h. same r (still_found e es r h)))

pub filter-append : {X : Type 0} (test : X → Bool) (xs ys : List X) → filter test (xs ++ ys) ≡ filter test xs ++ filter test ys
filter-append test [] ys = refl
filter-append test (x ∷ xs) ys = ap (λ l. cond (test x) (x ∷ l) l) (filter-append test xs ys) ∙ by (test x)
  where
    by : (b : Bool) → cond b (x ∷ (filter test xs ++ filter test ys)) (filter test xs ++ filter test ys) ≡ cond b (x ∷ filter test xs) (filter test xs) ++ filter test ys
    by true = refl
    by false = refl

-- what is found over two lists
pub found_append : {X : Type 0} (xs ys : List (Revision × X)) (r : Revision) → of_revision (xs ++ ys) r ≡ option_or (of_revision xs r) (of_revision ys r)
found_append [] ys r = refl
found_append (e ∷ xs) ys r = ap (cond (eq_by_cmp revision_cmp r e.0) (Some e.1)) (found_append xs ys r) ∙ by (eq_by_cmp revision_cmp r e.0)
  where
    by : (b : Bool) → cond b (Some e.1) (option_or (of_revision xs r) (of_revision ys r)) ≡ option_or (cond b (Some e.1) (of_revision xs r)) (of_revision ys r)
    by true = refl
    by false = refl

or_some : {X : Type 0} (a b : Option X) → is_some b ≡ true → is_some (option_or a b) ≡ true
or_some None b h = h
or_some (Some x) b h = refl

some_or : {X : Type 0} (a b : Option X) → is_some a ≡ true → is_some (option_or a b) ≡ true
some_or None b h = absurd (false≢true h)
some_or (Some x) b h = refl

-- what one of some documents has is found over all of them
pub among : {X : Type 0} (field : Document → List (Revision × X)) (all : List Document) (d : Document) → IsIn d all → (r : Revision) → is_some (of_revision (field d) r) ≡ true → is_some (of_revision (flat_map field all) r) ≡ true
among field [] d i r h = absurd i
among field (x ∷ all) d (inl same) r h = ap is_some (found_append (field x) (flat_map field all) r) ∙ some_or _ _ (subst (λ (y : Document). is_some (of_revision (field y) r) ≡ true) (sym same) h)
among field (x ∷ all) d (inr i) r h = ap is_some (found_append (field x) (flat_map field all) r) ∙ or_some (of_revision (field x) r) _ (among field all d i r h)

module _ (ds : Documents) (c : Course) (keeps : Keeps ds c) (course : IsCourse c) (down : IsDownward c c.bound) (t v : RevVec) (held : IsHeldPair c (sees v) (sees t)) where
  module _ (p : Path) where
    abbrev at : KeepsAt ds c p
    at = keeps p

    -- an entry is committed where its revision is done
    status : (x : Document) → IsIn x (all_at ds p) → (r : Revision) → HasEntryOf r x → (c.flying r ≡ false → edit_in c r ≡ None → c.old r ≡ false → ⊥) → is_committed ds t x r ≡ is_done c r
    status x i r entry flew = by (edit_in c r) refl (c.old r) refl (c.swept r) refl
      where
        or_false : (a b : Bool) → a ≡ false → b ≡ false → (a || b) ≡ false
        or_false true b h k = absurd (false≢true (sym h))
        or_false false b h k = k

        or_second : (a b : Bool) → b ≡ true → (a || b) ≡ true
        or_second true b h = refl
        or_second false b h = h

        swept : c.swept r ≡ true → is_committed ds t x r ≡ true
        swept h = ap (λ b. b || has_revision (ds (commit_root_of x r)) r) (held.sweep r h)

        by : (o : Option (List Write)) → edit_in c r ≡ o → (b : Bool) → c.old r ≡ b → (k : Bool) → c.swept r ≡ k → is_committed ds t x r ≡ (is_some o || b)
        by (Some ws) e b f true h = swept h
        by (Some ws) e b f false h = or_second (sees t r) _ (at.rooted x i r ws e h entry)
        by None e true f k h = swept (course.old_swept r f)
        by None e false f k h =
            let root = root_is_node ds c p at x i r in
            or_false (sees t r) _ (not_true (sees t r) (λ s. flew (held.done r s e) e f)) (ap (λ j. has_revision (ds j) r) root.1 ∙ (keeps root.0).unsaid r e f)

    -- so what counts is what is done
    module _ {X : Type 0} (field : Document → List (Revision × X)) (entry : (x : Document) (r : Revision) → is_some (of_revision (field x) r) ≡ true → HasEntryOf r x)
        (none : (r : Revision) → edit_in c r ≡ None → c.old r ≡ false → c.flying r ≡ false → of_revision (flat_map field (all_at ds p)) r ≡ None) where
      counted : (all : List Document) → ((x : Document) → IsIn x all → IsIn x (all_at ds p)) → flat_map (counting ds t v field) all ≡ filter (λ e. sees v e.0 && is_done c e.0) (flat_map field all)
      counted [] inside = refl
      counted (x ∷ all) inside =
          ap (λ l. l ++ flat_map (counting ds t v field) all) (same_filter (λ r. sees v r && is_committed ds t x r) (λ r. sees v r && is_done c r) (field x)
          (λ r h. ap (λ b. sees v r && b) (status x (inside x (inl refl)) r (entry x r h) (λ f e o. false≢true (sym (ap is_some (none r e o f)) ∙ among field (all_at ds p) x (inside x (inl refl)) r h)))))
          ∙ (ap (λ l. filter (λ e. sees v e.0 && is_done c e.0) (field x) ++ l) (counted all (λ y i. inside y (inr i))) ∙ sym (filter-append (λ e. sees v e.0 && is_done c e.0) (field x) (flat_map field all)))

      pub entry_is : entry_of ds t v field (all_at ds p) ≡ latest (filter (λ e. sees v e.0 && is_done c e.0) (flat_map field (all_at ds p)))
      entry_is = ap latest (counted (all_at ds p) (λ x i. i))

    abbrev node_shown : Option (Revision × Bool)
    node_shown = entry_of ds t v (λ d. d.deleted) (all_at ds p)

    node_matches : Matches shows_node (born_at c.tree p) (last_entry (gone_of p) (sees v) c.commits) node_shown
    node_matches = subst (λ o. Matches shows_node (born_at c.tree p) (last_entry (gone_of p) (sees v) c.commits) o)
        (sym (entry_is (λ d. d.deleted) (λ x r h. inl h) (λ r e o f. at.node.none_else r e o f)))
        (matches (gone_of p) shows_node (born_at c.tree p) c course _ at.node (sees v) held.base (down.node p))

    prop_matches : (n : Name) → Matches shows_value (property_at c.tree p n) (last_entry (put_of p n) (sees v) c.commits) (entry_of ds t v (λ d. values_of_property d.props n) (all_at ds p))
    prop_matches n = subst (λ o. Matches shows_value (property_at c.tree p n) (last_entry (put_of p n) (sees v) c.commits) o)
        (sym (entry_is (λ d. values_of_property d.props n) (λ x r h. inr (n, h)) (λ r e o f. (at.prop n).none_else r e o f)))
        (matches (put_of p n) shows_value (property_at c.tree p n) c course _ (at.prop n) (sees v) held.base (down.prop p n))

    pub found : (tree : Nodes) → Shows c (sees v) tree → found_node ds t v p ≡ node_at tree p
    found tree shows = found_by ds c t v p node_matches prop_matches tree shows
