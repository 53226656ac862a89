-- The edit of the changes holds the changes from the tree to the view, whatever the view is: untouched nodes add nothing to them.
use Rattle.std.proofs.Common.{◌≡◌, Bool, true, false, cond, not, List, [], ◌∷◌, ◌++◌, map, Option, None, Some, is_some, is_none, refl, sym, ap, ◌∙◌, subst}
use Rattle.std.specs.Option.{option_and_then, option_map, option_map_or}
use Rattle.std.specs.Cmp.{IsTotalOrder, tied_itself}
use Rattle.std.specs.declared.cmp.Ordering.{Ordering}
use Rattle.std.specs.Ordering.{is_eq, eq_by_cmp}
use Rattle.std.specs.Map.{lookup, values_of}
use Rattle.std.specs.BTreeMap.{is_at}
use Rattle.std.specs.List.{cons_option, filter, filter_map, flat_map, list_all}
use Rattle.std.specs.FinMap.{is_sorted}
use Rattle.std.specs.FinMap.Entries.{below_all}
use Rattle.std.proofs.lemmas.Cmp.{nat_list_cmp_total}
use Rattle.std.proofs.lemmas.Map.Entries.{lookup-filter-keys}
use mathlib.Core.Bool.{false≢true}
use Rattle.jr_path.specs.Names.{name_cmp, path_cmp}
use Rattle.jr_path.specs.declared.name.Name.{Name}
use Rattle.jr_path.specs.declared.path.Path.{Path}
use Rattle.jr_path.proofs.Maps.{path_exact, path_total}
use Rattle.jr_value.specs.declared.value.Property.{Property}
use Rattle.jr_value.specs.Values.{same_property}
use Rattle.jr_value.specs.Equality.{same_property_decides}
use Rattle.jr_tree.specs.declared.tree.Node.{Node}
use Rattle.jr_tree.specs.declared.edit.Write.{Write}
use Rattle.jr_tree.specs.declared.edit.Write.TheVariants.{Here, Put, Unset}
use Rattle.jr_tree.specs.Trees.{IsTree, Nodes, node_at}
use Rattle.jr_tree.specs.Edits.{changes, property_changes, taking, IsProper}
use Rattle.jr_tree.specs.Changes.{node_changes, nodes_changed, nodes_taken, put_changed, with_writes}
use Rattle.jr_tree.proofs.Entries.{both, exactly, first, none_below, same_lists, second, sorted_filter}
use Rattle.jr_tree.proofs.Pointwise.{same_path}
use Rattle.jr_tree.proofs.ProperChanges.{changes_proper}
use Rattle.jr_overlay.specs.declared.overlay.Change.{Change}
use Rattle.jr_overlay.specs.Overlays.{AreOver, Changed, change_at, edit_of, new_nodes, old_nodes, seen, view_of}
use Rattle.jr_overlay.proofs.Views.{node_at-view, sorted-view}

-- ---- what holds of each of a list

abbrev pub EachOf : {X : Type 0} → (X → Type 0) → List X → Type 0
EachOf P [] = Unit {0}
EachOf P (x ∷ xs) = P x × EachOf P xs

pub each_more : {X : Type 0} (P Q : X → Type 0) → ((x : X) → P x → Q x) → (xs : List X) → EachOf P xs → EachOf Q xs
each_more P Q f [] h = tt
each_more P Q f (x ∷ xs) h = (f x h.0, each_more P Q f xs h.1)

-- each entry of a list in order is found at its key
module _ {K X : Type 0} (R : K → K → Ordering) (total : IsTotalOrder R) where
  found_within : (whole es : List (K × X)) → is_sorted R es ≡ true → ((k : K) (x : X) → lookup (is_at (R k)) es ≡ Some x → lookup (is_at (R k)) whole ≡ Some x) → EachOf (λ e. lookup (is_at (R e.0)) whole ≡ Some e.1) es
  found_within whole [] s within = tt
  found_within whole (e ∷ es) s within =
      (within e.0 e.1 (ap (λ o. cond (is_eq o) (Some e.1) (lookup (is_at (R e.0)) es)) (tied_itself total e.0)), found_within whole es (second _ _ s) (λ k x h. within k x (passed k x h (eq_by_cmp R k e.0) refl)))
    where
      passed : (k : K) (x : X) → lookup (is_at (R k)) es ≡ Some x → (b : Bool) → eq_by_cmp R k e.0 ≡ b → cond b (Some e.1) (lookup (is_at (R k)) es) ≡ Some x
      passed k x h true g = absurd (false≢true (ap is_some (sym (none_below R total k e.0 (exactly _ g) es (first _ _ s)) ∙ h)))
      passed k x h false g = h

  pub each_found : (es : List (K × X)) → is_sorted R es ≡ true → EachOf (λ e. lookup (is_at (R e.0)) es ≡ Some e.1) es
  each_found es s = found_within es es s (λ k x h. h)

-- ---- a node that is as it was adds nothing

none_left : {X : Type 0} (test : X → Bool) (xs : List X) → EachOf (λ x. test x ≡ false) xs → filter test xs ≡ []
none_left test [] h = refl
none_left test (x ∷ xs) h = ap (λ b. cond b (x ∷ filter test xs) (filter test xs)) h.0 ∙ none_left test xs h.1

no_property_changes : (p : Path) (ps : List (Name × Property)) → is_sorted name_cmp ps ≡ true → property_changes p ps ps ≡ []
no_property_changes p ps s =
    let found = each_found name_cmp nat_list_cmp_total ps s in
    ap (λ l. map (λ n. Unset p n.0) l ++ put_changed p ps ps) (none_left (λ n. is_none (lookup (is_at (name_cmp n.0)) ps)) ps (each_more _ _ (λ n h. ap is_none h) ps found))
    ∙ ap (map (λ n. Put p n.0 n.1)) (none_left (λ n. not (option_map_or (same_property n.1) (lookup (is_at (name_cmp n.0)) ps) false)) ps (each_more _ _ (λ n h. ap (λ o. not (option_map_or (same_property n.1) o false)) h ∙ ap not ((same_property_decides n.1 n.1).1 refl)) ps found))

no_changes_at : (t : Nodes) (e : Path × Node) → node_at t e.0 ≡ Some e.1 → is_sorted name_cmp e.1.props ≡ true → node_changes t e ≡ []
no_changes_at t e there names =
    ap (λ o. cond (is_some o) [] (Here e.0 ∷ []) ++ property_changes e.0 (option_map_or (λ node. node.props) o []) e.1.props) there ∙ no_property_changes e.0 e.1.props names

-- ---- the touched nodes

module _ (f : Change → Option Node) where
  abbrev pub of_changes : Changed → Nodes
  of_changes c = filter_map (λ e. option_map (λ node. (e.0, node)) (f e.1)) c

  below-of : (p : Path) (c : Changed) → below_all path_cmp p c ≡ true → below_all path_cmp p (of_changes c) ≡ true
  below-of p [] h = refl
  below-of p (e ∷ c) h = by (f e.1) (below-of p c (second _ _ h))
    where
      by : (o : Option Node) → below_all path_cmp p (of_changes c) ≡ true → below_all path_cmp p (cons_option (option_map (λ node. (e.0, node)) o) (of_changes c)) ≡ true
      by None rest = rest
      by (Some node) rest = both _ _ (first _ _ h) rest

  pub sorted-of : (c : Changed) → is_sorted path_cmp c ≡ true → is_sorted path_cmp (of_changes c) ≡ true
  sorted-of [] h = refl
  sorted-of (e ∷ c) h = by (f e.1) (sorted-of c (second _ _ h))
    where
      by : (o : Option Node) → is_sorted path_cmp (of_changes c) ≡ true → is_sorted path_cmp (cons_option (option_map (λ node. (e.0, node)) o) (of_changes c)) ≡ true
      by None rest = rest
      by (Some node) rest = both _ _ (below-of e.0 c (first _ _ h)) rest

  pub node_at-of : (c : Changed) → is_sorted path_cmp c ≡ true → (p : Path) → node_at (of_changes c) p ≡ option_and_then f (change_at c p)
  node_at-of [] h p = refl
  node_at-of (e ∷ c) h p = by (f e.1) refl (eq_by_cmp path_cmp p e.0) refl (node_at-of c (second _ _ h) p)
    where
      by : (o : Option Node) → f e.1 ≡ o → (b : Bool) → eq_by_cmp path_cmp p e.0 ≡ b → node_at (of_changes c) p ≡ option_and_then f (change_at c p)
          → node_at (cons_option (option_map (λ node. (e.0, node)) o) (of_changes c)) p ≡ option_and_then f (cond b (Some e.1) (change_at c p))
      by None is true g rest = rest ∙ (ap (option_and_then f) (none_below path_cmp path_total p e.0 (exactly _ g) c (first _ _ h)) ∙ sym is)
      by None is false g rest = rest
      by (Some node) is true g rest = ap (λ b. cond b (Some node) (node_at (of_changes c) p)) g ∙ sym is
      by (Some node) is false g rest = ap (λ b. cond b (Some node) (node_at (of_changes c) p)) g ∙ rest

kept_at : (test : Path → Bool) (p : Path) (es : Nodes) → node_at (filter (λ e. test e.0) es) p ≡ cond (test p) (node_at es p) None
kept_at test p es = lookup-filter-keys (is_at (path_cmp p)) test (test p) (λ q h. ap test (sym (same_path p q h))) es

-- the names of a node of a tree in order
names_at : (t : Nodes) → list_all (λ e. is_sorted name_cmp e.1.props) t ≡ true → (p : Path) (node : Node)
    → node_at t p ≡ Some node → is_sorted name_cmp node.props ≡ true
names_at [] h p node there = absurd (false≢true (ap is_some there))
names_at (e ∷ t) h p node there = by (is_at (path_cmp p) e.0) there (names_at t (second _ _ h) p node)
  where
    by : (b : Bool) → cond b (Some e.1) (node_at t p) ≡ Some node
        → (node_at t p ≡ Some node → is_sorted name_cmp node.props ≡ true) → is_sorted name_cmp node.props ≡ true
    by true is rest = ap (λ (o : Option Node). option_map_or (λ x. is_sorted name_cmp x.props) o true) (sym is) ∙ first _ _ h
    by false is rest = rest is

module _ (t : Nodes) (c : Changed) (tree : IsTree t) (over : AreOver t c) where
  abbrev touched : Path → Bool
  touched p = is_some (change_at c p)

  abbrev v : Nodes
  v = view_of t c

  in_view : (p : Path) → node_at v p ≡ seen t c p
  in_view = node_at-view t c tree.paths over.paths

  in_old : (p : Path) → node_at (old_nodes c) p ≡ option_and_then (λ x. x.old) (change_at c p)
  in_old = node_at-of (λ x. x.old) c over.paths

  in_new : (p : Path) → node_at (new_nodes c) p ≡ option_and_then (λ x. x.new) (change_at c p)
  in_new = node_at-of (λ x. x.new) c over.paths

  -- ---- nodes that go

  same_lost : (p : Path) (o : Option Change) → change_at c p ≡ o → cond (is_none (option_and_then (λ x. x.new) o)) (option_and_then (λ x. x.old) o) None ≡ cond (is_none (option_map_or (λ x. x.new) o (node_at t p))) (node_at t p) None
  same_lost p (Some x) is = ap (λ (n : Option Node). cond (is_none x.new) n None) (over.kept p x is).old
  same_lost p None is = by (node_at t p)
    where
      by : (o : Option Node) → ◌≡◌ {A = Option Node} None (cond (is_none o) o None)
      by None = refl
      by (Some node) = refl

  same_going : filter (λ e. is_none (node_at (new_nodes c) e.0)) (old_nodes c) ≡ filter (λ e. is_none (node_at v e.0)) t
  same_going =
      same_lists path_cmp path_total path_exact (filter (λ e. is_none (node_at (new_nodes c) e.0)) (old_nodes c)) (filter (λ e. is_none (node_at v e.0)) t)
      (sorted_filter path_cmp (λ e. is_none (node_at (new_nodes c) e.0)) (old_nodes c) (sorted-of (λ x. x.old) c over.paths))
      (sorted_filter path_cmp (λ e. is_none (node_at v e.0)) t tree.paths)
      (λ p. kept_at (λ q. is_none (node_at (new_nodes c) q)) p (old_nodes c)
      ∙ (ap (λ (n : Option Node). cond (is_none n) (node_at (old_nodes c) p) None) (in_new p)
      ∙ (ap (λ (n : Option Node). cond (is_none (option_and_then (λ x. x.new) (change_at c p))) n None) (in_old p)
      ∙ (same_lost p (change_at c p) refl
      ∙ (ap (λ (n : Option Node). cond (is_none n) (node_at t p) None) (sym (in_view p))
      ∙ sym (kept_at (λ q. is_none (node_at v q)) p t))))))

  -- ---- nodes that come or change

  same_staying : filter (λ e. touched e.0) v ≡ new_nodes c
  same_staying =
      same_lists path_cmp path_total path_exact (filter (λ e. touched e.0) v) (new_nodes c)
      (sorted_filter path_cmp (λ e. touched e.0) v (sorted-view t c tree.paths))
      (sorted-of (λ x. x.new) c over.paths)
      (λ p. kept_at touched p v
      ∙ (ap (λ (n : Option Node). cond (touched p) n None) (in_view p) ∙ (by (change_at c p) (node_at t p) ∙ sym (in_new p))))
    where
      by : (o : Option Change) (n : Option Node) → cond (is_some o) (option_map_or (λ x. x.new) o n) None ≡ option_and_then (λ x. x.new) o
      by None n = refl
      by (Some x) n = refl

  touched_old : (p : Path) → touched p ≡ true → node_at t p ≡ node_at (old_nodes c) p
  touched_old p h = by (change_at c p) refl h ∙ sym (in_old p)
    where
      by : (o : Option Change) → change_at c p ≡ o → is_some o ≡ true → node_at t p ≡ option_and_then (λ x. x.old) o
      by None is some = absurd (false≢true some)
      by (Some x) is some = sym (over.kept p x is).old

  abbrev changed_from : Option Node → Path × Node → List Write
  changed_from o e = cond (is_some o) [] (Here e.0 ∷ []) ++ property_changes e.0 (option_map_or (λ node. node.props) o []) e.1.props

  same_changes : (es : Nodes) → EachOf (λ e. touched e.0 ≡ false → node_changes t e ≡ []) es → nodes_changed t es ≡ nodes_changed (old_nodes c) (filter (λ e. touched e.0) es)
  same_changes [] h = refl
  same_changes (e ∷ es) h = by (touched e.0) refl (same_changes es h.1)
    where
      by : (b : Bool) → touched e.0 ≡ b → nodes_changed t es ≡ nodes_changed (old_nodes c) (filter (λ e. touched e.0) es)
          → node_changes t e ++ nodes_changed t es ≡ nodes_changed (old_nodes c) (cond b (e ∷ filter (λ e. touched e.0) es) (filter (λ e. touched e.0) es))
      by true g rest = ap (λ (o : Option Node). changed_from o e ++ nodes_changed t es) (touched_old e.0 g) ∙ ap (λ ws. node_changes (old_nodes c) e ++ ws) rest
      by false g rest = ap (λ ws. ws ++ nodes_changed t es) (h.0 g) ∙ rest

  -- a node that no change touches is the tree's, so its names are in order
  untouched_same : EachOf (λ e. touched e.0 ≡ false → node_changes t e ≡ []) v
  untouched_same = each_more _ _ one v (each_found path_cmp path_total v (sorted-view t c tree.paths))
    where
      none_of : (o : Option Change) → is_some o ≡ false → (n : Option Node) → option_map_or (λ x. x.new) o n ≡ n
      none_of None h n = refl
      none_of (Some x) h n = absurd (false≢true (sym h))

      there : (e : Path × Node) → node_at v e.0 ≡ Some e.1 → touched e.0 ≡ false → node_at t e.0 ≡ Some e.1
      there e h out = sym (none_of (change_at c e.0) out (node_at t e.0)) ∙ (sym (in_view e.0) ∙ h)

      one : (e : Path × Node) → node_at v e.0 ≡ Some e.1 → touched e.0 ≡ false → node_changes t e ≡ []
      one e h out = no_changes_at t e (there e h out) (names_at t tree.names e.0 e.1 (there e h out))

  pub edit_exact : edit_of c ≡ changes t v
  edit_exact =
      ap (λ (es : Nodes). values_of (with_writes [] (flat_map taking es ++ nodes_changed (old_nodes c) (new_nodes c)))) same_going
      ∙ ap (λ ws. values_of (with_writes [] (nodes_taken v t ++ ws)))
      (ap (λ (es : Nodes). nodes_changed (old_nodes c) es) (sym same_staying) ∙ sym (same_changes v untouched_same))

  pub edit_proper : IsTree v → IsProper t (edit_of c)
  edit_proper view = subst (IsProper t) (sym edit_exact) (changes_proper t v tree view)
