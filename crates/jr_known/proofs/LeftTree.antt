-- What is left of the earlier tree, once what is gone went, is a tree.
use Rattle.std.proofs.Common.{◌≡◌, Bool, true, false, cond, Some, None, Option, [], ◌∷◌, is_some, is_none, refl, sym, ap, ◌∙◌}
use Rattle.std.specs.FinMap.{is_sorted}
use Rattle.std.specs.List.{filter, list_all}
use Rattle.std.specs.Option.{option_map_or}
use Rattle.std.specs.Ordering.{eq_by_cmp}
use Rattle.std.proofs.lemmas.Bool.{false≢true}
use Rattle.std.proofs.lemmas.Cmp.{eq_by_cmp_equiv}
use Rattle.jr_path.specs.Names.{name_cmp, parent_of, path_cmp}
use Rattle.jr_path.specs.declared.path.Path.{Path}
use Rattle.jr_path.proofs.Maps.{path_total}
use Rattle.jr_tree.specs.declared.tree.Node.{Node}
use Rattle.jr_tree.specs.Trees.{IsTree, Nodes, has_parent, node_at}
use Rattle.jr_tree.proofs.Entries.{both, first, second, sorted_filter}
use Rattle.jr_tree.proofs.Pointwise.{same_path}
use Rattle.jr_known.proofs.GoneEdit.{left, left_at}

-- ---- what holds of each path of a tree

at_path : (f : Path → Bool) (t : Nodes) → list_all (λ e. f e.0) t ≡ true → (q : Path) → is_some (node_at t q) ≡ true → f q ≡ true
at_path f [] h q is = absurd (false≢true is)
at_path f (e ∷ t) h q is = by (eq_by_cmp path_cmp q e.0) refl is (at_path f t (second _ _ h) q)
  where
    by : (b : Bool) → eq_by_cmp path_cmp q e.0 ≡ b → is_some (cond b (Some e.1) (node_at t q)) ≡ true → (is_some (node_at t q) ≡ true → f q ≡ true) → f q ≡ true
    by true same k rest = ap f (same_path q e.0 same) ∙ first _ _ h
    by false same k rest = rest k

all_paths : (f : Path → Bool) (t : Nodes) → ((q : Path) → is_some (node_at t q) ≡ true → f q ≡ true) → list_all (λ e. f e.0) t ≡ true
all_paths f [] h = refl
all_paths f (e ∷ t) h =
    both _ _ (h e.0 (ap (λ b. is_some (cond b (Some e.1) (node_at t e.0))) ((eq_by_cmp_equiv path_total).refl e.0)))
    (all_paths f t (λ q is. h q (more q (eq_by_cmp path_cmp q e.0) is)))
  where
    more : (q : Path) (b : Bool) → is_some (node_at t q) ≡ true → is_some (cond b (Some e.1) (node_at t q)) ≡ true
    more q true is = refl
    more q false is = is

all_filtered : (f test : Path × Node → Bool) (t : Nodes) → list_all f t ≡ true → list_all f (filter test t) ≡ true
all_filtered f test [] h = refl
all_filtered f test (e ∷ t) h = by (test e) (all_filtered f test t (second _ _ h))
  where
    by : (b : Bool) → list_all f (filter test t) ≡ true → list_all f (cond b (e ∷ filter test t) (filter test t)) ≡ true
    by true rest = both _ _ (first _ _ h) rest
    by false rest = rest

-- ---- the tree

module _ (old g t : Nodes) (tree : IsTree old) (now : IsTree t) (goes : (q : Path) → is_some (node_at g q) ≡ true → node_at t q ≡ None) (stays : (q : Path) → is_some (node_at old q) ≡ true → node_at g q ≡ None → is_some (node_at t q) ≡ true) where
  -- what stands in the new tree isn't gone
  not_gone : (q : Path) → is_some (node_at t q) ≡ true → (o : Option Node) → node_at g q ≡ o → o ≡ None
  not_gone q there None h = refl
  not_gone q there (Some x) h = absurd (false≢true (sym (ap is_some (goes q (ap is_some h))) ∙ there))

  there_left : (q : Path) → is_some (node_at old q) ≡ true → is_some (node_at t q) ≡ true → is_some (node_at (left old g) q) ≡ true
  there_left q was is =
      ap is_some (left_at old g q)
      ∙ (ap (λ (o : Option Node). is_some (cond (is_none o) (node_at old q) None)) (not_gone q is (node_at g q) refl) ∙ was)

  -- what is left was there, and isn't gone
  was_there : (q : Path) → is_some (node_at (left old g) q) ≡ true → (is_some (node_at old q) ≡ true) × (node_at g q ≡ None)
  was_there q is = by (node_at g q) refl (sym (ap is_some (left_at old g q)) ∙ is)
    where
      by : (o : Option Node) → node_at g q ≡ o → is_some (cond (is_none o) (node_at old q) None) ≡ true → (is_some (node_at old q) ≡ true) × (node_at g q ≡ None)
      by None h k = (k, h)
      by (Some x) h k = absurd (false≢true k)

  parent_left : (q : Path) → is_some (node_at (left old g) q) ≡ true → has_parent (left old g) q ≡ true
  parent_left q is =
      let was = was_there q is in
      by (parent_of q) (at_path (has_parent old) old tree.parents q was.0) (at_path (has_parent t) t now.parents q (stays q was.0 was.1))
    where
      by : (o : Option Path) → option_map_or (λ r. is_some (node_at old r)) o true ≡ true → option_map_or (λ r. is_some (node_at t r)) o true ≡ true → option_map_or (λ r. is_some (node_at (left old g) r)) o true ≡ true
      by None h k = refl
      by (Some r) h k = there_left r h k

  pub left_tree : IsTree (left old g)
  left_tree = record {
    paths = sorted_filter path_cmp (λ e. is_none (node_at g e.0)) old tree.paths;
    names = all_filtered (λ e. is_sorted name_cmp e.1.props) (λ e. is_none (node_at g e.0)) old tree.names;
    root = there_left [] tree.root now.root;
    parents = all_paths (has_parent (left old g)) (left old g) parent_left;
  }
