-- All that is read of a whole tree is known.
use Rattle.std.proofs.Common.{◌≡◌, ◌⊎◌, inl, inr, ◌++◌, Bool, true, false, cond, [], ◌∷◌, Option, None, Some, refl, ap, sym, ◌∙◌, append_assoc, append-nil}
use Rattle.std.specs.List.{cons_option, fold}
use Rattle.std.specs.Ordering.{eq_by_cmp}
use Rattle.std.specs.Option.{option_map, option_map_or, unwrap_or}
use Rattle.std.specs.BTreeMap.{insert_entry}
use Rattle.std.specs.FinMap.{is_sorted}
use Rattle.jr_path.specs.Names.{last_name, parent_of, path_cmp}
use Rattle.jr_path.specs.declared.path.Path.{Path}
use Rattle.jr_path.proofs.Entries.{insert_entry_last}
use Rattle.jr_path.proofs.Maps.{lookup-insert_entry, path_total}
use Rattle.jr_tree.specs.declared.tree.Node.{Node}
use Rattle.jr_tree.specs.Trees.{Nodes, dated_children_of, node_at, subtree_of}
use Rattle.jr_tree.proofs.Entries.{rising}
use Rattle.jr_tree.proofs.Pointwise.{same_path}
use Rattle.jr_part.specs.Parts.{ChildNames, Knowledge, list_at, nothing_known, with_children, with_node}
use Rattle.jr_overlay.specs.Overlays.{known_view, whole_view}
use Rattle.jcr_view.specs.Whole.{all_known, with_node_known}

module _ (t : Nodes) where
  -- ---- nodes

  one_node : (k : Knowledge) (e : Path × Node) (o : Option Path)
      → (option_map_or (λ q. with_children (with_node k e.0 (Some e.1)) q (dated_children_of t q)) o
      (with_node k e.0 (Some e.1))).nodes ≡ insert_entry path_cmp k.nodes e.0 e.1
  one_node k e None = refl
  one_node k e (Some q) = refl

  nodes_known : (k : Knowledge) (es : Nodes) → is_sorted path_cmp (k.nodes ++ es) ≡ true
      → (fold (with_node_known t) k es).nodes ≡ k.nodes ++ es
  nodes_known k [] s = sym (append-nil k.nodes)
  nodes_known k (e ∷ es) s =
      let one : (with_node_known t k e).nodes ≡ k.nodes ++ e ∷ [] = one_node k e (parent_of e.0)
      ∙ insert_entry_last path_cmp path_total k.nodes e.0 e.1 es (rising path_cmp _ s) in
      let whole : (with_node_known t k e).nodes ++ es ≡ k.nodes ++ e ∷ es =
      ap (λ (u : Nodes). u ++ es) one ∙ append_assoc k.nodes (e ∷ []) es in
      nodes_known (with_node_known t k e) es (ap (is_sorted path_cmp) whole ∙ s) ∙ whole

  -- ---- children

  -- the children of p are listed, or nothing was listed there, since there are none
  abbrev Listed : (k now : Knowledge) → Nodes → Path → Type 0
  Listed k now es p = (list_at now p ≡ Some (dated_children_of t p))
      ⊎ ((list_at now p ≡ list_at k p) × (dated_children_of es p ≡ []))

  one_listed : (k : Knowledge) (e : Path × Node) (es : Nodes) (p : Path) (o : Option Path) → dated_children_of es p ≡ []
      → ((list_at (option_map_or (λ q. with_children (with_node k e.0 (Some e.1)) q (dated_children_of t q)) o
      (with_node k e.0 (Some e.1))) p ≡ Some (dated_children_of t p))
      ⊎ ((list_at (option_map_or (λ q. with_children (with_node k e.0 (Some e.1)) q (dated_children_of t q)) o
      (with_node k e.0 (Some e.1))) p ≡ list_at k p)
      × (cons_option (cond (option_map_or (eq_by_cmp path_cmp p) o false) (option_map (λ n. (n, e.1.born)) (last_name e.0)) None) (dated_children_of es p) ≡ [])))
  one_listed k e es p None none = inr (refl, none)
  one_listed k e es p (Some q) none = by (eq_by_cmp path_cmp p q) refl
    where
      now : list_at (with_children (with_node k e.0 (Some e.1)) q (dated_children_of t q)) p
          ≡ cond (eq_by_cmp path_cmp p q) (Some (dated_children_of t q)) (list_at k p)
      now = lookup-insert_entry path_cmp path_total p q (dated_children_of t q) k.lists

      by : (b : Bool) → eq_by_cmp path_cmp p q ≡ b
          → ((list_at (with_children (with_node k e.0 (Some e.1)) q (dated_children_of t q)) p ≡ Some (dated_children_of t p))
          ⊎ ((list_at (with_children (with_node k e.0 (Some e.1)) q (dated_children_of t q)) p ≡ list_at k p)
          × (cons_option (cond (eq_by_cmp path_cmp p q) (option_map (λ n. (n, e.1.born)) (last_name e.0)) None) (dated_children_of es p) ≡ [])))
      by true is = inl (now ∙ ap (λ b. cond b (Some (dated_children_of t q)) (list_at k p)) is
          ∙ ap (λ r. Some (dated_children_of t r)) (sym (same_path p q is)))
      by false is = inr (
        now ∙ ap (λ b. cond b (Some (dated_children_of t q)) (list_at k p)) is,
        ap (λ b. cons_option (cond b (option_map (λ n. (n, e.1.born)) (last_name e.0)) None) (dated_children_of es p)) is ∙ none,
      )

  listed : (k : Knowledge) (es : Nodes) (p : Path) → Listed k (fold (with_node_known t) k es) es p
  listed k [] p = inr (refl, refl)
  listed k (e ∷ es) p = by (listed (with_node_known t k e) es p)
    where
      last : (list_at (fold (with_node_known t) k (e ∷ es)) p ≡ list_at (with_node_known t k e) p)
          → (list_at (with_node_known t k e) p ≡ Some (dated_children_of t p))
          ⊎ ((list_at (with_node_known t k e) p ≡ list_at k p) × (dated_children_of (e ∷ es) p ≡ []))
          → Listed k (fold (with_node_known t) k (e ∷ es)) (e ∷ es) p
      last same (inl is) = inl (same ∙ is)
      last same (inr is) = inr (same ∙ is.0, is.1)

      by : Listed (with_node_known t k e) (fold (with_node_known t) k (e ∷ es)) es p
          → Listed k (fold (with_node_known t) k (e ∷ es)) (e ∷ es) p
      by (inl is) = inl is
      by (inr is) = last is.0 (one_listed k e es p (parent_of e.0) is.1)

  children_known : (p : Path) → unwrap_or (list_at (all_known t) p) [] ≡ dated_children_of t p
  children_known p = by (listed nothing_known t p)
    where
      by : Listed nothing_known (all_known t) t p → unwrap_or (list_at (all_known t) p) [] ≡ dated_children_of t p
      by (inl is) = ap (λ (o : Option ChildNames). unwrap_or o []) is
      by (inr is) = ap (λ (o : Option ChildNames). unwrap_or o []) is.0 ∙ sym is.1

  pub all_nodes : is_sorted path_cmp t ≡ true → (all_known t).nodes ≡ t
  all_nodes s = nodes_known nothing_known t s

  -- what is read where all is known is what is read of the tree
  pub all_seen : is_sorted path_cmp t ≡ true → known_view (all_known t) [] ≡ whole_view t
  all_seen s = λ i. record {
    node = λ p. node_at (all_nodes s i) p;
    below = λ p. subtree_of (all_nodes s i) p;
    children = λ p. children_known p i;
  }

-- none is left
pub known_whole : (t : Nodes) (k : Knowledge) (rest : Nodes) → rest ≡ []
    → fold (with_node_known t) k rest ≡ all_known t → k ≡ all_known t
known_whole t k rest none is = sym (ap (fold (with_node_known t) k) none) ∙ is
