-- The children of a node in a view: those of the tree, with each change of a child.
use Rattle.std.proofs.Common.{◌≡◌, ◌⊎◌, inl, inr, Bool, true, false, cond, Some, None, Option, [], ◌∷◌, ◌++◌, is_some, refl, sym, ap, ◌∙◌}
use Rattle.std.specs.Option.{option_map_or, unwrap_or}
use Rattle.std.specs.Ordering.{eq_by_cmp}
use Rattle.std.specs.Map.{lookup, remove_entry}
use Rattle.std.specs.BTreeMap.{is_at, insert_entry}
use Rattle.std.specs.FinMap.{is_sorted}
use Rattle.std.specs.List.{fold}
use Rattle.std.proofs.lemmas.Cmp.{nat_list_cmp_total}
use mathlib.Core.Bool.{false≢true}
use Rattle.jr_path.specs.Names.{last_name, name_cmp, path_cmp}
use Rattle.jr_path.specs.declared.name.Name.{Name}
use Rattle.jr_path.specs.declared.path.Path.{Path}
use Rattle.jr_path.proofs.Maps.{name_exact, lookup-insert_entry}
use Rattle.jr_path.proofs.Parts.{last_name-child}
use Rattle.jr_rev.specs.declared.revision.Revision.{Revision}
use Rattle.jr_tree.specs.declared.tree.Node.{Node}
use Rattle.jr_tree.specs.Trees.{IsTree, Nodes, dated_children_of, is_child_of, node_at}
use Rattle.jr_tree.proofs.AtPath.{InOrder}
use Rattle.jr_tree.proofs.Entries.{lookup-remove, same_lists, sorted_insert, sorted_remove}
use Rattle.jr_part.specs.Parts.{AgreesWith, ChildNames, Knowledge, list_at}
use Rattle.jr_part.proofs.Children.{children_sorted}
use Rattle.jr_part.proofs.Named.{apart, born_in, child_or_not, own_child, same_names}
pub use Rattle.jr_part.proofs.Named.{ends, named_child, none_without}
use Rattle.jr_overlay.specs.declared.overlay.Change.{Change}
use Rattle.jr_overlay.specs.Overlays.{Changed, known_children, view_of, with_child, with_node_at}
use Rattle.jr_overlay.proofs.Views.{node_at-with, sorted-with}

-- ---- one change

abbrev put_name : Name → ChildNames → Option Node → ChildNames
put_name n names None = remove_entry (is_at (name_cmp n)) names
put_name n names (Some node) = insert_entry name_cmp names n node.born

with_out : (p : Path) (names : ChildNames) (q : Path) (x : Change) → is_child_of p q ≡ false → with_child p names (q, x) ≡ names
with_out p names q x out = ap (λ b. cond b (option_map_or (λ n. put_at n) (last_name q) names) names) out
  where
    put_at : Name → ChildNames
    put_at n = option_map_or (λ node. insert_entry name_cmp names n node.born) x.new (remove_entry (is_at (name_cmp n)) names)

with_there : (p : Path) (names : ChildNames) (n : Name) (x : Change) → with_child p names (p ++ n ∷ [], x) ≡ put_name n names x.new
with_there p names n x =
    ap (λ b. cond b (option_map_or put_at (last_name (p ++ n ∷ [])) names) names) (own_child p n)
    ∙ (ap (λ o. option_map_or put_at o names) (last_name-child p n) ∙ by x.new)
  where
    put_at : Name → ChildNames
    put_at n = option_map_or (λ node. insert_entry name_cmp names n node.born) x.new (remove_entry (is_at (name_cmp n)) names)

    by : (o : Option Node) → option_map_or (λ node. insert_entry name_cmp names n node.born) o (remove_entry (is_at (name_cmp n)) names) ≡ put_name n names o
    by None = refl
    by (Some node) = refl

sorted-put : (n : Name) (names : ChildNames) → is_sorted name_cmp names ≡ true → (o : Option Node) → is_sorted name_cmp (put_name n names o) ≡ true
sorted-put n names s None = sorted_remove name_cmp _ names s
sorted-put n names s (Some node) = sorted_insert name_cmp nat_list_cmp_total n node.born names s

named_put : (m n : Name) (names : ChildNames) → is_sorted name_cmp names ≡ true → (o : Option Node) → lookup (is_at (name_cmp m)) (put_name n names o) ≡ cond (eq_by_cmp name_cmp m n) (born_in o) (lookup (is_at (name_cmp m)) names)
named_put m n names s None = lookup-remove name_cmp nat_list_cmp_total m n names s
named_put m n names s (Some node) = lookup-insert_entry name_cmp nat_list_cmp_total m n node.born names

module _ (p : Path) where
  one_change : (t : Nodes) → InOrder t → (e : Path × Change) → with_child p (dated_children_of t p) e ≡ dated_children_of (with_node_at t e.0 e.1.new) p
  one_change t s e = by (child_or_not p e.0)
    where
      names : ChildNames
      names = dated_children_of t p

      v : Nodes
      v = with_node_at t e.0 e.1.new

      in_v : (m : Name) → lookup (is_at (name_cmp m)) (dated_children_of v p) ≡ born_in (cond (eq_by_cmp path_cmp (p ++ m ∷ []) e.0) e.1.new (node_at t (p ++ m ∷ [])))
      in_v m = named_child p m v ∙ ap born_in (node_at-with t s (p ++ m ∷ []) e.0 e.1.new)

      order : is_sorted name_cmp names ≡ true
      order = children_sorted p t s

      order_v : is_sorted name_cmp (dated_children_of v p) ≡ true
      order_v = children_sorted p v (sorted-with t s e.0 e.1.new)

      either : (b : Bool) (o n : Option Node) → cond b (born_in o) (born_in n) ≡ born_in (cond b o n)
      either true o n = refl
      either false o n = refl

      by : (is_child_of p e.0 ≡ false) ⊎ ((n : Name) × (e.0 ≡ p ++ n ∷ [])) → with_child p names e ≡ dated_children_of v p
      by (inl out) =
          with_out p names e.0 e.1 out
          ∙ same_lists name_cmp nat_list_cmp_total name_exact names (dated_children_of v p) order order_v
          (λ m. named_child p m t ∙ (ap (λ b. born_in (cond b e.1.new (node_at t (p ++ m ∷ [])))) (sym (apart p e.0 m out)) ∙ sym (in_v m)))
      by (inr r) =
          ap (λ (q : Path). with_child p names (q, e.1)) r.1
          ∙ (with_there p names r.0 e.1
          ∙ same_lists name_cmp nat_list_cmp_total name_exact (put_name r.0 names e.1.new) (dated_children_of v p) (sorted-put r.0 names order e.1.new) order_v
          (λ m. named_put m r.0 names order e.1.new
          ∙ (ap (λ (o : Option (Option Revision)). cond (eq_by_cmp name_cmp m r.0) (born_in e.1.new) o) (named_child p m t)
          ∙ (either (eq_by_cmp name_cmp m r.0) e.1.new (node_at t (p ++ m ∷ []))
          ∙ (ap (λ b. born_in (cond b e.1.new (node_at t (p ++ m ∷ [])))) (sym (ap (eq_by_cmp path_cmp (p ++ m ∷ [])) r.1 ∙ same_names p m r.0))
          ∙ sym (in_v m))))))

  -- ---- all changes

  pub all_changes : (t : Nodes) → InOrder t → (c : Changed) → fold (with_child p) (dated_children_of t p) c ≡ dated_children_of (view_of t c) p
  all_changes t s [] = refl
  all_changes t s (e ∷ c) =
      ap (λ (names : ChildNames). fold (with_child p) names c) (one_change t s e)
      ∙ all_changes (with_node_at t e.0 e.1.new) (sorted-with t s e.0 e.1.new) c

  pub children_known : (t : Nodes) (k : Knowledge) (c : Changed) → IsTree t → AgreesWith t k → (is_some (node_at t p) ≡ true → is_some (list_at k p) ≡ true) → known_children k c p ≡ dated_children_of (view_of t c) p
  children_known t k c tree agrees known = ap (λ (names : ChildNames). fold (with_child p) names c) (by (list_at k p) refl (node_at t p) refl known) ∙ all_changes t tree.paths c
    where
      by : (o : Option ChildNames) → list_at k p ≡ o → (n : Option Node) → node_at t p ≡ n → (is_some n ≡ true → is_some o ≡ true) → unwrap_or o [] ≡ dated_children_of t p
      by (Some names) is n there h = agrees.lists p names is
      by None is None there h = sym (none_without p t tree there)
      by None is (Some node) there h = absurd (false≢true (h refl))
