-- Of a tree, an edit makes a tree exactly where the root stays and what it writes stands with its parent.
use Rattle.std.proofs.Common.{◌≡◌, ◌⊎◌, inl, inr, Bool, true, false, cond, ◌&&◌, ◌||◌, List, [], ◌∷◌, ◌++◌, Option, None, Some, is_some, refl, sym, ap, subst, ◌∙◌}
use Rattle.std.specs.FinMap.{is_sorted}
use Rattle.std.specs.List.{list_all, list_any}
use Rattle.std.specs.Option.{option_map_or, unwrap_or}
use Rattle.std.specs.Ordering.{eq_by_cmp}
use Rattle.std.specs.Cmp.{eq_by_cmp_equiv}
use Rattle.std.proofs.lemmas.Bool.{false≢true}
use Rattle.std.proofs.lemmas.Cmp.{nat_list_cmp_total}
use Rattle.jr_path.specs.Names.{name_cmp, parent_of, path_cmp}
use Rattle.jr_path.specs.declared.name.Name.{Name}
use Rattle.jr_path.specs.declared.path.Path.{Path}
use Rattle.jr_path.proofs.Maps.{path_total}
use Rattle.jr_path.proofs.Parts.{parent_of-child}
use Rattle.jr_tree.specs.declared.edit.Write.{Write}
use Rattle.jr_tree.specs.Edits.{applied, item_of}
use Rattle.jr_tree.specs.Merging.{is_touched}
use Rattle.jr_tree.specs.Trees.{IsTree, Nodes, children_of, has_names_in_order, has_parent, node_at}
use Rattle.jr_tree.proofs.AtPath.{order-applied}
use Rattle.jr_tree.proofs.EditLaw.{Orderly-all, Orderly-applied}
use Rattle.jr_tree.proofs.Entries.{both, first, second}
use Rattle.jr_tree.proofs.Pointwise.{same_path}
use Rattle.jr_overlay.proofs.EditsOf.{EachOf, each_found, each_more}
use Rattle.jr_edited.proofs.Children.{named_child}
use Rattle.jr_edited.proofs.Made.{untouched}
use Rattle.jr_items.specs.Items.{is_empty}
use Rattle.jcr_law.specs.Proper.{is_tree}
use Rattle.jcr_call.specs.Rooted.{is_rooted}
use Rattle.jcr_call.proofs.Improper.{tree_by_parents}

-- ---- lists

all_each : {X : Type 0} (f : X → Bool) (xs : List X) → EachOf (λ x. f x ≡ true) xs → list_all f xs ≡ true
all_each f [] h = refl
all_each f (x ∷ xs) h = both _ _ h.0 (all_each f xs h.1)

-- what holds of each path of a tree holds of the path of a node that is there
at_path : (g : Path → Bool) (t : Nodes) → list_all (λ e. g e.0) t ≡ true → (q : Path) → is_some (node_at t q) ≡ true → g q ≡ true
at_path g [] h q is = absurd (false≢true is)
at_path g (e ∷ t) h q is = by (eq_by_cmp path_cmp q e.0) refl is (λ k. at_path g t (second _ _ h) q k)
  where
    by : (b : Bool) → eq_by_cmp path_cmp q e.0 ≡ b → is_some (cond b (Some e.1) (node_at t q)) ≡ true → (is_some (node_at t q) ≡ true → g q ≡ true) → g q ≡ true
    by true same k rest = ap g (same_path q e.0 same) ∙ first _ _ h
    by false same k rest = rest k

-- what holds of the path of each write holds of each touched path
at_write : (g : Path → Bool) (ws : List Write) → list_all (λ w. g (item_of w).path) ws ≡ true → (q : Path) → is_touched ws q ≡ true → g q ≡ true
at_write g [] h q is = absurd (false≢true is)
at_write g (w ∷ ws) h q is = by (eq_by_cmp path_cmp q (item_of w).path) refl is (λ k. at_write g ws (second _ _ h) q k)
  where
    by : (b : Bool) → eq_by_cmp path_cmp q (item_of w).path ≡ b → (b || is_touched ws q) ≡ true → (is_touched ws q ≡ true → g q ≡ true) → g q ≡ true
    by true same k rest = ap g (same_path q (item_of w).path same) ∙ first _ _ h
    by false same k rest = rest k

each_write : (g : Path → Bool) (ws : List Write) → ((q : Path) → g q ≡ true) → list_all (λ w. g (item_of w).path) ws ≡ true
each_write g [] h = refl
each_write g (w ∷ ws) h = both _ _ (h (item_of w).path) (each_write g ws h)

-- ---- children

-- a path is the root, or that of a child
ends : (q : Path) → (q ≡ []) ⊎ ((p : Path) × (n : Name) × (q ≡ p ++ n ∷ []))
ends [] = inl refl
ends (m ∷ q) = by (ends q)
  where
    by : (q ≡ []) ⊎ ((p : Path) × (n : Name) × (q ≡ p ++ n ∷ [])) → ((m ∷ q) ≡ []) ⊎ ((p : Path) × (n : Name) × ((m ∷ q) ≡ p ++ n ∷ []))
    by (inl e) = inr ([], m, ap (λ r. m ∷ r) e)
    by (inr it) = inr (m ∷ it.0, it.1, ap (λ r. m ∷ r) it.2)

child_of : (q p : Path) → parent_of q ≡ Some p → (n : Name) × (q ≡ p ++ n ∷ [])
child_of q p h = elim (ends q) [
  | inl e ↦ absurd (false≢true (ap is_some (sym (ap parent_of e) ∙ h)))
  | inr it ↦
      let same : it.0 ≡ p = ap (λ (o : Option Path). unwrap_or o p) (sym (parent_of-child it.0 it.1) ∙ (sym (ap parent_of it.2) ∙ h)) in
      (it.1, it.2 ∙ ap (λ r. r ++ it.1 ∷ []) same)
]

-- where nothing stands right below p, no child of p is there
none_below : (u : Nodes) (p q : Path) → is_empty (children_of u p) ≡ true → parent_of q ≡ Some p → is_some (node_at u q) ≡ true → ⊥
none_below u p q empty above there =
    let it = child_of q p above in
    by it.0 (children_of u p) empty (named_child u p it.0 ∙ (ap (λ r. is_some (node_at u r)) (sym it.1) ∙ there))
  where
    by : (n : Name) (ns : List Name) → is_empty ns ≡ true → list_any (eq_by_cmp name_cmp n) ns ≡ true → ⊥
    by n [] e h = false≢true h
    by n (m ∷ ns) e h = false≢true e

-- ---- the tree after the edit

module _ (t : Nodes) (ws : List Write) (tree : IsTree t) where
  abbrev u : Nodes
  u = applied None t ws

  order : is_sorted path_cmp u ≡ true
  order = order-applied None t ws tree.paths

  names : has_names_in_order u ≡ true
  names = all_each (λ e. is_sorted name_cmp e.1.props) u
      (each_more _ _ (λ e h. Orderly-applied None t ws tree.paths (Orderly-all t tree.names) e.0 e.1 h) u (each_found path_cmp path_total u order))

  -- the parent of each node is there, where what is written stands with its parent
  parents_from : list_all (λ w. is_rooted u (item_of w).path) ws ≡ true → (p : Path) → is_some (node_at u p) ≡ true → has_parent u p ≡ true
  parents_from h p there = by (is_touched ws p) refl
    where
      written : (q : Path) → is_touched ws q ≡ true → is_rooted u q ≡ true
      written q is = at_write (is_rooted u) ws h q is

      still : (q : Path) → is_touched ws q ≡ false → node_at u q ≡ node_at t q
      still q is = untouched t ws tree.paths q is

      -- the node above one that was there and stays is there
      above_stays : (q : Path) → parent_of p ≡ Some q → is_some (node_at t q) ≡ true → is_some (node_at u q) ≡ true
      above_stays q above was = elsewhere (is_touched ws q) refl
        where
          rooted : (b : Bool) → is_some (node_at u q) ≡ b → cond b (has_parent u q) (is_empty (children_of u q)) ≡ true → b ≡ true
          rooted true is k = refl
          rooted false is k = absurd (none_below u q p k above there)

          elsewhere : (b : Bool) → is_touched ws q ≡ b → is_some (node_at u q) ≡ true
          elsewhere true is = rooted (is_some (node_at u q)) refl (written q is)
          elsewhere false is = ap is_some (still q is) ∙ was

      by : (b : Bool) → is_touched ws p ≡ b → has_parent u p ≡ true
      by true is = sym (ap (λ b. cond b (has_parent u p) (is_empty (children_of u p))) there) ∙ written p is
      by false is = at (parent_of p) refl (at_path (has_parent t) t tree.parents p (sym (ap is_some (still p is)) ∙ there))
        where
          at : (o : Option Path) → parent_of p ≡ o → option_map_or (λ q. is_some (node_at t q)) o true ≡ true → option_map_or (λ q. is_some (node_at u q)) o true ≡ true
          at None above k = refl
          at (Some q) above k = above_stays q above k

  -- and what stands in a tree stands with its parent
  rooted_from : list_all (λ e. has_parent u e.0) u ≡ true → (p : Path) → is_rooted u p ≡ true
  rooted_from h p = by (is_some (node_at u p)) refl (children_of u p) refl
    where
      by : (b : Bool) → is_some (node_at u p) ≡ b → (ns : List Name) → children_of u p ≡ ns → cond b (has_parent u p) (is_empty ns) ≡ true
      by true there ns are = at_path (has_parent u) u h p there
      by false gone [] are = refl
      by false gone (n ∷ ns) are =
          let child : is_some (node_at u (p ++ n ∷ [])) ≡ true =
          sym (named_child u p n) ∙ (ap (list_any (eq_by_cmp name_cmp n)) are ∙ ap (λ b. b || list_any (eq_by_cmp name_cmp n) ns) ((eq_by_cmp_equiv nat_list_cmp_total).refl n)) in
          let above : option_map_or (λ q. is_some (node_at u q)) (parent_of (p ++ n ∷ [])) true ≡ true = at_path (has_parent u) u h (p ++ n ∷ []) child in
          absurd (false≢true (sym gone ∙ (sym (ap (λ (o : Option Path). option_map_or (λ q. is_some (node_at u q)) o true) (parent_of-child p n)) ∙ above)))

  either : (a b : Bool) → (a ≡ true → b ≡ true) → (b ≡ true → a ≡ true) → a ≡ b
  either true b h k = sym (h refl)
  either false true h k = k refl
  either false false h k = refl

  written_decide : list_all (λ w. is_rooted u (item_of w).path) ws ≡ list_all (λ e. has_parent u e.0) u
  written_decide = either _ _
      (λ h. all_each (λ e. has_parent u e.0) u (each_more _ _ (λ e is. parents_from h e.0 (ap is_some is)) u (each_found path_cmp path_total u order)))
      (λ h. each_write (is_rooted u) ws (rooted_from h))

-- the tests of what is written tell whether the tree after the edit is one
pub kept_by : (t v : Nodes) (ws : List Write) (b : Bool) → v ≡ applied None t ws → IsTree t → is_some (node_at v []) ≡ true → b ≡ list_all (λ w. is_rooted v (item_of w).path) ws → b ≡ is_tree v
kept_by t v ws b same tree root is =
    let there : is_some (node_at (applied None t ws) []) ≡ true = subst (λ (x : Nodes). is_some (node_at x []) ≡ true) same root in
    let tested : b ≡ list_all (λ w. is_rooted (applied None t ws) (item_of w).path) ws = subst (λ (x : Nodes). b ≡ list_all (λ w. is_rooted x (item_of w).path) ws) same is in
    subst (λ (x : Nodes). b ≡ is_tree x) (sym same)
    (tree_by_parents (applied None t ws) b (order t ws tree) (names t ws tree) there (tested ∙ written_decide t ws tree))

-- nothing is a tree without its root
pub no_root : (v : Nodes) → is_some (node_at v []) ≡ false → false ≡ is_tree v
no_root v h = sym (ap (λ b. ((is_sorted path_cmp v && has_names_in_order v) && b) && list_all (λ e. has_parent v e.0) v) h ∙ by (is_sorted path_cmp v && has_names_in_order v))
  where
    by : (a : Bool) → ((a && false) && list_all (λ e. has_parent v e.0) v) ≡ false
    by true = refl
    by false = refl
