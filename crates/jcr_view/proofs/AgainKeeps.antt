-- Writes of a proper edit made again on another tree keep it a tree.
use Rattle.std.proofs.Common.{◌≡◌, ◌⊎◌, ◌∙◌, inl, inr, Bool, true, false, cond, List, [], ◌∷◌, Option, None, Some, is_some, refl, sym, ap, subst}
use Rattle.std.specs.Prelude.{◌&&◌, is_none}
use Rattle.std.specs.Ordering.{eq_by_cmp}
use Rattle.std.specs.List.{All, fold, list_all}
use Rattle.std.specs.Option.{option_map_or, unwrap_or}
use Rattle.std.specs.FinMap.{is_sorted}
use Rattle.std.specs.BTreeMap.{is_at}
use Rattle.std.proofs.lemmas.Cmp.{nat_list_cmp_total}
use mathlib.Core.Bool.{false≢true}
use Rattle.basics.proofs.Options.{none_tested}
use Rattle.jr_path.specs.Names.{is_under, name_cmp, parent_of, path_cmp}
use Rattle.jr_path.specs.declared.path.Path.{Path}
use Rattle.jr_path.proofs.Parts.{below_is_prefix}
use Rattle.jr_tree.specs.declared.edit.Write.{Write}
use Rattle.jr_tree.specs.declared.edit.Write.TheVariants.{Here, Gone, Put, Unset}
use Rattle.jr_tree.specs.declared.tree.Node.{Node}
use Rattle.jr_tree.specs.Edits.{IsProper, applied, is_change}
use Rattle.jr_tree.specs.Trees.{IsTree, Nodes, node_at}
use Rattle.jr_tree.proofs.Entries.{first, second, sorted_insert, sorted_remove}
use Rattle.jr_tree.proofs.Pointwise.{same_path}
use Rattle.jr_part.specs.Parts.{Knowledge, LacksNothing}
use Rattle.jr_part.proofs.Above.{above as stands_above}
use Rattle.jr_overlay.specs.Drafts.{Steps, drafted, with_step}
use Rattle.jr_overlay.specs.Overlays.{edit_of, whole_view}
use Rattle.jr_overlay.specs.Views.{KeepTree}
use Rattle.jr_overlay.proofs.EditsOf.{edit_proper}
use Rattle.jr_overlay.proofs.KeepingSteps.{after_gone, after_step, more_gone_keeps, nothing_keeps, one_more_keeps}
use Rattle.jr_overlay.proofs.KeptTrees.{kept_tree, names_after, parent_after}
use Rattle.jcr_write.specs.Places.{above, with_property, without_property}
use Rattle.jcr_view.specs.Needs.{needs_to_rebase}
use Rattle.jcr_view.specs.Parts.{IsPartOf}
use Rattle.jcr_view.specs.Rebases.{again, bare, changed_where, rebased, steps_again, tree_again}
use Rattle.jcr_view.proofs.Again.{over_rebased, view_rebased}

-- where no node is at a path of a tree, none is below
pub none_under : (u : Nodes) → IsTree u → (p q : Path) → node_at u p ≡ None → is_under q p ≡ true
    → is_some (node_at u q) ≡ true → ⊥
none_under u tree p q none under there =
    let b = (below_is_prefix q p).0 under in
    false≢true (ap is_some (sym none)
    ∙ stands_above u tree p b.0 (ap (λ (x : Path). is_some (node_at u x)) (sym b.1) ∙ there))

module _ (t u : Nodes) (tree : IsTree t) (to : IsTree u) where
  -- a node is at the path in one of the two trees
  abbrev IsOfBoth : Path → Type 0
  IsOfBoth p = (is_some (node_at t p) ≡ true) ⊎ (is_some (node_at u p) ≡ true)

  -- the steps keep t a tree, and each node that is drafted is in one of the two trees
  abbrev Kept : Steps → Type 0
  Kept steps = KeepTree (whole_view t) steps
      × ((p : Path) → is_some (drafted (whole_view t) steps p) ≡ true → IsOfBoth p)

  put_kept : (steps : Steps) (p : Path) (node : Node) → Kept steps → is_sorted name_cmp node.props ≡ true
      → ((q : Path) → parent_of p ≡ Some q → is_some (drafted (whole_view t) steps q) ≡ true) → IsOfBoth p
      → Kept (with_step steps p (Some node))
  put_kept steps p node kept names parent here = (
    one_more_keeps t steps p node kept.0 names parent,
    λ q there. by q (eq_by_cmp path_cmp q p) refl (ap is_some (sym (after_step t steps p (Some node) q)) ∙ there),
  )
    where
      by : (q : Path) (b : Bool) → eq_by_cmp path_cmp q p ≡ b
          → is_some (cond b (Some node) (drafted (whole_view t) steps q)) ≡ true → IsOfBoth q
      by q true same there = subst IsOfBoth (sym (same_path q p same)) here
      by q false same there = kept.1 q there

  changed_kept : (steps : Steps) (p : Path) (change : Node → Node)
      → ((node : Node) → is_sorted name_cmp node.props ≡ true → is_sorted name_cmp (change node).props ≡ true)
      → Kept steps → Kept (changed_where (whole_view t) steps p change)
  changed_kept steps p change names kept = by (drafted (whole_view t) steps p) refl
    where
      by : (o : Option Node) → drafted (whole_view t) steps p ≡ o
          → Kept (option_map_or (λ node. with_step steps p (Some (change node))) o steps)
      by None is = kept
      by (Some node) is =
          put_kept steps p (change node) kept (names node (names_after t steps tree kept.0 p node is))
          (λ q up. parent_after t steps tree kept.0 p q (ap is_some is) up) (kept.1 p (ap is_some is))

  come_kept : (steps : Steps) (p : Path) → is_some (node_at u p) ≡ true → Kept steps
      → Kept (again (whole_view t) steps (Here p))
  come_kept steps p there kept =
      by (is_some (drafted (whole_view t) steps (above p)) && is_none (drafted (whole_view t) steps p)) refl
    where
      by : (b : Bool) → (is_some (drafted (whole_view t) steps (above p)) && is_none (drafted (whole_view t) steps p)) ≡ b
          → Kept (cond b (with_step steps p (Some bare)) steps)
      by true h = put_kept steps p bare kept refl
          (λ q up. ap (λ o. is_some (drafted (whole_view t) steps (unwrap_or o []))) (sym up) ∙ first _ _ h) (inr there)
      by false h = kept

  go_kept : (steps : Steps) (p : Path) → node_at u p ≡ None → Kept steps → Kept (again (whole_view t) steps (Gone p))
  go_kept steps p none kept = (
    more_gone_keeps t steps p kept.0 below_root (λ q under there. stood q under (kept.1 q there)),
    λ q there. kept.1 q (was (is_some (cond (is_under q p) (node_at t q) None)) q
        (ap is_some (sym (after_gone t steps p q)) ∙ there)),
  )
    where
      below_root : p ≡ [] → ⊥
      below_root e = false≢true (ap is_some (sym none) ∙ (ap (λ (q : Path). is_some (node_at u q)) e ∙ to.root))

      stood : (q : Path) → is_under q p ≡ true → IsOfBoth q → is_some (node_at t q) ≡ true
      stood q under (inl h) = h
      stood q under (inr h) = absurd (none_under u to p q none under h)

      was : (b : Bool) (q : Path) → is_some (cond b None (drafted (whole_view t) steps q)) ≡ true
          → is_some (drafted (whole_view t) steps q) ≡ true
      was true q h = absurd (false≢true h)
      was false q h = h

  again_kept : (from : Nodes) (steps : Steps) (w : Write) → is_change from u w ≡ true → Kept steps
      → Kept (again (whole_view t) steps w)
  again_kept from steps (Here p) change kept = come_kept steps p (second _ _ change) kept
  again_kept from steps (Gone p) change kept = go_kept steps p (none_tested (node_at u p) (second _ _ change)) kept
  again_kept from steps (Put p n x) change kept =
      changed_kept steps p (λ node. with_property node n x)
      (λ node names. sorted_insert name_cmp nat_list_cmp_total n x node.props names) kept
  again_kept from steps (Unset p n) change kept =
      changed_kept steps p (λ node. without_property node n)
      (λ node names. sorted_remove name_cmp (is_at (name_cmp n)) node.props names) kept

  all_again_kept : (from : Nodes) (ws : List Write) (steps : Steps) → list_all (is_change from u) ws ≡ true → Kept steps
      → Kept (fold (again (whole_view t)) steps ws)
  all_again_kept from [] steps changes kept = kept
  all_again_kept from (w ∷ ws) steps changes kept =
      all_again_kept from ws (again (whole_view t) steps w) (second _ _ changes)
      (again_kept from steps w (first _ _ changes) kept)

-- a proper edit made again keeps each tree a tree
pub again_keeps : (from t : Nodes) (ws : List Write) → IsProper from ws → IsTree t
    → KeepTree (whole_view t) (steps_again (whole_view t) ws)
again_keeps from t ws proper tree =
    (all_again_kept t (applied None from ws) tree proper.tree from ws [] proper.changing
    (nothing_keeps t tree, λ p there. inl there)).0

pub again_tree : (from t : Nodes) (ws : List Write) → IsProper from ws → IsTree t
    → IsTree (tree_again t ws)
again_tree from t ws proper tree =
    kept_tree t t (steps_again (whole_view t) ws) tree (again_keeps from t ws proper tree)

-- what a proper edit made again comes to is proper
pub again_proper : (from t : Nodes) (k : Knowledge) (ws : List Write) → IsProper from ws → IsPartOf t k []
    → All (LacksNothing k) (needs_to_rebase ws) → IsProper t (edit_of (rebased k ws))
again_proper from t k ws proper part all =
    edit_proper t (rebased k ws) part.tree (over_rebased t k part ws all)
    (subst IsTree (sym (view_rebased t k part ws all)) (again_tree from t ws proper part.tree))
