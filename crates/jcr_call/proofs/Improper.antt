-- The tests of proper writes one after another.
use Rattle.std.proofs.Common.{◌≡◌, Bool, true, false, ◌&&◌, List, [], refl, sym, ap, ◌∙◌}
use Rattle.std.specs.Prelude.{None, is_some}
use Rattle.std.specs.FinMap.{is_sorted}
use Rattle.std.specs.List.{list_all}
use Rattle.jr_path.specs.Names.{path_cmp}
use Rattle.jr_tree.specs.declared.edit.Write.{Write}
use Rattle.jr_tree.specs.Edits.{applied, is_change, is_emptied, is_once}
use Rattle.jr_tree.specs.Trees.{Nodes, has_names_in_order, has_parent, node_at}
use Rattle.jcr_law.specs.Proper.{is_proper, is_tree}

-- a tree by its parents, where all else is as it must be
pub tree_by_parents : (t : Nodes) (b : Bool) → is_sorted path_cmp t ≡ true → has_names_in_order t ≡ true
    → is_some (node_at t []) ≡ true → b ≡ list_all (λ e. has_parent t e.0) t → b ≡ is_tree t
tree_by_parents t b paths names root is =
    is ∙ sym (ap (λ x. ((x && has_names_in_order t) && is_some (node_at t [])) && list_all (λ e. has_parent t e.0) t) paths
    ∙ (ap (λ x. (x && is_some (node_at t [])) && list_all (λ e. has_parent t e.0) t) names
    ∙ ap (λ x. x && list_all (λ e. has_parent t e.0) t) root))

module _ (t u : Nodes) (ws : List Write) (same : u ≡ applied None t ws) where
  whole : is_proper t ws ≡ (((is_tree u && is_once ws) && list_all (is_change t u) ws) && list_all (is_emptied t ws) ws)
  unfolding is_proper
  whole = ap (λ (x : Nodes). ((is_tree x && is_once ws) && list_all (is_change t x) ws) && list_all (is_emptied t ws) ws) (sym same)

  pub no_tree : false ≡ is_tree u → false ≡ is_proper t ws
  no_tree h = ap (λ b. ((b && is_once ws) && list_all (is_change t u) ws) && list_all (is_emptied t ws) ws) h ∙ sym whole

  pub no_once : false ≡ is_once ws → false ≡ is_proper t ws
  no_once h =
      sym (by (is_tree u) (list_all (is_change t u) ws) (list_all (is_emptied t ws) ws))
      ∙ (ap (λ b. ((is_tree u && b) && list_all (is_change t u) ws) && list_all (is_emptied t ws) ws) h ∙ sym whole)
    where
      by : (a c d : Bool) → (((a && false) && c) && d) ≡ false
      by true c d = refl
      by false c d = refl

  pub no_change : false ≡ list_all (is_change t u) ws → false ≡ is_proper t ws
  no_change h =
      sym (by (is_tree u && is_once ws) (list_all (is_emptied t ws) ws))
      ∙ (ap (λ b. ((is_tree u && is_once ws) && b) && list_all (is_emptied t ws) ws) h ∙ sym whole)
    where
      by : (a d : Bool) → ((a && false) && d) ≡ false
      by true d = refl
      by false d = refl

  -- the last test decides
  pub rest : (b : Bool) → true ≡ is_tree u → true ≡ is_once ws → true ≡ list_all (is_change t u) ws
      → b ≡ list_all (is_emptied t ws) ws → b ≡ is_proper t ws
  rest b tree once changing is =
      is ∙ (ap (λ x. (x && true && true) && list_all (is_emptied t ws) ws) tree
      ∙ (ap (λ x. ((is_tree u && x) && true) && list_all (is_emptied t ws) ws) once
      ∙ (ap (λ x. ((is_tree u && is_once ws) && x) && list_all (is_emptied t ws) ws) changing ∙ sym whole)))
