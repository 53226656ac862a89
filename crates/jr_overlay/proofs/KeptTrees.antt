-- Steps that keep a tree a tree.
use Rattle.std.proofs.Common.{◌≡◌, Bool, true, false, List, [], ◌∷◌, Option, None, Some, is_some, refl, sym, ap, ◌∙◌}
use Rattle.std.specs.Option.{option_map, option_map_or, unwrap_or}
use Rattle.std.specs.Ordering.{eq_by_cmp}
use Rattle.std.specs.List.{list_all}
use Rattle.std.specs.FinMap.{is_sorted}
use mathlib.Core.Bool.{false≢true}
use Rattle.std.proofs.Common.{cond}
use Rattle.jr_path.specs.Names.{name_cmp, parent_of, path_cmp}
use Rattle.jr_path.specs.declared.path.Path.{Path}
use Rattle.jr_path.proofs.Maps.{path_total}
use Rattle.jr_tree.specs.declared.tree.Node.{Node}
use Rattle.jr_tree.specs.Trees.{IsTree, Nodes, has_parent, node_at}
use Rattle.jr_tree.proofs.EditLaw.{Orderly-all}
use Rattle.jr_tree.proofs.Entries.{both, first, second}
use Rattle.jr_tree.proofs.Pointwise.{same_path}
use Rattle.jr_overlay.specs.Overlays.{dated_as, whole_view}
use Rattle.jr_overlay.specs.Drafts.{Steps, drafted, stepped}
use Rattle.jr_overlay.specs.Views.{KeepTree, step_at}
use Rattle.jr_overlay.proofs.EditsOf.{EachOf, each_found, each_more}
use Rattle.jr_overlay.proofs.Views.{node_at-made, sorted-made}

all_each : {X : Type 0} (f : X → Bool) (xs : List X) → EachOf (λ x. f x ≡ true) xs → list_all f xs ≡ true
all_each f [] h = refl
all_each f (x ∷ xs) h = both _ _ h.0 (all_each f xs h.1)

-- what holds of each path of a tree holds of the path of a node that is there
at_path : (g : Path → Bool) (t : Nodes) → list_all (λ e. g e.0) t ≡ true → (q : Path) → is_some (node_at t q) ≡ true → g q ≡ true
at_path g [] h q is = absurd (false≢true is)
at_path g (e ∷ t) h q is =
    elim (eq_by_cmp path_cmp q e.0) as (λ b. eq_by_cmp path_cmp q e.0 ≡ b → is_some (cond b (Some e.1) (node_at t q)) ≡ true → g q ≡ true) [
      | true ↦ λ same k. ap g (same_path q e.0 same) ∙ first _ _ h
      | false ↦ λ same k. at_path g t (second _ _ h) q k
    ] refl is

-- ---- a view that steps keep a tree

module _ (v : Nodes) (steps : Steps) (tree : IsTree v) (keep : KeepTree (whole_view v) steps) where
  abbrev pub after : Path → Option Node
  after p = drafted (whole_view v) steps p

  -- the names of a node that is there are in order
  pub names_after : (p : Path) (node : Node) → after p ≡ Some node → is_sorted name_cmp node.props ≡ true
  names_after p node is = by (step_at steps p) refl is
    where
      by : (o : Option (Option Node)) → step_at steps p ≡ o → unwrap_or o (node_at v p) ≡ Some node → is_sorted name_cmp node.props ≡ true
      by None step here = Orderly-all v tree.names p node here
      by (Some new) step here = keep.names p node (step ∙ ap (λ (o : Option Node). Some o) here)

  -- the node above one that is there is there
  pub parent_after : (p q : Path) → is_some (after p) ≡ true → parent_of p ≡ Some q → is_some (after q) ≡ true
  parent_after p q there above = by (step_at steps p) refl there
    where
      stays : is_some (node_at v q) ≡ true → step_at steps p ≡ None → is_some (node_at v p) ≡ true → (o : Option (Option Node)) → step_at steps q ≡ o → is_some (unwrap_or o (node_at v q)) ≡ true
      stays before step some None is = before
      stays before step some (Some (Some node)) is = refl
      stays before step some (Some None) is =
          absurd (false≢true (ap is_some (sym (keep.below q p is above)) ∙ (ap (λ o. is_some (unwrap_or o (node_at v p))) step ∙ some)))

      by : (o : Option (Option Node)) → step_at steps p ≡ o → is_some (unwrap_or o (node_at v p)) ≡ true → is_some (after q) ≡ true
      by (Some None) step some = absurd (false≢true some)
      by (Some (Some node)) step some = keep.above p q node step above
      by None step some =
          stays (ap (λ o. option_map_or (λ x. is_some (node_at v x)) o true) (sym above) ∙ at_path (has_parent v) v tree.parents p some) step some (step_at steps q) refl

-- ---- the tree with the steps made

dated_some : (old node : Option Node) → is_some (option_map (dated_as old) node) ≡ is_some node
dated_some old None = refl
dated_some old (Some node) = refl

-- a node that was dated had its names
dated_from : (old node : Option Node) (new : Node) → option_map (dated_as old) node ≡ Some new → ((n : Node) → node ≡ Some n → is_sorted name_cmp n.props ≡ true) → is_sorted name_cmp new.props ≡ true
dated_from old None new is names = absurd (false≢true (ap is_some is))
dated_from old (Some node) new is names = ap (λ (o : Option Node). is_sorted name_cmp (unwrap_or o node).props) (sym is) ∙ names node refl

module _ (t v : Nodes) (steps : Steps) (tree : IsTree v) (keep : KeepTree (whole_view v) steps) where
  abbrev u : Nodes
  u = stepped t v steps

  at_u : (p : Path) → node_at u p ≡ option_map_or (option_map (dated_as (node_at t p))) (step_at steps p) (node_at v p)
  at_u p = node_at-made (λ e. option_map (dated_as (node_at t e.0)) e.1) v tree.paths steps keep.paths p

  -- what is there afterwards is what the steps show
  pub there_after : (p : Path) → is_some (node_at u p) ≡ is_some (after v steps tree keep p)
  there_after p = ap is_some (at_u p) ∙ by (step_at steps p)
    where
      by : (o : Option (Option Node)) → is_some (option_map_or (option_map (dated_as (node_at t p))) o (node_at v p)) ≡ is_some (unwrap_or o (node_at v p))
      by None = refl
      by (Some node) = dated_some (node_at t p) node

  names : (p : Path) (node : Node) → node_at u p ≡ Some node → is_sorted name_cmp node.props ≡ true
  names p node is = by (step_at steps p) refl (sym (at_u p) ∙ is)
    where
      by : (o : Option (Option Node)) → step_at steps p ≡ o → option_map_or (option_map (dated_as (node_at t p))) o (node_at v p) ≡ Some node → is_sorted name_cmp node.props ≡ true
      by None step here = Orderly-all v tree.names p node here
      by (Some new) step here = dated_from (node_at t p) new node here (λ n e. keep.names p n (step ∙ ap (λ (o : Option Node). Some o) e))

  parents : (p : Path) → is_some (node_at u p) ≡ true → has_parent u p ≡ true
  parents p there = by (parent_of p) refl
    where
      by : (o : Option Path) → parent_of p ≡ o → option_map_or (λ q. is_some (node_at u q)) o true ≡ true
      by None above = refl
      by (Some q) above = there_after q ∙ parent_after v steps tree keep p q (sym (there_after p) ∙ there) above

  pub kept_tree : IsTree u
  kept_tree = record {
    paths = order;
    names = all_each (λ e. is_sorted name_cmp e.1.props) u (each_more _ _ (λ e h. names e.0 e.1 h) u found);
    root = there_after [] ∙ keep.root;
    parents = all_each (λ e. has_parent u e.0) u (each_more _ _ (λ e h. parents e.0 (ap is_some h)) u found);
  }
    where
      order : is_sorted path_cmp u ≡ true
      order = sorted-made (λ e. option_map (dated_as (node_at t e.0)) e.1) v tree.paths steps

      found : EachOf (λ e. node_at u e.0 ≡ Some e.1) u
      found = each_found path_cmp path_total u order
