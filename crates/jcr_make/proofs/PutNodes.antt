-- Nodes that are put, all below nodes that are there, keep a tree a tree.
use Rattle.std.proofs.Common.{◌≡◌, Bool, true, false, cond, [], ◌∷◌, Option, None, Some, is_some, refl, sym, ap, ◌∙◌}
use Rattle.std.specs.Option.{option_map_or, unwrap_or}
use Rattle.std.specs.Ordering.{eq_by_cmp}
use Rattle.std.specs.FinMap.{is_sorted}
use Rattle.std.proofs.lemmas.Bool.{false≢true}
use Rattle.jr_path.specs.Names.{name_cmp, parent_of, path_cmp}
use Rattle.jr_path.specs.declared.path.Path.{Path}
use Rattle.jr_path.proofs.Maps.{path_total}
use Rattle.jr_tree.specs.declared.tree.Node.{Node}
use Rattle.jr_tree.specs.Trees.{Nodes, node_at}
use Rattle.jr_tree.proofs.EditLaw.{IsOrderly}
use Rattle.jr_tree.proofs.Entries.{exactly, first, none_below, second, sorted_insert}
use Rattle.jr_overlay.specs.Drafts.{Steps, drafted, with_step}
use Rattle.jr_overlay.specs.Overlays.{View, whole_view}
use Rattle.jr_overlay.specs.Views.{KeepTree, step_at}
use Rattle.jr_overlay.proofs.KeepingSteps.{at_step}
use Rattle.jcr_mixin.specs.Histories.{all_put}

-- where a node is put
abbrev put_over : Option Node → Option (Option Node) → Option (Option Node)
put_over o step = option_map_or (λ n. Some (Some n)) o step

sorted-put : (steps : Steps) (nodes : Nodes) → is_sorted path_cmp steps ≡ true → is_sorted path_cmp (all_put steps nodes) ≡ true
sorted-put steps [] s = s
sorted-put steps (e ∷ nodes) s = sorted-put (with_step steps e.0 (Some e.1)) nodes (sorted_insert path_cmp path_total e.0 (Some e.1) steps s)

step_at-put : (steps : Steps) (nodes : Nodes) → is_sorted path_cmp nodes ≡ true → (q : Path)
    → step_at (all_put steps nodes) q ≡ put_over (node_at nodes q) (step_at steps q)
step_at-put steps [] s q = refl
step_at-put steps (e ∷ nodes) s q =
    step_at-put (with_step steps e.0 (Some e.1)) nodes (second _ _ s) q
    ∙ (ap (put_over (node_at nodes q)) (at_step steps e.0 (Some e.1) q)
    ∙ by (eq_by_cmp path_cmp q e.0) refl)
  where
    by : (b : Bool) → eq_by_cmp path_cmp q e.0 ≡ b
        → put_over (node_at nodes q) (cond b (Some (Some e.1)) (step_at steps q))
        ≡ put_over (cond b (Some e.1) (node_at nodes q)) (step_at steps q)
    by true h = ap (λ (o : Option Node). put_over o (Some (Some e.1))) (none_below path_cmp path_total q e.0 (exactly _ h) nodes (first _ _ s))
    by false h = refl

module _ (view : View) (steps : Steps) (nodes : Nodes) (order : is_sorted path_cmp nodes ≡ true) where
  after_put : (q : Path) → drafted view (all_put steps nodes) q ≡ option_map_or (λ n. Some n) (node_at nodes q) (drafted view steps q)
  after_put q = ap (λ (o : Option (Option Node)). unwrap_or o (view.node q)) (step_at-put steps nodes order q) ∙ by (node_at nodes q)
    where
      by : (o : Option Node) → unwrap_or (put_over o (step_at steps q)) (view.node q) ≡ option_map_or (λ n. Some n) o (drafted view steps q)
      by None = refl
      by (Some n) = refl

  -- what was there is there, and so is each node that is put
  pub stays_by_put : (q : Path) → is_some (drafted view steps q) ≡ true → is_some (drafted view (all_put steps nodes) q) ≡ true
  stays_by_put q there = ap is_some (after_put q) ∙ by (node_at nodes q)
    where
      by : (o : Option Node) → is_some (option_map_or (λ n. Some n) o (drafted view steps q)) ≡ true
      by None = there
      by (Some n) = refl

  pub there_by_put : (q : Path) → is_some (node_at nodes q) ≡ true → is_some (drafted view (all_put steps nodes) q) ≡ true
  there_by_put q put = ap is_some (after_put q) ∙ by (node_at nodes q) put
    where
      by : (o : Option Node) → is_some o ≡ true → is_some (option_map_or (λ n. Some n) o (drafted view steps q)) ≡ true
      by None h = absurd (false≢true h)
      by (Some n) h = refl

module _ (v : Nodes) (steps : Steps) (nodes : Nodes) (keep : KeepTree (whole_view v) steps) (order : is_sorted path_cmp nodes ≡ true) (names : (p : Path) → IsOrderly (node_at nodes p))
    (parents : (p q : Path) → is_some (node_at nodes p) ≡ true → parent_of p ≡ Some q → is_some (drafted (whole_view v) (all_put steps nodes) q) ≡ true) where
  abbrev more : Steps
  more = all_put steps nodes

  names_put : (p : Path) (node : Node) → step_at more p ≡ Some (Some node) → is_sorted name_cmp node.props ≡ true
  names_put p node is = by (node_at nodes p) (names p) (sym (step_at-put steps nodes order p) ∙ is)
    where
      by : (o : Option Node) → IsOrderly o → put_over o (step_at steps p) ≡ Some (Some node) → is_sorted name_cmp node.props ≡ true
      by None orderly h = keep.names p node h
      by (Some n) orderly h = orderly node (ap (λ (s : Option (Option Node)). unwrap_or s None) h)

  above_put : (p q : Path) (node : Node) → step_at more p ≡ Some (Some node) → parent_of p ≡ Some q → is_some (drafted (whole_view v) more q) ≡ true
  above_put p q node is up = by (node_at nodes p) refl (sym (step_at-put steps nodes order p) ∙ is)
    where
      by : (o : Option Node) → node_at nodes p ≡ o → put_over o (step_at steps p) ≡ Some (Some node) → is_some (drafted (whole_view v) more q) ≡ true
      by None e h = stays_by_put (whole_view v) steps nodes order q (keep.above p q node h up)
      by (Some n) e h = parents p q (ap is_some e) up

  below_put : (p q : Path) → step_at more p ≡ Some None → parent_of q ≡ Some p → drafted (whole_view v) more q ≡ None
  below_put p q is up = by (node_at nodes p) (sym (step_at-put steps nodes order p) ∙ is)
    where
      none : drafted (whole_view v) more p ≡ None
      none = ap (λ (o : Option (Option Node)). unwrap_or o (node_at v p)) is

      rest : (o : Option Node) → node_at nodes q ≡ o → step_at steps p ≡ Some None → drafted (whole_view v) more q ≡ None
      rest None e h = after_put (whole_view v) steps nodes order q
          ∙ (ap (λ (o : Option Node). option_map_or (λ n. Some n) o (drafted (whole_view v) steps q)) e ∙ keep.below p q h up)
      rest (Some n) e h = absurd (false≢true (ap is_some (sym none) ∙ parents q p (ap is_some e) up))

      by : (o : Option Node) → put_over o (step_at steps p) ≡ Some None → drafted (whole_view v) more q ≡ None
      by None h = rest (node_at nodes q) refl h
      by (Some n) h = absurd (false≢true (sym (ap (λ (s : Option (Option Node)). is_some (unwrap_or s None)) h)))

  pub all_put_keeps : KeepTree (whole_view v) more
  all_put_keeps = record {
    paths = sorted-put steps nodes keep.paths;
    names = names_put;
    root = stays_by_put (whole_view v) steps nodes order [] keep.root;
    above = above_put;
    below = below_put;
  }
