-- Writes made again come to the same on what is known as on the whole, and touch only what is known.
use Rattle.std.proofs.Common.{◌≡◌, ◌∙◌, Bool, true, false, cond, List, [], ◌∷◌, Option, None, Some, is_some, refl, ap}
use Rattle.std.specs.Prelude.{◌&&◌, is_none}
use Rattle.std.specs.List.{All, fold}
use Rattle.std.specs.Option.{option_map_or, unwrap_or}
use Rattle.std.proofs.lemmas.List.Elements.{All-head, All-tail}
use Rattle.jr_path.specs.declared.path.Path.{Path}
use Rattle.jr_tree.specs.declared.edit.Write.{Write}
use Rattle.jr_tree.specs.declared.edit.Write.TheVariants.{Here, Gone, Put, Unset}
use Rattle.jr_tree.specs.declared.tree.Node.{Node}
use Rattle.jr_tree.specs.Trees.{Nodes, subtree_of}
use Rattle.jr_part.specs.Parts.{Knowledge, LacksNothing}
use Rattle.jr_part.specs.declared.need.Need.TheVariants as need
use Rattle.jr_overlay.specs.Drafts.{Steps, drafted, stepped, with_step}
use Rattle.jr_overlay.specs.Overlays.{AreOver, known_view, view_of, whole_view}
use Rattle.jr_overlay.specs.Views.{all_gone, step_at}
use Rattle.jr_overlay.proofs.Commits.{over_steps, view_steps}
use Rattle.jcr_write.specs.Places.{above, with_property, without_property}
use Rattle.jcr_view.specs.Needs.{needs_to_rebase}
use Rattle.jcr_view.specs.Parts.{IsPartOf}
use Rattle.jcr_view.specs.Rebases.{again, bare, changed_where, rebased, steps_again, tree_again}
use Rattle.jr_overlay.specs.Views.{AreAt}
use Rattle.jr_overlay.proofs.Touched.{touch_more, touch_none}
use Rattle.jcr_view.proofs.Based.{IsBased, all_under, at_node, below_node, touch_gone}
use Rattle.jcr_view.proofs.Enough.{below_known, node_same}
use Rattle.jcr_view.proofs.Needed.{IsMet, all_met}

module _ (t : Nodes) (k : Knowledge) (part : IsPartOf t k []) where
  -- ---- on what is known as on the whole

  node_known : (p : Path) → LacksNothing k (need.Node p) → (known_view k []).node p ≡ (whole_view t).node p
  node_known p nothing = node_same t k [] p part nothing

  changed_same : (steps : Steps) (p : Path) (change : Node → Node) → LacksNothing k (need.Node p)
      → changed_where (known_view k []) steps p change ≡ changed_where (whole_view t) steps p change
  changed_same steps p change nothing =
      ap (λ (o : Option Node). option_map_or (λ node. with_step steps p (Some (change node))) (unwrap_or (step_at steps p) o) steps)
      (node_known p nothing)

  again_same : (steps : Steps) (w : Write) → IsMet k w
      → again (known_view k []) steps w ≡ again (whole_view t) steps w
  again_same steps (Here p) met =
      ap (λ (o : Option Node). cond (is_some (unwrap_or (step_at steps (above p)) o)
      && is_none (drafted (known_view k []) steps p)) (with_step steps p (Some bare)) steps) (node_known (above p) met.0)
      ∙ ap (λ (o : Option Node). cond (is_some (drafted (whole_view t) steps (above p))
      && is_none (unwrap_or (step_at steps p) o)) (with_step steps p (Some bare)) steps) (node_known p met.1)
  again_same steps (Gone p) met = ap (all_gone steps) (below_known t k [] p part met)
  again_same steps (Put p n x) met = changed_same steps p (λ node. with_property node n x) met
  again_same steps (Unset p n) met = changed_same steps p (λ node. without_property node n) met

  all_again_same : (ws : List Write) (steps : Steps) → All (IsMet k) ws
      → fold (again (known_view k [])) steps ws ≡ fold (again (whole_view t)) steps ws
  all_again_same [] steps met = refl
  all_again_same (w ∷ ws) steps met =
      ap (λ (s : Steps). fold (again (known_view k [])) s ws) (again_same steps w (All-head (IsMet k) w ws met))
      ∙ all_again_same ws (again (whole_view t) steps w) (All-tail (IsMet k) w ws met)

  -- ---- only what is known is touched

  abbrev At : Steps → Type 0
  At steps = AreAt (IsBased t k [] part) steps

  touch_changed : (steps : Steps) (p : Path) (change : Node → Node) → LacksNothing k (need.Node p) → At steps
      → At (changed_where (known_view k []) steps p change)
  touch_changed steps p change nothing touch = by (drafted (known_view k []) steps p)
    where
      by : (o : Option Node) → At (option_map_or (λ node. with_step steps p (Some (change node))) o steps)
      by None = touch
      by (Some node) = touch_more (IsBased t k [] part) steps p (Some (change node)) touch (at_node t k [] part p nothing)

  touch_again : (steps : Steps) (w : Write) → IsMet k w → At steps
      → At (again (known_view k []) steps w)
  touch_again steps (Here p) met touch =
      by (is_some (drafted (known_view k []) steps (above p)) && is_none (drafted (known_view k []) steps p))
    where
      by : (b : Bool) → At (cond b (with_step steps p (Some bare)) steps)
      by true = touch_more (IsBased t k [] part) steps p (Some bare) touch (at_node t k [] part p met.1)
      by false = touch
  touch_again steps (Gone p) met touch =
      touch_gone (IsBased t k [] part) p (below_node t k [] part p met)
      (subtree_of (view_of k.nodes []) p) (all_under t k [] part p) steps touch
  touch_again steps (Put p n x) met touch =
      touch_changed steps p (λ node. with_property node n x) met touch
  touch_again steps (Unset p n) met touch =
      touch_changed steps p (λ node. without_property node n) met touch

  touch_all_again : (ws : List Write) (steps : Steps) → All (IsMet k) ws → At steps
      → At (fold (again (known_view k [])) steps ws)
  touch_all_again [] steps met touch = touch
  touch_all_again (w ∷ ws) steps met touch =
      touch_all_again ws (again (known_view k []) steps w) (All-tail (IsMet k) w ws met)
      (touch_again steps w (All-head (IsMet k) w ws met) touch)

  -- ---- the law

  pub over_rebased : (ws : List Write) → All (LacksNothing k) (needs_to_rebase ws) → AreOver t (rebased k ws)
  over_rebased ws all =
      over_steps t k.nodes [] (steps_again (known_view k []) ws) part.over
      (touch_all_again ws [] (all_met k ws all) (touch_none (IsBased t k [] part)))

  pub view_rebased : (ws : List Write) → All (LacksNothing k) (needs_to_rebase ws)
      → view_of t (rebased k ws) ≡ tree_again t ws
  view_rebased ws all =
      view_steps t k.nodes [] (steps_again (known_view k []) ws) part.tree.paths part.over
      (touch_all_again ws [] (all_met k ws all) (touch_none (IsBased t k [] part)))
      ∙ ap (stepped t t) (all_again_same ws [] (all_met k ws all))
