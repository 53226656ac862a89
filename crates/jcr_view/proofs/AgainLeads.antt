-- Pending changes made again on the tree that they are over come to the same view.
use Rattle.std.proofs.Common.{◌≡◌, ◌⊎◌, ◌∙◌, ◌++◌, inl, inr, Bool, true, false, cond, List, [], ◌∷◌, Option, None, Some, is_some, refl, sym, ap, subst, append-nil}
use Rattle.std.specs.Prelude.{◌&&◌, is_none}
use Rattle.std.specs.declared.cmp.Ordering.TheVariants.{Less}
use Rattle.std.specs.Ordering.{eq_by_cmp, is_eq}
use Rattle.std.specs.List.{All, fold, list_all}
use Rattle.std.specs.Option.{option_map, option_map_or, unwrap_or}
use mathlib.Core.Bool.{false≢true}
use Rattle.basics.proofs.Options.{none_tested, none_unless}
use Rattle.jr_path.specs.Names.{is_under, parent_of, path_cmp}
use Rattle.jr_path.specs.declared.name.Name.{Name}
use Rattle.jr_path.specs.declared.path.Path.{Path}
use Rattle.jr_path.proofs.Maps.{path_exact, path_total}
use Rattle.jr_path.proofs.Parts.{below_is_prefix, parent_of-child}
use Rattle.jr_tree.specs.declared.edit.Write.{Write}
use Rattle.jr_tree.specs.declared.edit.Write.TheVariants.{Here, Gone, Put, Unset}
use Rattle.jr_tree.specs.declared.tree.Node.{Node}
use Rattle.jr_tree.specs.Edits.{IsProper, applied, is_change, item_of}
use Rattle.jr_tree.specs.Trees.{IsTree, Nodes, node_at, undated}
use Rattle.jr_tree.proofs.ChangesLaw.{changes_applied}
use Rattle.jr_tree.proofs.Entries.{first, same_lists, second}
use Rattle.jr_tree.proofs.Pointwise.{same_path}
use Rattle.jr_tree.proofs.Undated.{node_at-undated, undate}
use Rattle.jr_part.specs.Parts.{Knowledge, LacksNothing}
use Rattle.jr_part.proofs.Above.{above as stands_above}
use Rattle.jr_part.proofs.Order.{front}
use Rattle.jr_overlay.specs.declared.overlay.Change.{Change}
use Rattle.jr_overlay.specs.Drafts.{Steps, drafted, with_step}
use Rattle.jr_overlay.specs.Overlays.{Changed, change_at, dated_as, edit_of, view_of, whole_view}
use Rattle.jr_overlay.specs.Views.{KeepTree, step_at}
use Rattle.jr_overlay.proofs.Children.{ends}
use Rattle.jr_overlay.proofs.Commits.{nothing_over}
use Rattle.jr_overlay.proofs.EditsOf.{edit_exact, edit_proper}
use Rattle.jr_overlay.proofs.KeepingSteps.{after_gone, after_step}
use Rattle.jr_overlay.proofs.Views.{node_at-made, node_at-view, sorted-made}
use Rattle.jcr_write.specs.Places.{above, with_property, without_property}
use Rattle.jcr_view.specs.Needs.{needs_to_rebase}
use Rattle.jcr_view.specs.Parts.{IsPartOf}
use Rattle.jcr_view.specs.Rebases.{again, bare, changed_where, rebased, steps_again, tree_again}
use Rattle.jcr_view.proofs.Again.{view_rebased}
use Rattle.jcr_view.proofs.AgainKeeps.{again_keeps, none_under}
use Rattle.jcr_view.proofs.OnePass.{ItemsRise, again_at, again_elsewhere, all_elsewhere, changes_rise, earlier_untouched, more_stand, passes}

-- ---- writes that rise and change a tree into another

module _ (t u : Nodes) (tree : IsTree t) (to : IsTree u) where
  abbrev at : Steps → Path → Option Node
  at steps p = drafted (whole_view t) steps p

  -- the writes that follow make of what is drafted what the other tree has
  abbrev Lead : Steps → List Write → Type 0
  Lead steps ws = (p : Path) → fold (again_at p) (at steps p) ws ≡ node_at u p

  leads_by : (steps new : Steps) (w : Write) (ws : List Write) → ((p : Path) → at new p ≡ again_at p (at steps p) w)
      → Lead steps (w ∷ ws) → Lead new ws
  leads_by steps new w ws step leads p = ap (λ (o : Option Node). fold (again_at p) o ws) (step p) ∙ leads p

  -- ---- a property is written

  at_changed : (steps : Steps) (q : Path) (change : Node → Node) (p : Path)
      → at (changed_where (whole_view t) steps q change) p
      ≡ cond (eq_by_cmp path_cmp p q) (option_map change (at steps p)) (at steps p)
  at_changed steps q change p = by (at steps q) refl (eq_by_cmp path_cmp p q) refl
    where
      by : (o : Option Node) → at steps q ≡ o → (b : Bool) → eq_by_cmp path_cmp p q ≡ b
          → at (option_map_or (λ node. with_step steps q (Some (change node))) o steps) p
          ≡ cond b (option_map change (at steps p)) (at steps p)
      by None is true same =
          let none : at steps p ≡ None = ap (at steps) (same_path p q same) ∙ is in
          none ∙ ap (option_map change) (sym none)
      by None is false other = refl
      by (Some node) is true same =
          after_step t steps q (Some (change node)) p
          ∙ (ap (λ b. cond b (Some (change node)) (at steps p)) same
          ∙ ap (option_map change) (sym (ap (at steps) (same_path p q same) ∙ is)))
      by (Some node) is false other =
          after_step t steps q (Some (change node)) p ∙ ap (λ b. cond b (Some (change node)) (at steps p)) other

  -- ---- a node comes

  module _ (steps : Steps) (q : Path) (ws : List Write) (rise : ItemsRise (Here q ∷ ws))
      (change : is_change t u (Here q) ≡ true) (leads : Lead steps (Here q ∷ ws)) where
    -- the node above is as it will be, and so it stands
    above_stands : is_some (at steps (above q)) ≡ true
    above_stands = by (ends q)
      where
        by : (q ≡ []) ⊎ ((a : Path) × (n : Name) × (q ≡ a ++ n ∷ [])) → is_some (at steps (above q)) ≡ true
        by (inl e) =
            let none : node_at t q ≡ None = none_tested (node_at t q) (first _ _ change) in
            absurd (false≢true (ap is_some (sym none) ∙ (ap (λ (r : Path). is_some (node_at t r)) e ∙ tree.root)))
        by (inr s) =
            let up : above q ≡ s.0 =
            ap (λ (r : Path). unwrap_or (parent_of r) []) s.2 ∙ ap (λ (o : Option Path). unwrap_or o []) (parent_of-child s.0 s.1) in
            let less : path_cmp s.0 q ≡ Less =
            ap (path_cmp s.0) s.2
            ∙ (ap (λ (r : Path). path_cmp r (s.0 ++ s.1 ∷ [])) (sym (append-nil s.0)) ∙ front s.0 [] (s.1 ∷ [])) in
            let there : is_some (node_at u s.0) ≡ true =
            stands_above u to s.0 (s.1 ∷ []) (ap (λ (r : Path). is_some (node_at u r)) (sym s.2) ∙ second _ _ change) in
            let now : at steps s.0 ≡ node_at u s.0 =
            sym (ap (λ (o : Option Node). fold (again_at s.0) o ws) (again_elsewhere s.0 (at steps s.0) (Here q) (ap is_eq less))
            ∙ all_elsewhere s.0 (at steps s.0) ws (earlier_untouched s.0 (item_of (Here q)) less ws (first _ _ rise)))
            ∙ leads s.0 in
            ap (λ (r : Path). is_some (at steps r)) up ∙ (ap is_some now ∙ there)

    at_come : (p : Path) → at (again (whole_view t) steps (Here q)) p ≡ again_at p (at steps p) (Here q)
    at_come p =
        ap (λ b. at (cond (b && is_none (at steps q)) (with_step steps q (Some bare)) steps) p) above_stands
        ∙ by (at steps q) refl (eq_by_cmp path_cmp p q) refl
      where
        by : (o : Option Node) → at steps q ≡ o → (b : Bool) → eq_by_cmp path_cmp p q ≡ b
            → at (cond (is_none o) (with_step steps q (Some bare)) steps) p
            ≡ cond b (Some (unwrap_or (at steps p) bare)) (at steps p)
        by None is true same =
            after_step t steps q (Some bare) p
            ∙ (ap (λ b. cond b (Some bare) (at steps p)) same
            ∙ ap (λ (o : Option Node). Some (unwrap_or o bare)) (sym (ap (at steps) (same_path p q same) ∙ is)))
        by None is false other =
            after_step t steps q (Some bare) p ∙ ap (λ b. cond b (Some bare) (at steps p)) other
        by (Some x) is true same =
            let there : at steps p ≡ Some x = ap (at steps) (same_path p q same) ∙ is in
            there ∙ ap (λ (o : Option Node). Some (unwrap_or o bare)) (sym there)
        by (Some x) is false other = refl

  -- ---- a node goes

  module _ (steps : Steps) (q : Path) (ws : List Write) (change : is_change t u (Gone q) ≡ true)
      (leads : Lead steps (Gone q ∷ ws)) where
    gone : node_at u q ≡ None
    gone = none_tested (node_at u q) (second _ _ change)

    not_there : (p : Path) → is_under p q ≡ true → is_some (node_at u p) ≡ true → ⊥
    not_there p under there = none_under u to q p gone under there

    as_before : (p : Path) → eq_by_cmp path_cmp p q ≡ false → fold (again_at p) (at steps p) ws ≡ node_at u p
    as_before p other =
        ap (λ (o : Option Node). fold (again_at p) o ws) (sym (again_elsewhere p (at steps p) (Gone q) other)) ∙ leads p

    out_apart : (p : Path) → is_under p q ≡ false → (b : Bool) → eq_by_cmp path_cmp p q ≡ b → b ≡ false
    out_apart p out false h = refl
    out_apart p out true h =
        sym ((below_is_prefix q q).1 ([], sym (append-nil q)))
        ∙ (ap (λ (r : Path). is_under r q) (sym (same_path p q h)) ∙ out)

    lacking_apart : (p : Path) → node_at t p ≡ None → (b : Bool) → eq_by_cmp path_cmp p q ≡ b → b ≡ false
    lacking_apart p none false h = refl
    lacking_apart p none true h =
        sym (first _ _ change) ∙ (ap (λ (r : Path). is_some (node_at t r)) (sym (same_path p q h)) ∙ ap is_some none)

    go_leads : Lead (again (whole_view t) steps (Gone q)) ws
    go_leads p =
        ap (λ (o : Option Node). fold (again_at p) o ws) (after_gone t steps q p) ∙ by (is_under p q) refl (node_at t p) refl
      where
        by : (b : Bool) → is_under p q ≡ b → (o : Option Node) → node_at t p ≡ o
            → fold (again_at p) (cond (is_some (cond b o None)) None (at steps p)) ws ≡ node_at u p
        by false out o is = as_before p (out_apart p out (eq_by_cmp path_cmp p q) refl)
        by true under None is = as_before p (lacking_apart p is (eq_by_cmp path_cmp p q) refl)
        by true under (Some x) is =
            none_unless (fold (again_at p) None ws)
            (λ there. not_there p under (sym (ap is_some (leads p))
            ∙ more_stand p ws None (again_at p (at steps p) (Gone q)) (λ none. absurd (false≢true none)) there))
            ∙ sym (none_unless (node_at u p) (not_there p under))

  -- ---- all writes

  lead_on : (steps : Steps) (w : Write) (ws : List Write) → ItemsRise (w ∷ ws) → is_change t u w ≡ true → Lead steps (w ∷ ws)
      → Lead (again (whole_view t) steps w) ws
  lead_on steps (Here q) ws rise change leads =
      leads_by steps (again (whole_view t) steps (Here q)) (Here q) ws (at_come steps q ws rise change leads) leads
  lead_on steps (Gone q) ws rise change leads = go_leads steps q ws change leads
  lead_on steps (Put q n x) ws rise change leads =
      leads_by steps (again (whole_view t) steps (Put q n x)) (Put q n x) ws
      (at_changed steps q (λ node. with_property node n x)) leads
  lead_on steps (Unset q n) ws rise change leads =
      leads_by steps (again (whole_view t) steps (Unset q n)) (Unset q n) ws
      (at_changed steps q (λ node. without_property node n)) leads

  all_lead : (ws : List Write) → ItemsRise ws → list_all (is_change t u) ws ≡ true → (steps : Steps) → Lead steps ws
      → (p : Path) → at (fold (again (whole_view t)) steps ws) p ≡ node_at u p
  all_lead [] rise changes steps leads p = leads p
  all_lead (w ∷ ws) rise changes steps leads p =
      all_lead ws (second _ _ rise) (second _ _ changes) (again (whole_view t) steps w)
      (lead_on steps w ws rise (first _ _ changes) leads) p

-- a proper edit that rises, made again on its own tree, comes to the edit applied
pub again_applied : (t : Nodes) (ws : List Write) → IsTree t → IsProper t ws → ItemsRise ws → (p : Path)
    → drafted (whole_view t) (steps_again (whole_view t) ws) p ≡ node_at (applied None t ws) p
again_applied t ws tree proper rise p =
    all_lead t (applied None t ws) tree proper.tree ws rise proper.changing [] (passes t tree.paths ws proper rise) p

-- ---- dates

own_date : (o : Option Node) → option_map (dated_as o) o ≡ o
own_date None = refl
own_date (Some node) = refl

redated : (old o : Option Node) → option_map (dated_as old) (option_map undate o) ≡ option_map (dated_as old) o
redated old None = refl
redated old (Some node) = refl

-- ---- the law

module _ (t : Nodes) (k : Knowledge) (c : Changed) (part : IsPartOf t k c) (view : IsTree (view_of t c)) where
  proper : IsProper t (edit_of c)
  proper = edit_proper t c part.tree part.over view

  rises : ItemsRise (edit_of c)
  rises = subst ItemsRise (sym (edit_exact t c part.tree part.over)) (changes_rise t (view_of t c))

  abbrev steps : Steps
  steps = steps_again (whole_view t) (edit_of c)

  keep : KeepTree (whole_view t) steps
  keep = again_keeps t t (edit_of c) proper part.tree

  -- the edit applied is the view, but for dates
  alike : (p : Path) → option_map undate (node_at (applied None t (edit_of c)) p) ≡ option_map undate (node_at (view_of t c) p)
  alike p =
      sym (node_at-undated (applied None t (edit_of c)) p)
      ∙ (ap (λ (v : Nodes). node_at v p)
      (ap (λ (ws : List Write). undated (applied None t ws)) (edit_exact t c part.tree part.over)
      ∙ changes_applied None t (view_of t c) part.tree view)
      ∙ node_at-undated (view_of t c) p)

  -- the nodes of the view are dated as at the base
  dated : (p : Path) → option_map (dated_as (node_at t p)) (node_at (view_of t c) p) ≡ node_at (view_of t c) p
  dated p =
      let seen = node_at-view t c part.tree.paths part.over.paths p in
      ap (option_map (dated_as (node_at t p))) seen ∙ (by (change_at c p) refl ∙ sym seen)
    where
      by : (o : Option Change) → change_at c p ≡ o
          → option_map (dated_as (node_at t p)) (option_map_or (λ x. x.new) o (node_at t p))
          ≡ option_map_or (λ x. x.new) o (node_at t p)
      by None is = own_date (node_at t p)
      by (Some x) is =
          let of = part.over.kept p x is in
          ap (λ (o : Option Node). option_map (dated_as o) x.new) (sym of.old) ∙ of.new

  at_stepped : (p : Path) → node_at (tree_again t (edit_of c)) p
      ≡ option_map (dated_as (node_at t p)) (drafted (whole_view t) steps p)
  at_stepped p =
      node_at-made (λ e. option_map (dated_as (node_at t e.0)) e.1) t part.tree.paths steps keep.paths p
      ∙ by (step_at steps p)
    where
      by : (o : Option (Option Node)) → option_map_or (option_map (dated_as (node_at t p))) o (node_at t p)
          ≡ option_map (dated_as (node_at t p)) (unwrap_or o (node_at t p))
      by None = sym (own_date (node_at t p))
      by (Some o) = refl

  same_view : tree_again t (edit_of c) ≡ view_of t c
  same_view =
      same_lists path_cmp path_total path_exact (tree_again t (edit_of c)) (view_of t c)
      (sorted-made (λ e. option_map (dated_as (node_at t e.0)) e.1) t part.tree.paths steps) view.paths
      (λ p. at_stepped p
      ∙ (ap (option_map (dated_as (node_at t p))) (again_applied t (edit_of c) part.tree proper rises p)
      ∙ (sym (redated (node_at t p) (node_at (applied None t (edit_of c)) p))
      ∙ (ap (option_map (dated_as (node_at t p))) (alike p)
      ∙ (redated (node_at t p) (node_at (view_of t c) p) ∙ dated p)))))

  pub same_rebased : All (LacksNothing k) (needs_to_rebase (edit_of c))
      → view_of t (rebased k (edit_of c)) ≡ view_of t c
  same_rebased all =
      view_rebased t k (record { tree = part.tree; order = part.order; agrees = part.agrees; over = nothing_over t })
      (edit_of c) all
      ∙ same_view
