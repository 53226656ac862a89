-- A command keeps a tree a tree, and the version storage in it.
use Rattle.std.proofs.Common.{◌≡◌, ◌≢◌, ℕ, ◌++◌, Bool, true, false, cond, List, [], ◌∷◌, Option, None, Some, is_some, refl, sym, ap, ◌∙◌, subst}
use Rattle.std.specs.Prelude.{Result, Ok, Err}
use Rattle.std.specs.List.{All, list_all}
use Rattle.std.specs.Option.{unwrap_or}
use Rattle.std.specs.Ordering.{eq_by_cmp}
use Rattle.std.proofs.lemmas.Bool.{false≢true}
use Rattle.std.proofs.lemmas.Option.{none-some}
use Rattle.jr_path.specs.Names.{is_under, path_cmp}
use Rattle.jr_path.specs.declared.name.Name.{Name}
use Rattle.jr_path.specs.declared.path.Path.{Path}
use Rattle.jr_path.proofs.Parts.{below_is_prefix}
use Rattle.jr_tree.specs.declared.shared.Refusal.{Refusal}
use Rattle.jr_tree.specs.declared.shared.Who.{Who}
use Rattle.jr_tree.specs.declared.tree.Node.{Node}
use Rattle.jr_tree.specs.Edits.{IsProper}
use Rattle.jr_tree.specs.Trees.{IsTree, Nodes, node_at, subtree_of}
use Rattle.jr_tree.proofs.Entries.{first as now, second as later}
use Rattle.jr_tree.proofs.Pointwise.{same_path}
use Rattle.jr_items.specs.Names.{system, version_storage}
use Rattle.jr_items.specs.Refusals.{in_system, limit_refusal, own_rule, taken, when}
use Rattle.jr_types.specs.declared.TypeDef.{TypeDef}
use Rattle.jr_part.specs.Parts.{Knowledge, LacksNothing}
use Rattle.jr_overlay.specs.Drafts.{Steps, drafted, with_step, with_steps}
use Rattle.jr_overlay.specs.Overlays.{Changed, View, edit_of, known_view, view_of, whole_view}
use Rattle.jr_overlay.specs.Views.{KeepTree, all_gone, all_moved, moved_path, step_at}
use Rattle.jr_overlay.proofs.EditsOf.{edit_proper}
use Rattle.jr_overlay.proofs.KeepingSteps.{at_step, nothing_keeps}
use Rattle.jr_overlay.proofs.KeptTrees.{kept_tree, there_after}
use Rattle.jcr_trans.specs.declared.command.Command.{Command}
use Rattle.jcr_trans.specs.declared.command.Command.TheVariants as command
use Rattle.jcr_write.specs.Places.{above, path_refusal}
use Rattle.jcr_write.specs.Writes.{absent, ends_refusal, is_root, kept_refusal, move_made, move_refusal, moved_limit, node_set, node_unset, order_made, order_node, remove_made, remove_refusal, set_made, stand_refusal, unset_made}
use Rattle.jcr_write.proofs.Keeping.{fails, move_keeps, none_here, none_later, order_keeps, passed, remove_keeps, set_keeps, unset_keeps}
use Rattle.jcr_fill.specs.Makings.{Making, making}
use Rattle.jcr_fill.proofs.Children.{kept_by_put}
use Rattle.jcr_fill.proofs.Fills.{ok_same}
use Rattle.jcr_make.specs.Commands.{add_made}
use Rattle.jcr_mixin.specs.Commands.{type_made, unmixin_made}
use Rattle.jcr_mixin.specs.Histories.{mixin_made}
use Rattle.jcr_make.specs.Subtrees.{tree_made}
use Rattle.jcr_make.proofs.KeepingTrees.{add_keeps, add_stays, mixin_keeps, mixin_stays, put_stays, tree_keeps, tree_stays, type_keeps, type_stays, unmixin_keeps, unmixin_stays}
use Rattle.jcr_view.specs.Outcomes.{drawing_none, eval, made_outcome, outcome}
use Rattle.jcr_view.specs.Needs.{needs_of}
use Rattle.jcr_view.specs.Parts.{IsPartOf}
use Rattle.jcr_view.proofs.Based.{filtered, over_after, view_after}

-- ---- nodes that stay where others go

module _ (view : View) (p r : Path) (apart : is_under r p ≡ false) where
  abbrev there : Steps → Type 0
  there steps = is_some (drafted view steps r) ≡ true

  one_gone : (steps : Steps) (q : Path) → is_under q p ≡ true → there steps → there (with_step steps q None)
  one_gone steps q under is = ap (λ (o : Option (Option Node)). is_some (unwrap_or o (view.node r))) (at_step steps q None r) ∙ by (eq_by_cmp path_cmp r q) refl
    where
      by : (b : Bool) → eq_by_cmp path_cmp r q ≡ b → is_some (unwrap_or (cond b (Some None) (step_at steps r)) (view.node r)) ≡ true
      by true e = absurd (false≢true (sym apart ∙ (ap (λ (x : Path). is_under x p) (same_path r q e) ∙ under)))
      by false e = is

  -- nodes at and below p go
  gone_stays : (nodes : Nodes) → list_all (λ e. is_under e.0 p) nodes ≡ true → (steps : Steps) → there steps → there (all_gone steps nodes)
  gone_stays [] all steps is = is
  gone_stays (e ∷ nodes) all steps is =
      gone_stays nodes (later _ _ all) (with_step steps e.0 None) (one_gone steps e.0 (now _ _ all) is)

  -- nodes at and below p move
  moved_stays : (q : Path) (nodes : Nodes) → list_all (λ e. is_under e.0 p) nodes ≡ true → (steps : Steps) → there steps → there (all_moved p q steps nodes)
  moved_stays q [] all steps is = is
  moved_stays q (e ∷ nodes) all steps is =
      moved_stays q nodes (later _ _ all) (with_step (with_step steps e.0 None) (moved_path p q e.0) (Some e.1))
      (kept_by_put view (with_step steps e.0 None) (moved_path p q e.0) e.1 r (one_gone steps e.0 (now _ _ all) is))

-- the version storage is below nothing that a command may take away
storage_apart : (p : Path) → in_system p ≡ None → p ≢ [] → is_under version_storage p ≡ false
storage_apart p own low = by (is_under version_storage p) refl
  where
    inside : (q more : Path) → version_storage ≡ q ++ more → q ≢ [] → is_under q system ≡ true
    inside [] more e low = absurd (low refl)
    inside (n ∷ q) more e low = (below_is_prefix (n ∷ q) system).1 (q, ap (λ (m : Name). m ∷ q) (sym (ap (λ (x : Path). elim x [ [] ↦ n | m ∷ rest ↦ m ]) e)))

    by : (b : Bool) → is_under version_storage p ≡ b → b ≡ false
    by false e = refl
    by true e =
        let b = (below_is_prefix version_storage p).0 e in
        sym (inside p b.0 b.1 low) ∙ fails (is_under p system) (own_rule p) own

remove_stays : (types : List TypeDef) (v : Nodes) (new : Steps) (p : Path) → remove_made types (whole_view v) [] p ≡ Ok new
    → is_some (node_at v version_storage) ≡ true → is_some (drafted (whole_view v) new version_storage) ≡ true
remove_stays types v new p h stored =
    let w : View = whole_view v in
    let o0 : Option Refusal = path_refusal p in
    let o1 : Option Refusal = absent w [] p in
    let o2 : Option Refusal = is_root p in
    let o3 : Option Refusal = kept_refusal types w [] p in
    let done = passed (remove_refusal types w [] p) (Ok (all_gone [] (subtree_of v p))) new h in
    let place : path_refusal p ≡ None = none_here o0 (o1 ∷ o2 ∷ o3 ∷ []) done.0 in
    let own : in_system p ≡ None = none_here (in_system p) [] (none_later (limit_refusal p) (in_system p ∷ []) place) in
    let root : is_root p ≡ None = none_here o2 (o3 ∷ []) (none_later o1 (o2 ∷ o3 ∷ []) (none_later o0 (o1 ∷ o2 ∷ o3 ∷ []) done.0)) in
    let low : p ≢ [] = λ e. none-some (own_rule []) (sym (subst (λ (q : Path). is_root q ≡ None) e root)) in
    subst (λ (s : Steps). is_some (drafted w s version_storage) ≡ true) (sym (ok_same done.1))
    (gone_stays w p version_storage (storage_apart p own low) (subtree_of v p) (filtered (λ (e : Path × Node). is_under e.0 p) v) [] stored)

move_stays : (v : Nodes) (new : Steps) (p q : Path) → move_made (whole_view v) [] p q ≡ Ok new
    → is_some (node_at v version_storage) ≡ true → is_some (drafted (whole_view v) new version_storage) ≡ true
move_stays v new p q h stored =
    let w : View = whole_view v in
    let a0 : Option Refusal = ends_refusal p q in
    let a1 : Option Refusal = stand_refusal w [] p q in
    let a2 : Option Refusal = moved_limit p q (subtree_of v p) in
    let b0 : Option Refusal = absent w [] p in
    let b1 : Option Refusal = absent w [] (above q) in
    let b2 : Option Refusal = when (is_some (node_at v q)) (taken q) in
    let b3 : Option Refusal = when (is_under q p) (own_rule q) in
    let c0 : Option Refusal = limit_refusal p in
    let c1 : Option Refusal = limit_refusal q in
    let done = passed (move_refusal w [] p q) (Ok (all_moved p q [] (subtree_of v p))) new h in
    let ends : a0 ≡ None = none_here a0 (a1 ∷ a2 ∷ []) done.0 in
    let stand : a1 ≡ None = none_here a1 (a2 ∷ []) (none_later a0 (a1 ∷ a2 ∷ []) done.0) in
    let own : in_system p ≡ None = none_here (in_system p) (in_system q ∷ [])
    (none_later c1 (in_system p ∷ in_system q ∷ []) (none_later c0 (c1 ∷ in_system p ∷ in_system q ∷ []) ends)) in
    let apart : is_under q p ≡ false = fails (is_under q p) (own_rule q)
    (none_here b3 [] (none_later b2 (b3 ∷ []) (none_later b1 (b2 ∷ b3 ∷ []) (none_later b0 (b1 ∷ b2 ∷ b3 ∷ []) stand)))) in
    let low : p ≢ [] = λ e. false≢true (sym apart ∙ (ap (is_under q) e ∙ (below_is_prefix q []).1 (q, refl))) in
    subst (λ (s : Steps). is_some (drafted w s version_storage) ≡ true) (sym (ok_same done.1))
    (moved_stays w p version_storage (storage_apart p own low) q (subtree_of v p) (filtered (λ (e : Path × Node). is_under e.0 p) v) [] stored)

-- ---- what holds of no steps, and of those that a command makes, holds of its outcome

module _ (P : Steps → Type 0) (none : P []) (ids : ℕ) where
  of_making : (r : Result Making Refusal) → ((m : Making) → r ≡ Ok m → P m.steps) → P (made_outcome ids r).steps
  of_making (Ok m) h = h m refl
  of_making (Err r) h = none

  of_steps : (r : Result Steps Refusal) → ((s : Steps) → r ≡ Ok s → P s) → P (made_outcome ids (drawing_none ids r)).steps
  of_steps (Ok s) h = h s refl
  of_steps (Err r) h = none

module _ (types : List TypeDef) (who : Who) (t v : Nodes) (tree : IsTree v) (stored : is_some (node_at v version_storage) ≡ true) where
  abbrev w : View
  w = whole_view v

  abbrev Keeps : Steps → Type 0
  Keeps s = KeepTree w s

  abbrev Stored : Steps → Type 0
  Stored s = is_some (drafted w s version_storage) ≡ true

  abbrev first : Making
  first = making [] who.ids

  none : KeepTree w []
  none = nothing_keeps v tree

  command_keeps : (command : Command) → Keeps (outcome types who w t command).steps
  command_keeps (command.Add p n) = of_making Keeps none who.ids (add_made types who w p n first) (λ m h. add_keeps types who v p n first m none h)
  command_keeps (command.Tree p parts) = of_making Keeps none who.ids (tree_made types who w p parts first) (λ m h. tree_keeps types who v p parts first m tree none stored h)
  command_keeps (command.Set p n x) = of_steps Keeps none who.ids (set_made types w [] p n x) (λ s h. set_keeps types v [] s p n x tree none h)
  command_keeps (command.Unset p n) = of_steps Keeps none who.ids (unset_made types w [] p n) (λ s h. unset_keeps types v [] s p n tree none h)
  command_keeps (command.Remove p) = of_steps Keeps none who.ids (remove_made types w [] p) (λ s h. remove_keeps types v s p tree h)
  command_keeps (command.Move p q) = of_steps Keeps none who.ids (move_made w [] p q) (λ s h. move_keeps v s p q tree h)
  command_keeps (command.Mixin p n) = of_making Keeps none who.ids (mixin_made types who w p n first) (λ m h. mixin_keeps types who v p n first m tree none stored h)
  command_keeps (command.Unmixin p n) = of_steps Keeps none who.ids (unmixin_made types w p n []) (λ s h. unmixin_keeps types v p n [] s tree none h)
  command_keeps (command.SetType p n) = of_making Keeps none who.ids (type_made types who w p n first) (λ m h. type_keeps types who v p n first m tree none h)
  command_keeps (command.OrderBefore p before) = of_steps Keeps none who.ids (order_made types w [] p before) (λ s h. order_keeps types v [] s p before tree none h)
  command_keeps _ = none

  command_stores : (command : Command) → Stored (outcome types who w t command).steps
  command_stores (command.Add p n) = of_making Stored stored who.ids (add_made types who w p n first) (λ m h. add_stays types who w p version_storage n first m h stored)
  command_stores (command.Tree p parts) = of_making Stored stored who.ids (tree_made types who w p parts first) (λ m h. tree_stays types who w p version_storage parts first m h stored)
  command_stores (command.Set p n x) = of_steps Stored stored who.ids (set_made types w [] p n x) (λ s h. put_stays w p version_storage (node_set types w [] p n x) [] s h stored)
  command_stores (command.Unset p n) = of_steps Stored stored who.ids (unset_made types w [] p n) (λ s h. put_stays w p version_storage (node_unset types w [] p n) [] s h stored)
  command_stores (command.Remove p) = of_steps Stored stored who.ids (remove_made types w [] p) (λ s h. remove_stays types v s p h stored)
  command_stores (command.Move p q) = of_steps Stored stored who.ids (move_made w [] p q) (λ s h. move_stays v s p q h stored)
  command_stores (command.Mixin p n) = of_making Stored stored who.ids (mixin_made types who w p n first) (λ m h. mixin_stays types who w p version_storage n first m h stored)
  command_stores (command.Unmixin p n) = of_steps Stored stored who.ids (unmixin_made types w p n []) (λ s h. unmixin_stays types w p version_storage n [] s h stored)
  command_stores (command.SetType p n) = of_making Stored stored who.ids (type_made types who w p n first) (λ m h. type_stays types who w p version_storage n first m h stored)
  command_stores (command.OrderBefore p before) = of_steps Stored stored who.ids (order_made types w [] p before)
      (λ s h. put_stays w (above p) version_storage (order_node types w [] p before) [] s h stored)
  command_stores _ = stored

  -- the view after a command
  pub command_tree : (command : Command) → IsTree (eval types who t v command).view
  command_tree command = kept_tree t v (outcome types who w t command).steps tree (command_keeps command)

  pub command_storage : (command : Command) → is_some (node_at (eval types who t v command).view version_storage) ≡ true
  command_storage command = there_after t v (outcome types who w t command).steps tree (command_keeps command) version_storage ∙ command_stores command

-- what is pending makes a proper edit after a command of which nothing lacks
pub command_proper : (types : List TypeDef) (who : Who) (t : Nodes) (k : Knowledge) (c : Changed) (command : Command) → IsPartOf t k c → All (LacksNothing k) (needs_of who k c command)
    → IsTree (view_of t c) → is_some (node_at (view_of t c) version_storage) ≡ true
    → IsProper t (edit_of (with_steps k.nodes c (outcome types who (known_view k c) k.nodes command).steps))
command_proper types who t k c command part all tree stored =
    edit_proper t (with_steps k.nodes c (outcome types who (known_view k c) k.nodes command).steps) part.tree (over_after t k c part types who command all)
    (subst IsTree (sym (view_after t k c part types who command all)) (command_tree types who t (view_of t c) tree stored command))
