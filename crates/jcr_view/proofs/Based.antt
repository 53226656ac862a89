-- A command touches only paths at which the base is known, where nothing of what it asks for lacks.
use Rattle.std.proofs.Common.{◌≡◌, ◌⊎◌, inl, inr, ℕ, Bool, true, false, cond, List, [], ◌∷◌, Option, None, Some, is_some, length, drop, refl, ap, sym, ◌∙◌}
use Rattle.std.specs.Prelude.{IfOk, Result, Ok, Err}
use Rattle.std.specs.List.{All, filter, list_all}
use Rattle.std.specs.Option.{IfSome}
use Rattle.std.proofs.lemmas.Bool.{and_parts, false≢true, or_right}
use Rattle.jr_path.specs.Names.{is_under}
use Rattle.jr_path.specs.declared.path.Path.{Path}
use Rattle.jr_path.proofs.Parts.{below_is_prefix}
use Rattle.jr_tree.specs.Trees.{Nodes, node_at, subtree_of}
use Rattle.jr_tree.specs.declared.shared.Refusal.{Refusal}
use Rattle.jr_tree.specs.declared.shared.Who.{Who}
use Rattle.jr_tree.specs.declared.tree.Node.{Node}
use Rattle.jr_items.specs.Items.{same_name}
use Rattle.jr_items.specs.Names.{version_storage, versionable}
use Rattle.jr_part.specs.Parts.{Knowledge, LacksNothing, known_at}
use Rattle.jr_part.specs.declared.need.Need.TheVariants as need
use Rattle.jr_overlay.specs.Drafts.{Steps, stepped, with_step, with_steps}
use Rattle.jr_overlay.specs.Overlays.{AreOver, Changed, base_at, change_at, known_view, seen, view_of}
use Rattle.jr_overlay.specs.Views.{AreAt, all_gone, all_moved, moved_path}
use Rattle.jr_overlay.proofs.Below.{base_under}
use Rattle.jr_overlay.proofs.Commits.{known_base, over_steps, view_steps}
use Rattle.jr_overlay.proofs.Touched.{touch_more, touch_none}
use Rattle.jr_types.specs.declared.TypeDef.{TypeDef}
use Rattle.jcr_trans.specs.declared.command.Command.{Command}
use Rattle.jcr_trans.specs.declared.command.Command.TheVariants as command
use Rattle.jcr_write.specs.Places.{above, putting, unless_refused}
use Rattle.jcr_write.specs.Writes.{move_refusal, node_set, node_unset, order_node, remove_refusal}
use Rattle.jcr_fill.specs.Kept.{IsAsBefore}
use Rattle.jcr_fill.specs.Makings.{Making, making}
use Rattle.jcr_fill.specs.Steps.{and_then}
use Rattle.jcr_make.specs.Commands.{add_made}
use Rattle.jcr_mixin.specs.Commands.{node_unmixed, type_made}
use Rattle.jcr_mixin.specs.Histories.{due_history, mixin_made}
use Rattle.jcr_make.specs.Subtrees.{makes_histories, tree_made}
use Rattle.jcr_make.proofs.Touched.{add_elsewhere, mixin_elsewhere, tree_elsewhere, type_elsewhere}
use Rattle.jcr_view.specs.Needs.{children_needs, listing_needs, needs_of}
use Rattle.jcr_view.specs.Outcomes.{CommandOutcome, drawing_none, eval, made_outcome, outcome}
use Rattle.jcr_view.specs.Parts.{IsPartOf}
use Rattle.jcr_view.proofs.Enough.{first_met, mixin_met, outcome_same, rest_met, tree_met}

-- ---- steps at paths of which something holds

module _ (P : Path → Type 0) where
  touch_put : (ids : ℕ) (p : Path) (due : Result Node Refusal) → P p
      → AreAt P (made_outcome ids (drawing_none ids (putting [] p due))).steps
  touch_put ids p (Ok node) here = touch_more P [] p (Some node) (touch_none P) here
  touch_put ids p (Err r) here = touch_none P

  touch_then : (ids : ℕ) (p : Path) (due : Result Node Refusal) → P p
      → AreAt P (made_outcome ids (drawing_none ids (and_then due (λ node. Ok (with_step [] p (Some node)))))).steps
  touch_then ids p (Ok node) here = touch_more P [] p (Some node) (touch_none P) here
  touch_then ids p (Err r) here = touch_none P

  touch_unless : (ids : ℕ) (r : Option Refusal) (steps : Steps) → AreAt P steps
      → AreAt P (made_outcome ids (drawing_none ids (unless_refused r (Ok steps)))).steps
  touch_unless ids None steps touch = touch
  touch_unless ids (Some r) steps touch = touch_none P

  -- a command that leaves what was made as it was but at these paths touches these
  touch_made : (ids : ℕ) (due : Result Making Refusal) → ((q : Path) → P q ⊎ IfOk due (IsAsBefore q (making [] ids))) → AreAt P (made_outcome ids due).steps
  touch_made ids (Ok m) left = λ q there. elim (left q) [ inl here ↦ here | inr same ↦ absurd (false≢true (ap (λ (o : Option (Option Node)). is_some o) (sym same) ∙ there)) ]
  touch_made ids (Err r) left = touch_none P

  pub touch_gone : (p : Path) → ((q : Path) → is_under q p ≡ true → P q) → (nodes : Nodes)
      → list_all (λ e. is_under e.0 p) nodes ≡ true → (steps : Steps) → AreAt P steps → AreAt P (all_gone steps nodes)
  touch_gone p below [] all steps touch = touch
  touch_gone p below (e ∷ es) all steps touch =
      touch_gone p below es (and_parts (is_under e.0 p) _ all).1 (with_step steps e.0 None)
      (touch_more P steps e.0 None touch (below e.0 (and_parts (is_under e.0 p) _ all).0))

  touch_moved : (p q : Path) → ((r : Path) → is_under r p ≡ true → P r) → ((r : Path) → is_under r q ≡ true → P r)
      → (nodes : Nodes) → list_all (λ e. is_under e.0 p) nodes ≡ true → (steps : Steps) → AreAt P steps
      → AreAt P (all_moved p q steps nodes)
  touch_moved p q from to [] all steps touch = touch
  touch_moved p q from to (e ∷ es) all steps touch =
      touch_moved p q from to es (and_parts (is_under e.0 p) _ all).1
      (with_step (with_step steps e.0 None) (moved_path p q e.0) (Some e.1))
      (touch_more P (with_step steps e.0 None) (moved_path p q e.0) (Some e.1)
      (touch_more P steps e.0 None touch (from e.0 (and_parts (is_under e.0 p) _ all).0))
      (to (moved_path p q e.0)
      ((below_is_prefix (moved_path p q e.0) q).1 (drop (length p) e.0, refl))))

-- ---- the base at the paths that a command touches

filter_more : {A : Type 0} (f : A → Bool) (x : A) (xs : List A) (b : Bool) → f x ≡ b
    → list_all f xs ≡ true → list_all f (cond b (x ∷ xs) xs) ≡ true
filter_more f x xs true h all = rw h all
filter_more f x xs false h all = all

pub filtered : {A : Type 0} (f : A → Bool) (xs : List A) → list_all f (filter f xs) ≡ true
filtered f [] = refl
filtered f (x ∷ xs) = filter_more f x (filter f xs) (f x) refl (filtered f xs)

module _ (t : Nodes) (k : Knowledge) (c : Changed) (part : IsPartOf t k c) where
  abbrev pub IsBased : Path → Type 0
  IsBased p = base_at k.nodes c p ≡ node_at t p

  pub at_node : (p : Path) → LacksNothing k (need.Node p) → IsBased p
  at_node p nothing = known_base t k c p part.agrees part.over
      (or_right (is_some (change_at c p)) (is_some (known_at k p)) (nothing (need.Node p) refl))

  pub below_node : (p : Path) → LacksNothing k (need.Subtree p) → (q : Path) → is_under q p ≡ true → IsBased q
  below_node p nothing q under = base_under t part.tree k part.order part.agrees p nothing c part.over q under

  pub all_under : (p : Path) → list_all (λ e. is_under e.0 p) (subtree_of (view_of k.nodes c) p) ≡ true
  all_under p = filtered (λ (e : Path × Node). is_under e.0 p) (view_of k.nodes c)

  -- the base is known at a path, or the path is apart
  based_or_apart : (p : Path) → LacksNothing k (need.Subtree p) → (q : Path) → IsBased q ⊎ (is_under q p ≡ false)
  based_or_apart p nothing q = by (is_under q p) refl
    where
      by : (b : Bool) → is_under q p ≡ b → IsBased q ⊎ (is_under q p ≡ false)
      by true under = inl (below_node p nothing q under)
      by false apart = inr apart

  -- so it is of a history of which nothing lacks
  history_apart : (history : Option Path) → IfSome history (λ h. LacksNothing k (need.Subtree h)) → (q : Path) → IsBased q ⊎ IfSome history (λ h. is_under q h ≡ false)
  history_apart None nothing q = inr tt
  history_apart (Some h) nothing q = based_or_apart h nothing q

  -- and where that counts only if something is so
  where_so : (b : Bool) (Based Apart : Type 0) → (b ≡ true → Based ⊎ Apart) → Based ⊎ (b ≡ true → Apart)
  where_so false Based Apart h = inr (λ e. absurd (false≢true e))
  where_so true Based Apart h = elim (h refl) [ inl based ↦ inl based | inr apart ↦ inr (λ e. apart) ]

  pub steps_based : (types : List TypeDef) (who : Who) (command : Command) → All (LacksNothing k) (needs_of who k c command)
      → AreAt IsBased (outcome types who (known_view k c) k.nodes command).steps
  steps_based types who (command.Set p n x) all =
      touch_put IsBased who.ids p (node_set types (known_view k c) [] p n x) (at_node p (first_met k (need.Node p) [] all))
  steps_based types who (command.Unset p n) all =
      touch_put IsBased who.ids p (node_unset types (known_view k c) [] p n) (at_node p (first_met k (need.Node p) [] all))
  steps_based types who (command.Unmixin p n) all =
      touch_then IsBased who.ids p (node_unmixed types (known_view k c) [] p n) (at_node p (first_met k (need.Node p) [] all))
  steps_based types who (command.Remove p) all =
      touch_unless IsBased who.ids (remove_refusal types (known_view k c) [] p)
      (all_gone [] (subtree_of (view_of k.nodes c) p)) (touch_gone IsBased p
      (below_node p (first_met k (need.Subtree p) (need.Node (above p) ∷ []) all)) (subtree_of (view_of k.nodes c) p) (all_under p) []
      (touch_none IsBased))
  steps_based types who (command.Move p q) all =
      touch_unless IsBased who.ids (move_refusal (known_view k c) [] p q)
      (all_moved p q [] (subtree_of (view_of k.nodes c) p)) (touch_moved IsBased p q
      (below_node p (first_met k (need.Subtree p) (need.Subtree q ∷ need.Node (above q) ∷ []) all))
      (below_node q (first_met k (need.Subtree q) (need.Node (above q) ∷ []) (rest_met k (need.Subtree p) (need.Subtree q ∷ need.Node (above q) ∷ []) all)))
      (subtree_of (view_of k.nodes c) p) (all_under p) [] (touch_none IsBased))
  steps_based types who (command.OrderBefore p before) all =
      touch_put IsBased who.ids (above p) (order_node types (known_view k c) [] p before)
      (at_node (above p) (first_met k (need.Node (above p)) (children_needs (known_at k (above p)) (above p)) (rest_met k (need.Node p) (listing_needs k (above p)) all)))
  steps_based types who (command.Add p type) all =
      touch_made IsBased who.ids (add_made types who (known_view k c) p type (making [] who.ids))
      (λ q. elim (based_or_apart p (first_met k (need.Subtree p) (need.Node (above p) ∷ []) all) q) [
        | inl based ↦ inl based
        | inr apart ↦ inr (add_elsewhere types who (known_view k c) p type (making [] who.ids) q apart)
      ])
  steps_based types who (command.Tree p parts) all =
      let met = tree_met k p parts all in
      touch_made IsBased who.ids (tree_made types who (known_view k c) p parts (making [] who.ids))
      (λ q. elim (based_or_apart p met.0 q) [
        | inl based ↦ inl based
        | inr apart ↦ elim (where_so (makes_histories parts) (IsBased q) (is_under q version_storage ≡ false) (λ h. based_or_apart version_storage (met.2 h) q)) [
          | inl based ↦ inl based
          | inr stored ↦ inr (tree_elsewhere types who (known_view k c) p parts (making [] who.ids) q apart stored)
        ]
      ])
  steps_based types who (command.Mixin p n) all =
      let met = mixin_met who k c p n all in
      touch_made IsBased who.ids (mixin_made types who (known_view k c) p n (making [] who.ids))
      (λ q. elim (based_or_apart p met.0 q) [
        | inl based ↦ inl based
        | inr apart ↦ elim (where_so (same_name versionable n) (IsBased q) (IfSome (due_history who who.ids (seen k.nodes c p)) (λ h. is_under q h ≡ false))
            (λ h. history_apart (due_history who who.ids (seen k.nodes c p)) (met.1 h) q)) [
              | inl based ↦ inl based
              | inr history ↦ inr (mixin_elsewhere types who (known_view k c) p n (making [] who.ids) q apart history)
            ]
      ])
  steps_based types who (command.SetType p n) all =
      touch_made IsBased who.ids (type_made types who (known_view k c) p n (making [] who.ids))
      (λ q. elim (based_or_apart p (first_met k (need.Subtree p) [] all) q) [
        | inl based ↦ inl based
        | inr apart ↦ inr (type_elsewhere types who (known_view k c) p n (making [] who.ids) q apart)
      ])
  steps_based types who _ all = touch_none IsBased

  pub over_after : (types : List TypeDef) (who : Who) (command : Command) → All (LacksNothing k) (needs_of who k c command)
      → AreOver t (with_steps k.nodes c (outcome types who (known_view k c) k.nodes command).steps)
  over_after types who command all =
      over_steps t k.nodes c (outcome types who (known_view k c) k.nodes command).steps part.over (steps_based types who command all)

  pub view_after : (types : List TypeDef) (who : Who) (command : Command) → All (LacksNothing k) (needs_of who k c command)
      → view_of t (with_steps k.nodes c (outcome types who (known_view k c) k.nodes command).steps)
      ≡ (eval types who t (view_of t c) command).view
  view_after types who command all =
      view_steps t k.nodes c (outcome types who (known_view k c) k.nodes command).steps part.tree.paths part.over (steps_based types who command all)
      ∙ ap (λ (o : CommandOutcome). stepped t (view_of t c) o.steps) (outcome_same types who t k c command part all)
