-- A subtree that moves keeps a tree.
use Rattle.std.proofs.Common.{◌≡◌, ◌⊎◌, inl, inr, Bool, true, false, cond, [], ◌∷◌, ◌++◌, length, drop, Option, None, Some, is_some, refl, sym, ap, ◌∙◌, append_assoc, append-nil}
use Rattle.std.specs.Option.{option_map_or, unwrap_or}
use Rattle.std.specs.Ordering.{eq_by_cmp, is_eq}
use Rattle.std.specs.List.{list_all}
use Rattle.std.specs.FinMap.{is_sorted}
use mathlib.Core.Bool.{false≢true}
use Rattle.jr_path.specs.Names.{is_under, parent_of, path_cmp}
use Rattle.jr_path.specs.declared.name.Name.{Name}
use Rattle.jr_path.specs.declared.path.Path.{Path}
use Rattle.jr_path.proofs.Maps.{path_total}
use Rattle.jr_path.proofs.Parts.{below_is_prefix, parent_of-child}
use Rattle.jr_tree.specs.declared.tree.Node.{Node}
use Rattle.jr_tree.specs.Trees.{IsTree, Nodes, node_at, subtree_of}
use Rattle.jr_tree.proofs.EditLaw.{Orderly-all}
use Rattle.jr_tree.proofs.Entries.{both, exactly, first, none_below, second, sorted_filter, sorted_insert}
use Rattle.jr_tree.proofs.Pointwise.{same_path}
use Rattle.jr_part.proofs.Above.{above}
use Rattle.jr_part.proofs.Order.{front}
use Rattle.jr_overlay.specs.Overlays.{whole_view}
use Rattle.jr_overlay.specs.Drafts.{Steps, drafted, with_step}
use Rattle.jr_overlay.specs.Views.{KeepTree, all_moved, moved_path, step_at, with_node_moved}
use Rattle.jr_overlay.proofs.Below.{at_under}
use Rattle.jr_overlay.proofs.Children.{ends}
use Rattle.jr_overlay.proofs.KeepingSteps.{at_step, below_parent, under_more}

drop_front : (p m : Path) → drop (length p) (p ++ m) ≡ m
drop_front [] m = refl
drop_front (n ∷ p) m = drop_front p m

under_front : (p m : Path) → is_under (p ++ m) p ≡ true
under_front p m = (below_is_prefix (p ++ m) p).1 (m, refl)

-- of two paths that a third is below, one is below the other
one_below : (p q m k : Path) → p ++ m ≡ q ++ k → (is_under q p ≡ true) ⊎ (is_under p q ≡ true)
one_below [] q m k e = inl (under_front [] q)
one_below (x ∷ p) [] m k e = inr (under_front [] (x ∷ p))
one_below (x ∷ p) (y ∷ q) m k e =
    let same : x ≡ y = cc in
    let rest : p ++ m ≡ q ++ k = cc in
    by same (one_below p q m k rest)
  where
    longer : (a b : Path) (c d : Name) → c ≡ d → is_under b a ≡ true → is_under (d ∷ b) (c ∷ a) ≡ true
    longer a b c d same h =
        let under = (below_is_prefix b a).0 h in
        (below_is_prefix (d ∷ b) (c ∷ a)).1 (under.0, ap (λ (z : Path). d ∷ z) under.1 ∙ ap (λ (n : Name). n ∷ (a ++ under.0)) (sym same))

    by : x ≡ y → (is_under q p ≡ true) ⊎ (is_under p q ≡ true) → (is_under (y ∷ q) (x ∷ p) ≡ true) ⊎ (is_under (x ∷ p) (y ∷ q) ≡ true)
    by same (inl h) = inl (longer p q x y same h)
    by same (inr h) = inr (longer q p y x (sym same) h)

all_under : (p : Path) (t : Nodes) → list_all (λ e. is_under e.0 p) (subtree_of t p) ≡ true
all_under p [] = refl
all_under p (e ∷ t) = by (is_under e.0 p) refl (all_under p t)
  where
    by : (b : Bool) → is_under e.0 p ≡ b → list_all (λ e. is_under e.0 p) (subtree_of t p) ≡ true → list_all (λ e. is_under e.0 p) (cond b (e ∷ subtree_of t p) (subtree_of t p)) ≡ true
    by true h rest = both _ _ h rest
    by false h rest = rest

-- what stands at a new place
abbrev placed : Option Node → Option (Option Node) → Option (Option Node)
placed o step = option_map_or (λ n. Some (Some n)) o step

module _ (p q : Path) where
  sorted-moved : (steps : Steps) (es : Nodes) → is_sorted path_cmp steps ≡ true → is_sorted path_cmp (all_moved p q steps es) ≡ true
  sorted-moved steps [] s = s
  sorted-moved steps (e ∷ es) s =
      sorted-moved (with_node_moved p q steps e) es
      (sorted_insert path_cmp path_total (moved_path p q e.0) (Some e.1) (with_step steps e.0 None) (sorted_insert path_cmp path_total e.0 None steps s))

  at_moved : (steps : Steps) (e : Path × Node) (r : Path) → step_at (with_node_moved p q steps e) r ≡ cond (eq_by_cmp path_cmp r (moved_path p q e.0)) (Some (Some e.1)) (cond (eq_by_cmp path_cmp r e.0) (Some None) (step_at steps r))
  at_moved steps e r =
      at_step (with_step steps e.0 None) (moved_path p q e.0) (Some e.1) r
      ∙ ap (λ (o : Option (Option Node)). cond (eq_by_cmp path_cmp r (moved_path p q e.0)) (Some (Some e.1)) o) (at_step steps e.0 None r)

  -- away from the new place
  step_out : (steps : Steps) (es : Nodes) (r : Path) → is_under r q ≡ false → step_at (all_moved p q steps es) r ≡ cond (is_some (node_at es r)) (Some None) (step_at steps r)
  step_out steps [] r out = refl
  step_out steps (e ∷ es) r out =
      step_out (with_node_moved p q steps e) es r out
      ∙ (ap (λ (o : Option (Option Node)). cond (is_some (node_at es r)) (Some None) o)
      (at_moved steps e r ∙ ap (λ b. cond b (Some (Some e.1)) (cond (eq_by_cmp path_cmp r e.0) (Some None) (step_at steps r))) (elsewhere (eq_by_cmp path_cmp r (moved_path p q e.0)) refl))
      ∙ by (eq_by_cmp path_cmp r e.0) (node_at es r))
    where
      elsewhere : (b : Bool) → eq_by_cmp path_cmp r (moved_path p q e.0) ≡ b → b ≡ false
      elsewhere false h = refl
      elsewhere true h = sym (under_front q (drop (length p) e.0)) ∙ (ap (λ (x : Path). is_under x q) (sym (same_path r (moved_path p q e.0) h)) ∙ out)

      by : (b : Bool) (n : Option Node) → cond (is_some n) (Some None) (cond b (Some None) (step_at steps r)) ≡ cond (is_some (cond b (Some e.1) n)) (Some None) (step_at steps r)
      by true None = refl
      by true (Some x) = refl
      by false n = refl

  -- at the new place
  step_in : (steps : Steps) (es : Nodes) → is_sorted path_cmp es ≡ true → list_all (λ e. is_under e.0 p) es ≡ true → (m : Path) → is_under (q ++ m) p ≡ false
      → step_at (all_moved p q steps es) (q ++ m) ≡ placed (node_at es (p ++ m)) (step_at steps (q ++ m))
  step_in steps [] s under m out = refl
  step_in steps (e ∷ es) s under m out =
      step_in (with_node_moved p q steps e) es (second _ _ s) (second _ _ under) m out
      ∙ (ap (λ (o : Option (Option Node)). placed (node_at es (p ++ m)) o)
      (at_moved steps e (q ++ m)
      ∙ (ap (λ b. cond b (Some (Some e.1)) (cond (eq_by_cmp path_cmp (q ++ m) e.0) (Some None) (step_at steps (q ++ m)))) same_place
      ∙ ap (λ b. cond (eq_by_cmp path_cmp (p ++ m) e.0) (Some (Some e.1)) (cond b (Some None) (step_at steps (q ++ m)))) (apart (eq_by_cmp path_cmp (q ++ m) e.0) refl)))
      ∙ by (eq_by_cmp path_cmp (p ++ m) e.0) refl)
    where
      apart : (b : Bool) → eq_by_cmp path_cmp (q ++ m) e.0 ≡ b → b ≡ false
      apart false h = refl
      apart true h = sym (first _ _ under) ∙ (ap (λ (x : Path). is_under x p) (sym (same_path (q ++ m) e.0 h)) ∙ out)

      same_place : eq_by_cmp path_cmp (q ++ m) (moved_path p q e.0) ≡ eq_by_cmp path_cmp (p ++ m) e.0
      same_place =
          let b = (below_is_prefix e.0 p).0 (first _ _ under) in
          let rest : drop (length p) e.0 ≡ b.0 = ap (drop (length p)) b.1 ∙ drop_front p b.0 in
          ap is_eq (front q m (drop (length p) e.0))
          ∙ (ap (λ (x : Path). eq_by_cmp path_cmp m x) rest
          ∙ (ap is_eq (sym (front p m b.0)) ∙ ap (eq_by_cmp path_cmp (p ++ m)) (sym b.1)))

      by : (b : Bool) → eq_by_cmp path_cmp (p ++ m) e.0 ≡ b
          → placed (node_at es (p ++ m)) (cond b (Some (Some e.1)) (step_at steps (q ++ m))) ≡ placed (cond b (Some e.1) (node_at es (p ++ m))) (step_at steps (q ++ m))
      by true h = ap (λ (o : Option Node). placed o (Some (Some e.1))) (none_below path_cmp path_total (p ++ m) e.0 (exactly _ h) es (first _ _ s))
      by false h = refl

module _ (v : Nodes) (tree : IsTree v) (p q a : Path) (there : is_some (node_at v p) ≡ true) (free : node_at v q ≡ None) (up : parent_of q ≡ Some a) (parent : is_some (node_at v a) ≡ true) (apart : is_under q p ≡ false) where
  abbrev moved : Steps
  moved = all_moved p q [] (subtree_of v p)

  none_in : (m : Path) → is_some (node_at v (q ++ m)) ≡ true → ⊥
  none_in m h = false≢true (ap is_some (sym free) ∙ above v tree q m h)

  not_in : (r : Path) → is_some (node_at v r) ≡ true → is_under r q ≡ false
  not_in r h = by (is_under r q) refl
    where
      by : (b : Bool) → is_under r q ≡ b → b ≡ false
      by false under = refl
      by true under = let b = (below_is_prefix r q).0 under in absurd (none_in b.0 (ap (λ (x : Path). is_some (node_at v x)) (sym b.1) ∙ h))

  -- nothing is both below the old place and below the new one
  never_both : (r : Path) → is_under r p ≡ true → is_under r q ≡ true → ⊥
  never_both r old new =
      let b = (below_is_prefix r p).0 old in
      let c = (below_is_prefix r q).0 new in
      by (one_below p q b.0 c.0 (sym b.1 ∙ c.1))
    where
      by : (is_under q p ≡ true) ⊎ (is_under p q ≡ true) → ⊥
      by (inl h) = false≢true (sym apart ∙ h)
      by (inr h) = false≢true (sym (not_in p there) ∙ h)

  old_not_new : (r : Path) → is_under r p ≡ true → is_under r q ≡ false
  old_not_new r old = by (is_under r q) refl
    where
      by : (b : Bool) → is_under r q ≡ b → b ≡ false
      by false h = refl
      by true h = absurd (never_both r old h)

  new_not_old : (m : Path) → is_under (q ++ m) p ≡ false
  new_not_old m = by (is_under (q ++ m) p) refl
    where
      by : (b : Bool) → is_under (q ++ m) p ≡ b → b ≡ false
      by false h = refl
      by true h = absurd (never_both (q ++ m) h (under_front q m))

  at_new : (m : Path) → step_at moved (q ++ m) ≡ placed (node_at v (p ++ m)) None
  at_new m =
      step_in p q [] (subtree_of v p) (sorted_filter path_cmp (λ e. is_under e.0 p) v tree.paths) (all_under p v) m (new_not_old m)
      ∙ ap (λ (o : Option Node). placed o None) (at_under p (p ++ m) v ∙ ap (λ b. cond b (node_at v (p ++ m)) None) (under_front p m))

  at_other : (r : Path) → is_under r q ≡ false → step_at moved r ≡ cond (is_some (cond (is_under r p) (node_at v r) None)) (Some None) None
  at_other r out = step_out p q [] (subtree_of v p) r out ∙ ap (λ (o : Option Node). cond (is_some o) (Some None) None) (at_under p r v)

  after_new : (m : Path) → drafted (whole_view v) moved (q ++ m) ≡ node_at v (p ++ m)
  after_new m = ap (λ (o : Option (Option Node)). unwrap_or o (node_at v (q ++ m))) (at_new m) ∙ by (node_at v (p ++ m)) (node_at v (q ++ m)) refl
    where
      by : (o n : Option Node) → node_at v (q ++ m) ≡ n → unwrap_or (placed o None) n ≡ o
      by (Some x) n is = refl
      by None None is = refl
      by None (Some y) is = absurd (none_in m (ap is_some is))

  after_other : (r : Path) → is_under r q ≡ false → drafted (whole_view v) moved r ≡ cond (is_under r p) None (node_at v r)
  after_other r out = ap (λ (o : Option (Option Node)). unwrap_or o (node_at v r)) (at_other r out) ∙ by (is_under r p) (node_at v r)
    where
      by : (b : Bool) (n : Option Node) → unwrap_or (cond (is_some (cond b n None)) (Some None) None) n ≡ cond b None n
      by true None = refl
      by true (Some x) = refl
      by false n = refl

  -- a node that is put stood at its old place
  put_from : (r : Path) (node : Node) → step_at moved r ≡ Some (Some node) → (m : Path) × (r ≡ q ++ m) × (node_at v (p ++ m) ≡ Some node)
  put_from r node is = by (is_under r q) refl
    where
      old : (o : Option Node) → placed o None ≡ Some (Some node) → o ≡ Some node
      old None e = absurd (false≢true (ap is_some e))
      old (Some x) e = ap (λ (s : Option (Option Node)). unwrap_or s None) e

      never : (b : Bool) → ◌≡◌ {A = Option (Option Node)} (cond b (Some None) None) (Some (Some node)) → ⊥
      never true e = false≢true (ap (λ (s : Option (Option Node)). is_some (unwrap_or s None)) e)
      never false e = false≢true (ap is_some e)

      by : (b : Bool) → is_under r q ≡ b → (m : Path) × (r ≡ q ++ m) × (node_at v (p ++ m) ≡ Some node)
      by true h =
          let b = (below_is_prefix r q).0 h in
          (b.0, b.1, old (node_at v (p ++ b.0)) (sym (at_new b.0) ∙ (ap (step_at moved) (sym b.1) ∙ is)))
      by false h = absurd (never (is_some (cond (is_under r p) (node_at v r) None)) (sym (at_other r h) ∙ is))

  taken_from : (r : Path) → step_at moved r ≡ Some None → is_under r p ≡ true
  taken_from r is = by (is_under r q) refl
    where
      never : (o : Option Node) → placed o None ≡ Some None → ⊥
      never None e = false≢true (ap is_some e)
      never (Some x) e = false≢true (sym (ap (λ (s : Option (Option Node)). is_some (unwrap_or s None)) e))

      old : (b : Bool) → is_under r p ≡ b → ◌≡◌ {A = Option (Option Node)} (cond (is_some (cond b (node_at v r) None)) (Some None) None) (Some None) → b ≡ true
      old true h e = refl
      old false h e = absurd (false≢true (ap is_some e))

      by : (b : Bool) → is_under r q ≡ b → is_under r p ≡ true
      by true h = let b = (below_is_prefix r q).0 h in absurd (never (node_at v (p ++ b.0)) (sym (at_new b.0) ∙ (ap (step_at moved) (sym b.1) ∙ is)))
      by false h = old (is_under r p) refl (sym (at_other r h) ∙ is)

  -- the node above stays
  root_stays : is_under [] p ≡ false
  root_stays = by (is_under [] p) refl
    where
      by : (b : Bool) → is_under [] p ≡ b → b ≡ false
      by false h = refl
      by true h = sym (under_more [] p q h) ∙ apart

  parent_stays : is_under a p ≡ false
  parent_stays = by (is_under a p) refl
    where
      by : (b : Bool) → is_under a p ≡ b → b ≡ false
      by false h = refl
      by true h =
          let b = below_parent q a up in
          sym (under_more a p (b.0 ∷ []) h) ∙ (ap (λ (x : Path). is_under x p) (sym b.1) ∙ apart)

  parents : (m x : Path) → parent_of (q ++ m) ≡ Some x → is_some (node_at v (p ++ m)) ≡ true → is_some (drafted (whole_view v) moved x) ≡ true
  parents m x of here = by (ends m)
    where
      by : (m ≡ []) ⊎ ((front : Path) × (n : Name) × (m ≡ front ++ n ∷ [])) → is_some (drafted (whole_view v) moved x) ≡ true
      by (inl e) =
          let at : a ≡ x = ap (λ (o : Option Path). unwrap_or o a) (sym up ∙ (ap parent_of (sym (append-nil q) ∙ ap (λ (z : Path). q ++ z) (sym e)) ∙ of)) in
          ap (λ (z : Path). is_some (drafted (whole_view v) moved z)) (sym at)
          ∙ (ap is_some (after_other a (not_in a parent)) ∙ (ap (λ b. is_some (cond b None (node_at v a))) parent_stays ∙ parent))
      by (inr s) =
          let new : q ++ m ≡ (q ++ s.0) ++ s.1 ∷ [] = ap (λ (z : Path). q ++ z) s.2 ∙ sym (append_assoc q s.0 (s.1 ∷ [])) in
          let old : p ++ m ≡ (p ++ s.0) ++ s.1 ∷ [] = ap (λ (z : Path). p ++ z) s.2 ∙ sym (append_assoc p s.0 (s.1 ∷ [])) in
          let at : q ++ s.0 ≡ x = ap (λ (o : Option Path). unwrap_or o x) (sym (parent_of-child (q ++ s.0) s.1) ∙ (ap parent_of (sym new) ∙ of)) in
          ap (λ (z : Path). is_some (drafted (whole_view v) moved z)) (sym at)
          ∙ (ap is_some (after_new s.0) ∙ above v tree (p ++ s.0) (s.1 ∷ []) (ap (λ (z : Path). is_some (node_at v z)) (sym old) ∙ here))

  pub moved_keeps : KeepTree (whole_view v) moved
  moved_keeps = record {
    paths = sorted-moved p q [] (subtree_of v p) refl;
    names = λ r node is. let m = put_from r node is in Orderly-all v tree.names (p ++ m.0) node m.2;
    root = ap is_some (after_other [] (not_in [] tree.root)) ∙ (ap (λ b. is_some (cond b None (node_at v []))) root_stays ∙ tree.root);
    above = λ r x node is of. let m = put_from r node is in parents m.0 x (ap parent_of (sym m.1) ∙ of) (ap is_some m.2);
    below = λ r x is of.
        let b = below_parent x r of in
        let under : is_under x p ≡ true = ap (λ (z : Path). is_under z p) b.1 ∙ under_more r p (b.0 ∷ []) (taken_from r is) in
        after_other x (old_not_new x under) ∙ ap (λ b. cond b None (node_at v x)) under;
  }
