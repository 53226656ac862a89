-- What an edit makes of the nodes that it writes, in their places, is what it makes of the tree.
use Rattle.std.proofs.Common.{◌≡◌, ◌+◌, ℕ, Bool, true, false, cond, ◌||◌, List, [], ◌∷◌, length, Option, None, Some, is_some, refl, sym, ap, subst, ◌∙◌, arith}
use Rattle.std.specs.Prelude.{not}
use Rattle.std.specs.Option.{option_map, option_map_or, option_or}
use Rattle.std.specs.Ordering.{eq_by_cmp}
use Rattle.std.specs.Map.{lookup, remove_entry}
use Rattle.std.specs.BTreeMap.{is_at, insert_entry}
use Rattle.std.specs.FinMap.{is_sorted}
use Rattle.std.specs.List.{filter, fold, list_any}
use Rattle.std.proofs.lemmas.Bool.{or_parts}
use Rattle.std.proofs.lemmas.List.Filters.{length-filter_both}
use Rattle.std.proofs.lemmas.Map.Entries.{lookup-filter-keys}
use Rattle.jr_path.specs.Names.{name_cmp, path_cmp}
use Rattle.jr_path.specs.declared.path.Path.{Path}
use Rattle.jr_path.proofs.Maps.{path_total, path_exact, lookup-insert_entry}
use Rattle.jr_tree.specs.declared.tree.Node.{Node}
use Rattle.jr_tree.specs.declared.edit.Write.{Write}
use Rattle.jr_tree.specs.declared.edit.Write.TheVariants.{Here, Gone, Put, Unset}
use Rattle.jr_tree.specs.Edits.{applied, is_same_item, item_of, last_writes}
use Rattle.jr_tree.specs.Merging.{is_touched, written_nodes}
use Rattle.jr_tree.specs.Trees.{Nodes, node_at}
use Rattle.jr_tree.proofs.AtPath.{InOrder, come, filled, props_of, node_at-applied, order-applied}
use Rattle.jr_tree.proofs.Entries.{same_lists, sorted_filter, sorted_insert}
use Rattle.jr_tree.proofs.Pointwise.{same_path}
use Rattle.jr_overlay.specs.declared.overlay.Change.{Change}
use Rattle.jr_overlay.specs.Overlays.{Changed, change_at, view_of}
use Rattle.jr_overlay.proofs.Views.{node_at-view, sorted-view}
use Rattle.jr_edited.specs.Edited.{IsCounted, change_between, changed_nodes, changed_between}

-- ---- writes of other nodes

come_other : (p : Path) (o : Option Node) (w : Write) → eq_by_cmp path_cmp p (item_of w).path ≡ false → come None p o w ≡ o
come_other p o (Here q) e = ap (λ b. cond b (Some (record { props = props_of o; born = None })) o) e
come_other p o (Gone q) e = ap (λ b. cond b None o) e
come_other p o (Put q m x) e = refl
come_other p o (Unset q m) e = refl

filled_other : (p : Path) (o : Option Node) (w : Write) → eq_by_cmp path_cmp p (item_of w).path ≡ false → filled p o w ≡ o
filled_other p o (Here q) e = refl
filled_other p o (Gone q) e = refl
filled_other p o (Put q m x) e = ap (λ b. cond b (option_map {T = Node} (λ node. record node { props = insert_entry name_cmp node.props m x }) o) o) e
filled_other p o (Unset q m) e = ap (λ b. cond b (option_map {T = Node} (λ node. record node { props = remove_entry (is_at (name_cmp m)) node.props }) o) o) e

comes_other : (p : Path) (o : Option Node) (ws : List Write) → is_touched ws p ≡ false → fold (come None p) o ws ≡ o
comes_other p o [] h = refl
comes_other p o (w ∷ ws) h =
    let parts = or_parts _ _ h in
    ap (λ (x : Option Node). fold (come None p) x ws) (come_other p o w parts.0) ∙ comes_other p o ws parts.1

fills_other : (p : Path) (o : Option Node) (ws : List Write) → is_touched ws p ≡ false → fold (filled p) o ws ≡ o
fills_other p o [] h = refl
fills_other p o (w ∷ ws) h =
    let parts = or_parts _ _ h in
    ap (λ (x : Option Node). fold (filled p) x ws) (filled_other p o w parts.0) ∙ fills_other p o ws parts.1

-- the last writes touch no other node
last_other : (p : Path) (ws : List Write) → is_touched ws p ≡ false → is_touched (last_writes ws) p ≡ false
last_other p [] h = refl
last_other p (w ∷ ws) h = let parts = or_parts _ _ h in by (list_any (is_same_item w) ws) parts.0 (last_other p ws parts.1)
  where
    by : (b : Bool) → eq_by_cmp path_cmp p (item_of w).path ≡ false → is_touched (last_writes ws) p ≡ false → is_touched (cond b (last_writes ws) (w ∷ last_writes ws)) p ≡ false
    by true here rest = rest
    by false here rest = ap (λ b. b || is_touched (last_writes ws) p) here ∙ rest

-- a node of which nothing is written is as it was
pub untouched : (t : Nodes) (ws : List Write) → InOrder t → (p : Path) → is_touched ws p ≡ false → node_at (applied None t ws) p ≡ node_at t p
untouched t ws s p h =
    let last = last_other p ws h in
    node_at-applied None p t ws s ∙ (ap (λ (o : Option Node). fold (filled p) o (last_writes ws)) (comes_other p (node_at t p) (last_writes ws) last) ∙ fills_other p (node_at t p) (last_writes ws) last)

-- two trees that are alike at a path are so after an edit
alike : (t u : Nodes) (ws : List Write) → InOrder t → InOrder u → (p : Path) → node_at t p ≡ node_at u p → node_at (applied None t ws) p ≡ node_at (applied None u ws) p
alike t u ws s r p h =
    node_at-applied None p t ws s
    ∙ (ap (λ (o : Option Node). fold (filled p) (fold (come None p) o (last_writes ws)) (last_writes ws)) h ∙ sym (node_at-applied None p u ws r))

-- ---- the copies

or_none : {X : Type 0} (o : Option X) → option_or o None ≡ o
or_none None = refl
or_none (Some x) = refl

or_same : {X : Type 0} (o : Option X) → option_or o o ≡ o
or_same None = refl
or_same (Some x) = refl

-- found so far, or among what is left
so_far : {X : Type 0} (a c : Option X) (b r : Bool) → option_or (option_or a (cond b c None)) (cond r c None) ≡ option_or a (cond (b || r) c None)
so_far (Some x) c b r = refl
so_far None c true true = or_same c
so_far None c true false = or_none c
so_far None c false r = refl

-- entries that are put where none is there yet: each of a path by itself
module _ {X : Type 0} (f : Path → Option X) where
  abbrev with_of : List (Path × X) → Path → List (Path × X)
  with_of c q = cond (is_some (lookup (is_at (path_cmp q)) c)) c (option_map_or (insert_entry path_cmp c q) (f q) c)

  abbrev all_of : List (Path × X) → List Write → List (Path × X)
  all_of c ws = fold (λ c w. with_of c (item_of w).path) c ws

  abbrev at : List (Path × X) → Path → Option X
  at c p = lookup (is_at (path_cmp p)) c

  put_at : (c : List (Path × X)) (q p : Path) → at (with_of c q) p ≡ option_or (at c p) (cond (eq_by_cmp path_cmp p q) (f p) None)
  put_at c q p = by (at c q) refl (f q) refl (eq_by_cmp path_cmp p q) refl
    where
      there : eq_by_cmp path_cmp p q ≡ true → at c p ≡ at c q
      there e = ap (at c) (same_path p q e)

      given : eq_by_cmp path_cmp p q ≡ true → f p ≡ f q
      given e = ap f (same_path p q e)

      by : (o : Option X) → at c q ≡ o → (r : Option X) → f q ≡ r → (b : Bool) → eq_by_cmp path_cmp p q ≡ b
          → at (cond (is_some o) c (option_map_or (insert_entry path_cmp c q) r c)) p ≡ option_or (at c p) (cond b (f p) None)
      by (Some n) h r g true e = sym (ap (λ (o : Option X). option_or o (f p)) (there e ∙ h) ∙ sym (there e ∙ h))
      by (Some n) h r g false e = sym (or_none (at c p))
      by None h None g true e = sym (ap (option_or (at c p)) (given e ∙ g) ∙ or_none (at c p))
      by None h None g false e = sym (or_none (at c p))
      by None h (Some n) g true e =
          lookup-insert_entry path_cmp path_total p q n c ∙ (ap (λ b. cond b (Some n) (at c p)) e
          ∙ sym (ap (λ (o : Option X). option_or o (f p)) (there e ∙ h) ∙ (given e ∙ g)))
      by None h (Some n) g false e = lookup-insert_entry path_cmp path_total p q n c ∙ (ap (λ b. cond b (Some n) (at c p)) e ∙ sym (or_none (at c p)))

  sorted_put : (c : List (Path × X)) (q : Path) → is_sorted path_cmp c ≡ true → is_sorted path_cmp (with_of c q) ≡ true
  sorted_put c q s = by (is_some (at c q)) (f q)
    where
      by : (b : Bool) (r : Option X) → is_sorted path_cmp (cond b c (option_map_or (insert_entry path_cmp c q) r c)) ≡ true
      by true r = s
      by false None = s
      by false (Some n) = sorted_insert path_cmp path_total q n c s

  puts_at : (c : List (Path × X)) (ws : List Write) (p : Path) → at (all_of c ws) p ≡ option_or (at c p) (cond (is_touched ws p) (f p) None)
  puts_at c [] p = sym (or_none (at c p))
  puts_at c (w ∷ ws) p =
      puts_at (with_of c (item_of w).path) ws p
      ∙ (ap (λ (o : Option X). option_or o (cond (is_touched ws p) (f p) None)) (put_at c (item_of w).path p)
      ∙ so_far (at c p) (f p) (eq_by_cmp path_cmp p (item_of w).path) (is_touched ws p))

  sorted_puts : (c : List (Path × X)) (ws : List Write) → is_sorted path_cmp c ≡ true → is_sorted path_cmp (all_of c ws) ≡ true
  sorted_puts c [] s = s
  sorted_puts c (w ∷ ws) s = sorted_puts (with_of c (item_of w).path) ws (sorted_put c (item_of w).path s)

written_at : (t : Nodes) (ws : List Write) (p : Path) → node_at (written_nodes t ws) p ≡ cond (is_touched ws p) (node_at t p) None
written_at t ws p = puts_at (node_at t) [] ws p

sorted_written : (t : Nodes) (ws : List Write) → InOrder (written_nodes t ws)
sorted_written t ws = sorted_puts (node_at t) [] ws refl

between_at : (old new : Nodes) (ws : List Write) (p : Path) → change_at (changed_between old new ws) p ≡ cond (is_touched ws p) (Some (change_between old new p)) None
between_at old new ws p = puts_at (λ q. Some (change_between old new q)) [] ws p

pub sorted_changes : (t : Nodes) (ws : List Write) → is_sorted path_cmp (changed_nodes t ws) ≡ true
sorted_changes t ws = sorted_puts (λ q. Some (change_between (written_nodes t ws) (applied None (written_nodes t ws) ws) q)) [] ws refl

-- ---- the tree after the edit

module _ (t : Nodes) (ws : List Write) (s : InOrder t) where
  abbrev part : Nodes
  part = written_nodes t ws

  abbrev u : Nodes
  u = applied None t ws

  -- the copies become what the tree becomes
  part_at : (p : Path) → is_touched ws p ≡ true → node_at (applied None part ws) p ≡ node_at u p
  part_at p h = alike part t ws (sorted_written t ws) s p (written_at t ws p ∙ ap (λ b. cond b (node_at t p) None) h)

  seen_at : (p : Path) → node_at (view_of t (changed_nodes t ws)) p ≡ node_at u p
  seen_at p =
      node_at-view t (changed_nodes t ws) s (sorted_changes t ws) p
      ∙ (ap (λ (o : Option Change). option_map_or (λ x. x.new) o (node_at t p)) (between_at part (applied None part ws) ws p) ∙ by (is_touched ws p) refl)
    where
      by : (b : Bool) → is_touched ws p ≡ b → option_map_or (λ (x : Change). x.new) (cond b (Some (change_between part (applied None part ws) p)) None) (node_at t p) ≡ node_at u p
      by true h = part_at p h
      by false h = sym (untouched t ws s p h)

  pub makes_view : view_of t (changed_nodes t ws) ≡ u
  makes_view = same_lists path_cmp path_total path_exact _ _ (sorted-view t (changed_nodes t ws) s) (order-applied None t ws s) seen_at

  -- ---- how many nodes there are

  abbrev written : Path → Bool
  written p = is_touched ws p

  abbrev written_not : Path → Bool
  written_not p = not (is_touched ws p)

  kept_at : (test : Path → Bool) (es : Nodes) (p : Path) → node_at (filter (λ e. test e.0) es) p ≡ cond (test p) (node_at es p) None
  kept_at test es p = lookup-filter-keys (is_at (path_cmp p)) test (test p) (λ q h. ap test (sym (same_path p q h))) es

  sorted_kept : (test : Path → Bool) (es : Nodes) → InOrder es → InOrder (filter (λ e. test e.0) es)
  sorted_kept test es r = sorted_filter path_cmp (λ e. test e.0) es r

  before_is : filter (λ e. written e.0) t ≡ part
  before_is = same_lists path_cmp path_total path_exact _ _ (sorted_kept written t s) (sorted_written t ws) (λ p. kept_at written t p ∙ sym (written_at t ws p))

  after_is : filter (λ e. written e.0) u ≡ applied None part ws
  after_is =
      same_lists path_cmp path_total path_exact _ _ (sorted_kept written u (order-applied None t ws s)) (order-applied None part ws (sorted_written t ws)) (λ p. kept_at written u p ∙ by p (is_touched ws p) refl)
    where
      by : (p : Path) (b : Bool) → is_touched ws p ≡ b → cond b (node_at u p) None ≡ node_at (applied None part ws) p
      by p true h = sym (part_at p h)
      by p false h = sym (untouched part ws (sorted_written t ws) p h ∙ (written_at t ws p ∙ ap (λ b. cond b (node_at t p) None) h))

  others_are : filter (λ e. written_not e.0) u ≡ filter (λ e. written_not e.0) t
  others_are =
      same_lists path_cmp path_total path_exact _ _ (sorted_kept written_not u (order-applied None t ws s)) (sorted_kept written_not t s)
      (λ p. kept_at written_not u p ∙ (by p (is_touched ws p) refl ∙ sym (kept_at written_not t p)))
    where
      by : (p : Path) (b : Bool) → is_touched ws p ≡ b → cond (not b) (node_at u p) None ≡ cond (not b) (node_at t p) None
      by p true h = refl
      by p false h = untouched t ws s p h

  split : (es : Nodes) → length (filter (λ e. written e.0) es) + length (filter (λ e. written_not e.0) es) ≡ length es
  split es = length-filter_both (λ e. written e.0) (λ e. written_not e.0) (λ e. refl) es

  pub counted : IsCounted t (changed_nodes t ws) (length part) (length (applied None part ws))
  counted = record {
    tree = s;
    changes = sorted_changes t ws;
    within = omega (arith, split t, ap length before_is);
    count = omega (arith, split t, split u, ap length before_is, ap length after_is, ap length others_are, ap length makes_view);
  }

-- what was made step by step
module _ (t part after : Nodes) (ws vs : List Write) (c d : Changed) (s : InOrder t) (old : part ≡ written_nodes t vs) (same : vs ≡ ws) (new : after ≡ applied None part ws) (between : c ≡ changed_between part after vs) (whole : d ≡ c) where
  part_is : part ≡ written_nodes t ws
  part_is = old ∙ ap (written_nodes t) same

  after_of : after ≡ applied None (written_nodes t ws) ws
  after_of = new ∙ ap (λ (u : Nodes). applied None u ws) part_is

  changes_are : d ≡ changed_nodes t ws
  changes_are = whole ∙ (between ∙ (λ i. changed_between (part_is i) (after_of i) (same i)))

  pub made_view : view_of t d ≡ applied None t ws
  made_view = ap (view_of t) changes_are ∙ makes_view t ws s

  pub made_counted : (n m : ℕ) → n ≡ length part → m ≡ length after → IsCounted t d n m
  made_counted n m before behind =
      subst (λ (e : Changed). IsCounted t e n m) (sym changes_are)
      (subst (λ k. IsCounted t (changed_nodes t ws) k m) (sym (before ∙ ap length part_is))
      (subst (λ k. IsCounted t (changed_nodes t ws) (length (written_nodes t ws)) k) (sym (behind ∙ ap length after_of)) (counted t ws s)))

-- ---- what is seen at a path

pub seen_changed : (t : Nodes) (c : Changed) (u : Nodes) (p : Path) (x : Change) (o : Option Node) → InOrder t → is_sorted path_cmp c ≡ true → view_of t c ≡ u → Some x ≡ change_at c p → o ≡ x.new → o ≡ node_at u p
seen_changed t c u p x o s r is there same =
    same ∙ (ap (λ (y : Option Change). option_map_or (λ x. x.new) y (node_at t p)) there ∙ (sym (node_at-view t c s r p) ∙ ap (λ (v : Nodes). node_at v p) is))

pub seen_unchanged : (t : Nodes) (c : Changed) (u : Nodes) (p : Path) (o : Option Node) → InOrder t → is_sorted path_cmp c ≡ true → view_of t c ≡ u → None ≡ change_at c p → o ≡ node_at t p → o ≡ node_at u p
seen_unchanged t c u p o s r is none same =
    same ∙ (ap (λ (y : Option Change). option_map_or (λ x. x.new) y (node_at t p)) none ∙ (sym (node_at-view t c s r p) ∙ ap (λ (v : Nodes). node_at v p) is))
