-- An edit is applied by changing copies of the nodes that are written, and putting these in their places.
use Rattle.std.proofs.Common.{◌≡◌, ℕ, zero, suc, Bool, true, false, cond, ◌&&◌, ◌||◌, List, [], ◌∷◌, map, take, Option, None, Some, is_some, is_none, refl, sym, ap, ◌∙◌}
use Rattle.std.specs.Option.{option_map_or, option_map, option_or, unwrap_or}
use Rattle.std.specs.Ordering.{eq_by_cmp}
use Rattle.std.specs.Map.{remove_entry, set_value}
use Rattle.std.specs.BTreeMap.{is_at, insert_entry}
use Rattle.std.specs.List.{fold, list_any}
use Rattle.std.specs.Cmp.{IsEquivalence}
use Rattle.std.proofs.lemmas.Cmp.{eq_by_cmp_equiv}
use mathlib.Core.Bool.{false≢true}
use Rattle.jr_path.specs.Names.{name_cmp, path_cmp}
use Rattle.jr_path.specs.declared.path.Path.{Path}
use Rattle.jr_path.proofs.Maps.{path_total, path_exact, lookup-insert_entry}
use Rattle.jr_rev.specs.declared.revision.Revision.{Revision}
use Rattle.jr_tree.specs.declared.tree.Node.{Node}
use Rattle.jr_tree.specs.declared.edit.Write.{Write}
use Rattle.jr_tree.specs.declared.edit.Write.TheVariants.{Here, Gone, Put, Unset}
use Rattle.jr_tree.specs.Trees.{Nodes, node_at}
use Rattle.jr_tree.specs.Edits.{item_of, applied, last_writes, with_node_write}
use Rattle.jr_tree.specs.Merging.{is_touched, with_node_of, written_nodes, paths_missing, with_room, without_paths, without_unless, without_gone, with_tree_part, changed_part, merged}
use Rattle.jr_tree.proofs.Pointwise.{same_path}
use Rattle.jr_tree.proofs.Entries.{exactly, first, second, none_below, sorted_insert, sorted_remove, sorted_set, lookup-remove, same_lists}
use Rattle.jr_tree.proofs.AtPath.{InOrder, come, filled, props_of, node_at-comes, node_at-fills, node_at-applied, order-comes, order-fills, order-applied, changed_there}
use Rattle.std.proofs.lemmas.Bool.{or_parts}

path_ties : IsEquivalence (eq_by_cmp path_cmp)
path_ties = eq_by_cmp_equiv path_total

or_none : {X : Type 0} (o : Option X) → option_or o None ≡ o
or_none None = refl
or_none (Some x) = refl

or_same : {X : Type 0} (o : Option X) → option_or o o ≡ o
or_same None = refl
or_same (Some x) = refl

-- ---- the copies

-- what is copied is what the tree has
copied_at : (t part : Nodes) (q p : Path) → node_at (with_node_of t part q) p ≡ option_or (node_at part p) (cond (eq_by_cmp path_cmp p q) (node_at t p) None)
copied_at t part q p = by (node_at part q) refl (node_at t q) refl (eq_by_cmp path_cmp p q) refl
  where
    at : (u : Nodes) → eq_by_cmp path_cmp p q ≡ true → node_at u p ≡ node_at u q
    at u e = ap (node_at u) (same_path p q e)

    by : (o : Option Node) → node_at part q ≡ o → (r : Option Node) → node_at t q ≡ r → (b : Bool) → eq_by_cmp path_cmp p q ≡ b
        → node_at (cond (is_some o) part (option_map_or (insert_entry path_cmp part q) r part)) p ≡ option_or (node_at part p) (cond b (node_at t p) None)
    by (Some n) h r g true e = sym (ap (λ (o : Option Node). option_or o (node_at t p)) (at part e ∙ h) ∙ sym (at part e ∙ h))
    by (Some n) h r g false e = sym (or_none (node_at part p))
    by None h None g true e = sym (ap (option_or (node_at part p)) (at t e ∙ g) ∙ or_none (node_at part p))
    by None h None g false e = sym (or_none (node_at part p))
    by None h (Some n) g true e =
        lookup-insert_entry path_cmp path_total p q n part ∙ (ap (λ b. cond b (Some n) (node_at part p)) e
        ∙ sym (ap (λ (o : Option Node). option_or o (node_at t p)) (at part e ∙ h) ∙ (at t e ∙ g)))
    by None h (Some n) g false e = lookup-insert_entry path_cmp path_total p q n part ∙ (ap (λ b. cond b (Some n) (node_at part p)) e ∙ sym (or_none (node_at part p)))

sorted_copied : (t part : Nodes) (q : Path) → InOrder part → InOrder (with_node_of t part q)
sorted_copied t part q s = by (is_some (node_at part q)) (node_at t q)
  where
    by : (b : Bool) (r : Option Node) → InOrder (cond b part (option_map_or (insert_entry path_cmp part q) r part))
    by true r = s
    by false None = s
    by false (Some n) = sorted_insert path_cmp path_total q n part s

-- found so far, or among what is left
so_far : {X : Type 0} (a c : Option X) (b r : Bool) → option_or (option_or a (cond b c None)) (cond r c None) ≡ option_or a (cond (b || r) c None)
so_far (Some x) c b r = refl
so_far None c true true = or_same c
so_far None c true false = or_none c
so_far None c false r = refl

copies_at : (t part : Nodes) (ws : List Write) (p : Path) → node_at (fold (λ part w. with_node_of t part (item_of w).path) part ws) p ≡ option_or (node_at part p) (cond (is_touched ws p) (node_at t p) None)
copies_at t part [] p = sym (or_none (node_at part p))
copies_at t part (w ∷ ws) p =
    copies_at t (with_node_of t part (item_of w).path) ws p
    ∙ (ap (λ (o : Option Node). option_or o (cond (is_touched ws p) (node_at t p) None)) (copied_at t part (item_of w).path p)
    ∙ so_far (node_at part p) (node_at t p) (eq_by_cmp path_cmp p (item_of w).path) (is_touched ws p))

written_at : (t : Nodes) (ws : List Write) (p : Path) → node_at (written_nodes t ws) p ≡ cond (is_touched ws p) (node_at t p) None
written_at t ws p = copies_at t [] ws p

sorted_copies : (t part : Nodes) (ws : List Write) → InOrder part → InOrder (fold (λ part w. with_node_of t part (item_of w).path) part ws)
sorted_copies t part [] s = s
sorted_copies t part (w ∷ ws) s = sorted_copies t (with_node_of t part (item_of w).path) ws (sorted_copied t part (item_of w).path s)

-- ---- writes of other nodes

come_other : (born : Option Revision) (p : Path) (o : Option Node) (w : Write) → eq_by_cmp path_cmp p (item_of w).path ≡ false → come born p o w ≡ o
come_other born p o (Here q) e = ap (λ b. cond b (Some (record { props = props_of o; born = born })) o) e
come_other born p o (Gone q) e = ap (λ b. cond b None o) e
come_other born p o (Put q m x) e = refl
come_other born p o (Unset q m) e = refl

filled_other : (p : Path) (o : Option Node) (w : Write) → eq_by_cmp path_cmp p (item_of w).path ≡ false → filled p o w ≡ o
filled_other p o (Here q) e = refl
filled_other p o (Gone q) e = refl
filled_other p o (Put q m x) e = ap (λ b. cond b (option_map {T = Node} (λ node. record node { props = insert_entry name_cmp node.props m x }) o) o) e
filled_other p o (Unset q m) e = ap (λ b. cond b (option_map {T = Node} (λ node. record node { props = remove_entry (is_at (name_cmp m)) node.props }) o) o) e

comes_other : (born : Option Revision) (p : Path) (o : Option Node) (ws : List Write) → is_touched ws p ≡ false → fold (come born p) o ws ≡ o
comes_other born p o [] h = refl
comes_other born p o (w ∷ ws) h =
    let parts = or_parts _ _ h in
    ap (λ (x : Option Node). fold (come born p) x ws) (come_other born p o w parts.0) ∙ comes_other born p o ws parts.1

fills_other : (p : Path) (o : Option Node) (ws : List Write) → is_touched ws p ≡ false → fold (filled p) o ws ≡ o
fills_other p o [] h = refl
fills_other p o (w ∷ ws) h =
    let parts = or_parts _ _ h in
    ap (λ (x : Option Node). fold (filled p) x ws) (filled_other p o w parts.0) ∙ fills_other p o ws parts.1

part_at : (born : Option Revision) (t : Nodes) (us : List Write) (p : Path) → node_at (changed_part born t us) p ≡ fold (filled p) (fold (come born p) (cond (is_touched us p) (node_at t p) None) us) us
part_at born t us p =
    node_at-fills p (fold (with_node_write born) (written_nodes t us) us) us
    ∙ ap (λ (o : Option Node). fold (filled p) o us) (node_at-comes born p (written_nodes t us) us (sorted_copies t [] us refl) ∙ ap (λ (o : Option Node). fold (come born p) o us) (written_at t us p))

-- an edit makes of the tree what the changed part has at the written nodes
applied_at : (born : Option Revision) (t : Nodes) (ws : List Write) → InOrder t → (p : Path) → node_at (applied born t ws) p ≡ cond (is_touched (last_writes ws) p) (node_at (changed_part born t (last_writes ws)) p) (node_at t p)
applied_at born t ws s p = node_at-applied born p t ws s ∙ by (is_touched us p) refl
  where
    us : List Write
    us = last_writes ws

    by : (b : Bool) → is_touched us p ≡ b → fold (filled p) (fold (come born p) (node_at t p) us) us ≡ cond b (node_at (changed_part born t us) p) (node_at t p)
    by true h = sym (part_at born t us p ∙ ap (λ b. fold (filled p) (fold (come born p) (cond b (node_at t p) None) us) us) h)
    by false h = ap (λ (o : Option Node). fold (filled p) o us) (comes_other born p (node_at t p) us h) ∙ fills_other p (node_at t p) us h

part_none : (born : Option Revision) (t : Nodes) (us : List Write) (p : Path) → is_touched us p ≡ false → node_at (changed_part born t us) p ≡ None
part_none born t us p h =
    part_at born t us p
    ∙ (ap (λ b. fold (filled p) (fold (come born p) (cond b (node_at t p) None) us) us) h
    ∙ (ap (λ (o : Option Node). fold (filled p) o us) (comes_other born p None us h) ∙ fills_other p None us h))

-- ---- room

one_of : {X : Type 0} (b r : Bool) (x : X) (o : Option X) → cond r (Some x) (cond b (Some x) o) ≡ cond (b || r) (Some x) o
one_of true true x o = refl
one_of true false x o = refl
one_of false r x o = refl

room_at : (t : Nodes) (ps : List Path) (p : Path) → node_at (with_room t ps) p ≡ cond (list_any (eq_by_cmp path_cmp p) ps) (Some (record { props = []; born = None })) (node_at t p)
room_at t [] p = refl
room_at t (q ∷ ps) p =
    room_at (insert_entry path_cmp t q (record { props = []; born = None })) ps p
    ∙ (ap (cond (list_any (eq_by_cmp path_cmp p) ps) (Some (record { props = []; born = None }))) (lookup-insert_entry path_cmp path_total p q (record { props = []; born = None }) t)
    ∙ one_of (eq_by_cmp path_cmp p q) (list_any (eq_by_cmp path_cmp p) ps) (record { props = []; born = None }) (node_at t p))

sorted_room : (t : Nodes) (ps : List Path) → InOrder t → InOrder (with_room t ps)
sorted_room t [] s = s
sorted_room t (q ∷ ps) s = sorted_room (insert_entry path_cmp t q (record { props = []; born = None })) ps (sorted_insert path_cmp path_total q (record { props = []; born = None }) t s)

none_of : {X : Type 0} (b r : Bool) (o : Option X) → cond r None (cond b None o) ≡ cond (b || r) None o
none_of true true o = refl
none_of true false o = refl
none_of false r o = refl

removed_at : (t : Nodes) (ps : List Path) → InOrder t → (p : Path) → node_at (without_paths t ps) p ≡ cond (list_any (eq_by_cmp path_cmp p) ps) None (node_at t p)
removed_at t [] s p = refl
removed_at t (q ∷ ps) s p =
    removed_at (remove_entry (is_at (path_cmp q)) t) ps (sorted_remove path_cmp (is_at (path_cmp q)) t s) p
    ∙ (ap (cond (list_any (eq_by_cmp path_cmp p) ps) None) (lookup-remove path_cmp path_total p q t s)
    ∙ none_of (eq_by_cmp path_cmp p q) (list_any (eq_by_cmp path_cmp p) ps) (node_at t p))

sorted_removed : (t : Nodes) (ps : List Path) → InOrder t → InOrder (without_paths t ps)
sorted_removed t [] s = s
sorted_removed t (q ∷ ps) s = sorted_removed (remove_entry (is_at (path_cmp q)) t) ps (sorted_remove path_cmp (is_at (path_cmp q)) t s)

-- a missing path has no node, and the part has one
missing_at : (t : Nodes) (es : Nodes) (p : Path) → list_any (eq_by_cmp path_cmp p) (paths_missing t es) ≡ (is_some (node_at es p) && is_none (node_at t p))
missing_at t [] p = refl
missing_at t (e ∷ es) p = by (is_none (node_at t e.0)) refl (eq_by_cmp path_cmp p e.0) refl (missing_at t es p)
  where
    late : (a : Bool) → a ≡ false → false ≡ (a && false)
    late true h = absurd (false≢true (sym h))
    late false h = refl

    no : (a : Bool) → (a && false) ≡ false
    no true = refl
    no false = refl

    by : (b : Bool) → is_none (node_at t e.0) ≡ b → (c : Bool) → eq_by_cmp path_cmp p e.0 ≡ c → list_any (eq_by_cmp path_cmp p) (paths_missing t es) ≡ (is_some (node_at es p) && is_none (node_at t p))
        → list_any (eq_by_cmp path_cmp p) (cond b (e.0 ∷ paths_missing t es) (paths_missing t es)) ≡ (is_some (cond c (Some e.1) (node_at es p)) && is_none (node_at t p))
    by true h true g rest = ap (λ b. b || list_any (eq_by_cmp path_cmp p) (paths_missing t es)) g ∙ sym (ap (λ q. is_none (node_at t q)) (same_path p e.0 g) ∙ h)
    by true h false g rest = ap (λ b. b || list_any (eq_by_cmp path_cmp p) (paths_missing t es)) g ∙ rest
    by false h true g rest =
        let none : is_none (node_at t p) ≡ false = ap (λ q. is_none (node_at t q)) (same_path p e.0 g) ∙ h in
        rest ∙ (ap (λ b. is_some (node_at es p) && b) none ∙ (no (is_some (node_at es p)) ∙ sym none))
    by false h false g rest = rest

fewer : {X : Type 0} (test : X → Bool) (n : ℕ) (xs : List X) → list_any test xs ≡ false → list_any test (take n xs) ≡ false
fewer test zero xs h = refl
fewer test (suc n) [] h = refl
fewer test (suc n) (x ∷ xs) h = let parts = or_parts _ _ h in ap (λ b. b || list_any test (take n xs)) parts.0 ∙ fewer test n xs parts.1

-- taking the room away again leaves the tree as it was
pub room_undone : (t part : Nodes) (n : ℕ) → InOrder t → without_paths (with_room t (take n (paths_missing t part))) (paths_missing t part) ≡ t
room_undone t part n s =
    same_lists path_cmp path_total path_exact _ _ (sorted_removed _ (paths_missing t part) (sorted_room t (take n (paths_missing t part)) s)) s (λ p. at p (list_any (eq_by_cmp path_cmp p) (paths_missing t part)) refl)
  where
    none : (a : Bool) (o : Option Node) → (a && is_none o) ≡ true → None ≡ o
    none true None h = refl
    none true (Some x) h = absurd (false≢true h)
    none false o h = absurd (false≢true h)

    ps : List Path
    ps = paths_missing t part

    at : (p : Path) (b : Bool) → list_any (eq_by_cmp path_cmp p) ps ≡ b → node_at (without_paths (with_room t (take n ps)) ps) p ≡ node_at t p
    at p true h = removed_at (with_room t (take n ps)) ps (sorted_room t (take n ps) s) p ∙ (ap (λ b. cond b None (node_at (with_room t (take n ps)) p)) h ∙ none (is_some (node_at part p)) (node_at t p) (sym (missing_at t part p) ∙ h))
    at p false h =
        removed_at (with_room t (take n ps)) ps (sorted_room t (take n ps) s) p
        ∙ (ap (λ b. cond b None (node_at (with_room t (take n ps)) p)) h
        ∙ (room_at t (take n ps) p ∙ ap (λ b. cond b (Some (record { props = []; born = None })) (node_at t p)) (fewer (eq_by_cmp path_cmp p) n ps h)))

-- ---- what goes

unless_at : (part t : Nodes) (q : Path) → InOrder t → (p : Path) → node_at (without_unless part t q) p ≡ cond (eq_by_cmp path_cmp p q && is_none (node_at part p)) None (node_at t p)
unless_at part t q s p = by (node_at part q) refl (eq_by_cmp path_cmp p q) refl
  where
    by : (o : Option Node) → node_at part q ≡ o → (b : Bool) → eq_by_cmp path_cmp p q ≡ b → node_at (cond (is_some o) t (remove_entry (is_at (path_cmp q)) t)) p ≡ cond (b && is_none (node_at part p)) None (node_at t p)
    by (Some n) h true e = ap (λ (o : Option Node). cond (is_none o) None (node_at t p)) (sym (ap (node_at part) (same_path p q e) ∙ h))
    by (Some n) h false e = refl
    by None h true e =
        lookup-remove path_cmp path_total p q t s
        ∙ (ap (λ b. cond b None (node_at t p)) e ∙ ap (λ (o : Option Node). cond (is_none o) None (node_at t p)) (sym (ap (node_at part) (same_path p q e) ∙ h)))
    by None h false e = lookup-remove path_cmp path_total p q t s ∙ ap (λ b. cond b None (node_at t p)) e

sorted_unless : (part t : Nodes) (q : Path) → InOrder t → InOrder (without_unless part t q)
sorted_unless part t q s = by (is_some (node_at part q))
  where
    by : (b : Bool) → InOrder (cond b t (remove_entry (is_at (path_cmp q)) t))
    by true = s
    by false = sorted_remove path_cmp (is_at (path_cmp q)) t s

gone_of : {X : Type 0} (b r c : Bool) (o : Option X) → cond (r && c) None (cond (b && c) None o) ≡ cond ((b || r) && c) None o
gone_of true true true o = refl
gone_of true false true o = refl
gone_of false r c o = refl
gone_of true true false o = refl
gone_of true false false o = refl

gone_at : (t part : Nodes) (ws : List Write) → InOrder t → (p : Path) → node_at (without_gone t part ws) p ≡ cond (is_touched ws p && is_none (node_at part p)) None (node_at t p)
gone_at t part [] s p = refl
gone_at t part (w ∷ ws) s p =
    gone_at (without_unless part t (item_of w).path) part ws (sorted_unless part t (item_of w).path s) p
    ∙ (ap (cond (is_touched ws p && is_none (node_at part p)) None) (unless_at part t (item_of w).path s p)
    ∙ gone_of (eq_by_cmp path_cmp p (item_of w).path) (is_touched ws p) (is_none (node_at part p)) (node_at t p))

sorted_gone : (t part : Nodes) (ws : List Write) → InOrder t → InOrder (without_gone t part ws)
sorted_gone t part [] s = s
sorted_gone t part (w ∷ ws) s = sorted_gone (without_unless part t (item_of w).path) part ws (sorted_unless part t (item_of w).path s)

-- ---- the part in its places

abbrev with_entry : Nodes → Path × Node → Nodes
with_entry t e = option_map_or (λ old. set_value (is_at (path_cmp e.0)) t e.1) (node_at t e.0) t

entry_at : (t : Nodes) (e : Path × Node) (p : Path) → node_at (with_entry t e) p ≡ cond (eq_by_cmp path_cmp p e.0) (option_map (λ old. e.1) (node_at t p)) (node_at t p)
entry_at t e p = changed_there (λ old. e.1) t p e.0 (node_at t e.0) refl

sorted_entry : (t : Nodes) (e : Path × Node) → InOrder t → InOrder (with_entry t e)
sorted_entry t e s = by (node_at t e.0)
  where
    by : (o : Option Node) → InOrder (option_map_or (λ old. set_value (is_at (path_cmp e.0)) t e.1) o t)
    by None = s
    by (Some n) = sorted_set path_cmp (is_at (path_cmp e.0)) e.1 t s

placed : (b : Bool) (o r : Option Node) (x : Node) → (b ≡ true → r ≡ None) → option_map (λ n. unwrap_or r n) (cond b (option_map (λ old. x) o) o) ≡ option_map (λ n. unwrap_or (cond b (Some x) r) n) o
placed true None r x h = refl
placed true (Some n) r x h = ap (λ (r : Option Node). Some (unwrap_or r x)) (h refl)
placed false o r x h = refl

same_map : (o : Option Node) → o ≡ option_map (λ n. n) o
same_map None = refl
same_map (Some n) = refl

-- a place that is there has the part's node, where the part has one
places_at : (t part : Nodes) → InOrder part → (p : Path) → node_at (with_tree_part t part) p ≡ option_map (λ n. unwrap_or (node_at part p) n) (node_at t p)
places_at t [] s p = same_map (node_at t p)
places_at t (e ∷ es) s p =
    places_at (with_entry t e) es (second _ _ s) p
    ∙ (ap (option_map (λ n. unwrap_or (node_at es p) n)) (entry_at t e p)
    ∙ placed (eq_by_cmp path_cmp p e.0) (node_at t p) (node_at es p) e.1 (λ h. none_below path_cmp path_total p e.0 (exactly _ h) es (first _ _ s)))

sorted_placed : (t part : Nodes) → InOrder t → InOrder (with_tree_part t part)
sorted_placed t [] s = s
sorted_placed t (e ∷ es) s = sorted_placed (with_entry t e) es (sorted_entry t e s)

-- ---- all steps

-- at a path that the part has its node is put, and a written node that it hasn't goes
merged_at : (t part : Nodes) (us : List Write) → InOrder t → InOrder part → ((p : Path) → is_touched us p ≡ false → node_at part p ≡ None) → (p : Path) → node_at (merged t part us) p ≡ cond (is_touched us p) (node_at part p) (node_at t p)
merged_at t part us s o only p =
    places_at (without_gone (with_room t (paths_missing t part)) part us) part o p
    ∙ (ap (option_map (λ n. unwrap_or (node_at part p) n)) (gone_at (with_room t (paths_missing t part)) part us (sorted_room t (paths_missing t part) s) p
    ∙ ap (cond (is_touched us p && is_none (node_at part p)) None) (room_at t (paths_missing t part) p ∙ ap (λ b. cond b (Some (record { props = []; born = None })) (node_at t p)) (missing_at t part p)))
    ∙ by (node_at part p) (node_at t p) (is_touched us p) (only p))
  where
    by : (x y : Option Node) (b : Bool) → (b ≡ false → x ≡ None) → option_map (λ n. unwrap_or x n) (cond (b && is_none x) None (cond (is_some x && is_none y) (Some (record { props = []; born = None })) y)) ≡ cond b x y
    by None None true h = refl
    by None None false h = refl
    by None (Some n) true h = refl
    by None (Some n) false h = refl
    by (Some x) None true h = refl
    by (Some x) (Some n) true h = refl
    by (Some x) y false h = absurd (false≢true (sym (ap is_some (h refl))))

sorted_part : (born : Option Revision) (t : Nodes) (us : List Write) → InOrder (changed_part born t us)
sorted_part born t us = order-fills (fold (with_node_write born) (written_nodes t us) us) us (order-comes born (written_nodes t us) us (sorted_copies t [] us refl))

merged_is : (born : Option Revision) (t : Nodes) (ws : List Write) → InOrder t → merged t (changed_part born t (last_writes ws)) (last_writes ws) ≡ applied born t ws
merged_is born t ws s =
    let us = last_writes ws in
    let part = changed_part born t us in
    same_lists path_cmp path_total path_exact _ _ (sorted_placed _ part (sorted_gone _ part us (sorted_room t (paths_missing t part) s))) (order-applied born t ws s)
    (λ p. merged_at t part us s (sorted_part born t us) (part_none born t us) p ∙ sym (applied_at born t ws s p))

-- the steps of the code give the tree after the edit
pub applied_apart : (born : Option Revision) (nodes : Nodes) (ws last1 last2 : List Write) (part done : Nodes) → InOrder nodes → last1 ≡ last_writes ws → last2 ≡ last1 → part ≡ changed_part born nodes last1 → done ≡ merged nodes part last2 → done ≡ applied born nodes ws
applied_apart born nodes ws last1 last2 part done s a b c d = rw (d, c, b, a) (merged_is born nodes ws s)

map-take : {A : Type 0} (f : A → Path) (n : ℕ) (xs : List A) → map f (take n xs) ≡ take n (map f xs)
map-take f zero xs = refl
map-take f (suc n) [] = refl
map-take f (suc n) (x ∷ xs) = ap (λ (ps : List Path). f x ∷ ps) (map-take f n xs)

-- what a refusal left is taken away again
pub room_refused : {A : Type 0} (f : A → Path) (t part room rest : Nodes) (xs ys zs : List A) (n : ℕ) → InOrder t → map f xs ≡ paths_missing t part → ys ≡ xs → zs ≡ xs → room ≡ with_room t (map f (take n ys)) → rest ≡ without_paths room (map f zs) → rest ≡ t
room_refused f t part room rest xs ys zs n s are same again put undone =
    undone
    ∙ (ap (λ (ws : List _). without_paths room (map f ws)) again
    ∙ (ap (without_paths room) are
    ∙ (ap (λ (u : Nodes). without_paths u (paths_missing t part)) (put ∙ (ap (λ (ws : List _). with_room t (map f (take n ws))) same ∙ ap (with_room t) (map-take f n xs ∙ ap (take n) are)))
    ∙ room_undone t part n s)))
