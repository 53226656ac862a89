-- Each step's node moved into a place made before is each step's change, one after another.
use Rattle.std.proofs.Common.{◌≡◌, Bool, true, false, cond, ◌||◌, List, [], ◌∷◌, Option, None, Some, ℕ, zero, suc, is_some, is_none, map, take, refl, sym, ap, ◌∙◌}
use Rattle.std.specs.declared.cmp.Ordering.{Ordering}
use Rattle.std.specs.declared.cmp.Ordering.TheVariants.{Less, Equal, Greater}
use Rattle.std.specs.Option.{option_map, option_map_or}
use Rattle.std.specs.Ordering.{is_eq, eq_by_cmp, match_ordering, ordering_reverse}
use Rattle.std.specs.Map.{keys_of, remove_entry, set_value}
use Rattle.std.specs.BTreeMap.{is_at, insert_entry}
use Rattle.std.specs.List.{filter, fold, list_any}
use Rattle.std.specs.Cmp.{IsEquivalence}
use Rattle.std.specs.FinMap.{is_sorted}
use Rattle.std.specs.FinMap.Entries.{below_all}
use Rattle.std.proofs.lemmas.Bool.{false≢true, or_parts}
use Rattle.std.proofs.lemmas.Cmp.{eq_by_cmp_equiv}
use Rattle.jr_path.specs.Names.{path_cmp}
use Rattle.jr_path.specs.declared.path.Path.{Path}
use Rattle.jr_path.proofs.Maps.{path_exact, path_total, lookup-insert_entry}
use Rattle.jr_tree.specs.declared.tree.Node.{Node}
use Rattle.jr_tree.specs.Trees.{Nodes, node_at}
use Rattle.jr_tree.proofs.Entries.{exactly, first, second, lookup-remove, none_below, same_lists, sorted_insert, sorted_remove}
use Rattle.basics.proofs.Orders.{less_of}
use Rattle.jr_overlay.specs.declared.overlay.Change.{Change}
use Rattle.jr_overlay.specs.Overlays.{Changed, change_at, dated_as}
use Rattle.jr_overlay.specs.Drafts.{Steps, with_change, with_steps}
use Rattle.jr_overlay.proofs.SideBySide.{below_of}
use Rattle.jr_overlay.specs.Committing.{change_moved, place_at, untouched, with_new_at, with_places, without_places}

path_ties : IsEquivalence (eq_by_cmp path_cmp)
path_ties = eq_by_cmp_equiv path_total

abbrev InOrder : Changed → Type 0
InOrder c = is_sorted path_cmp c ≡ true

-- ---- places, and taking them away again

one_of : {X : Type 0} (b r : Bool) (o : Option X) (x : Option X) → cond r x (cond b x o) ≡ cond (b || r) x o
one_of true true o x = refl
one_of true false o x = refl
one_of false r o x = refl

-- what isn't among the paths is as before
places_other : (t : Nodes) (c : Changed) (ps : List Path) (p : Path) → list_any (eq_by_cmp path_cmp p) ps ≡ false → change_at (with_places t c ps) p ≡ change_at c p
places_other t c [] p h = refl
places_other t c (q ∷ ps) p h =
    let parts = or_parts _ _ h in
    places_other t (insert_entry path_cmp c q (place_at t q)) ps p parts.1
    ∙ (lookup-insert_entry path_cmp path_total p q (place_at t q) c
    ∙ ap (λ b. cond b (Some (place_at t q)) (change_at c p)) parts.0)

sorted_places : (t : Nodes) (c : Changed) (ps : List Path) → InOrder c → InOrder (with_places t c ps)
sorted_places t c [] s = s
sorted_places t c (q ∷ ps) s = sorted_places t (insert_entry path_cmp c q (place_at t q)) ps (sorted_insert path_cmp path_total q (place_at t q) c s)

removed_at : (c : Changed) (ps : List Path) → InOrder c → (p : Path) → change_at (without_places c ps) p ≡ cond (list_any (eq_by_cmp path_cmp p) ps) None (change_at c p)
removed_at c [] s p = refl
removed_at c (q ∷ ps) s p =
    removed_at (remove_entry (is_at (path_cmp q)) c) ps (sorted_remove path_cmp (is_at (path_cmp q)) c s) p
    ∙ (ap (cond (list_any (eq_by_cmp path_cmp p) ps) None) (lookup-remove path_cmp path_total p q c s)
    ∙ one_of (eq_by_cmp path_cmp p q) (list_any (eq_by_cmp path_cmp p) ps) (change_at c p) None)

sorted_removed : (c : Changed) (ps : List Path) → InOrder c → InOrder (without_places c ps)
sorted_removed c [] s = s
sorted_removed c (q ∷ ps) s = sorted_removed (remove_entry (is_at (path_cmp q)) c) ps (sorted_remove path_cmp (is_at (path_cmp q)) c s)

-- what no change touches has none
untouched_none : (c : Changed) (p : Path) (qs : List Path) → list_any (eq_by_cmp path_cmp p) (filter (λ q. is_none (change_at c q)) qs) ≡ true → None ≡ change_at c p
untouched_none c p [] h = absurd (false≢true h)
untouched_none c p (q ∷ qs) h = by (change_at c q) refl (eq_by_cmp path_cmp p q) refl (untouched_none c p qs) h
  where
    by : (o : Option Change) → change_at c q ≡ o → (b : Bool) → eq_by_cmp path_cmp p q ≡ b → (list_any (eq_by_cmp path_cmp p) (filter (λ q. is_none (change_at c q)) qs) ≡ true → None ≡ change_at c p)
        → list_any (eq_by_cmp path_cmp p) (cond (is_none o) (q ∷ filter (λ q. is_none (change_at c q)) qs) (filter (λ q. is_none (change_at c q)) qs)) ≡ true → None ≡ change_at c p
    by (Some x) g b e rest h = rest h
    by None g true e rest h = sym (ap (change_at c) (path_exact p q (exactly _ e)) ∙ g)
    by None g false e rest h = rest (ap (λ b. b || list_any (eq_by_cmp path_cmp p) (filter (λ q. is_none (change_at c q)) qs)) (sym e) ∙ h)

fewer : {X : Type 0} (test : X → Bool) (n : ℕ) (xs : List X) → list_any test xs ≡ false → list_any test (take n xs) ≡ false
fewer test zero xs h = refl
fewer test (suc n) [] h = refl
fewer test (suc n) (x ∷ xs) h = let parts = or_parts _ _ h in ap (λ b. b || list_any test (take n xs)) parts.0 ∙ fewer test n xs parts.1

-- taking the places away again leaves the changes as they were
places_undone : (t : Nodes) (c : Changed) (steps : Steps) (n : ℕ) → InOrder c → without_places (with_places t c (take n (untouched c steps))) (untouched c steps) ≡ c
places_undone t c steps n s =
    same_lists path_cmp path_total path_exact _ _ (sorted_removed _ ps (sorted_places t c (take n ps) s)) s (λ p. at p (list_any (eq_by_cmp path_cmp p) ps) refl)
  where
    ps : List Path
    ps = untouched c steps

    at : (p : Path) (b : Bool) → list_any (eq_by_cmp path_cmp p) ps ≡ b → change_at (without_places (with_places t c (take n ps)) ps) p ≡ change_at c p
    at p true h =
        removed_at (with_places t c (take n ps)) ps (sorted_places t c (take n ps) s) p
        ∙ (ap (λ b. cond b None (change_at (with_places t c (take n ps)) p)) h ∙ untouched_none c p (keys_of steps) h)
    at p false h =
        removed_at (with_places t c (take n ps)) ps (sorted_places t c (take n ps) s) p
        ∙ (ap (λ b. cond b None (change_at (with_places t c (take n ps)) p)) h
        ∙ places_other t c (take n ps) p (fewer (eq_by_cmp path_cmp p) n ps h))

map-take : {A : Type 0} (f : A → Path) (n : ℕ) (xs : List A) → map f (take n xs) ≡ take n (map f xs)
map-take f zero xs = refl
map-take f (suc n) [] = refl
map-take f (suc n) (x ∷ xs) = ap (λ (ps : List Path). f x ∷ ps) (map-take f n xs)

-- what a refusal left is taken away again
pub places_refused : {A : Type 0} (f : A → Path) (t : Nodes) (c : Changed) (steps : Steps) (room rest : Changed) (xs ys zs : List A) (n : ℕ) → InOrder c → map f xs ≡ untouched c steps → ys ≡ xs → zs ≡ xs
    → room ≡ with_places t c (map f (take n ys)) → rest ≡ without_places room (map f zs) → rest ≡ c
places_refused f t c steps room rest xs ys zs n s are same again put undone =
    undone
    ∙ (ap (λ (ws : List _). without_places room (map f ws)) again
    ∙ (ap (without_places room) are
    ∙ (ap (λ (u : Changed). without_places u (untouched c steps)) (put ∙ (ap (λ (ws : List _). with_places t c (map f (take n ws))) same ∙ ap (with_places t c) (map-take f n xs ∙ ap (take n) are)))
    ∙ places_undone t c steps n s)))

-- ---- moving in

-- a value set at one key, and another put at another key
set-insert : (p q : Path) (x y : Change) (c : Changed) → eq_by_cmp path_cmp p q ≡ false → set_value (is_at (path_cmp p)) (insert_entry path_cmp c q y) x ≡ insert_entry path_cmp (set_value (is_at (path_cmp p)) c x) q y
set-insert p q x y [] h = ap (λ b. cond b ((q, x) ∷ []) ((q, y) ∷ [])) h
set-insert p q x y (e ∷ c) h = by (path_cmp q e.0) refl (eq_by_cmp path_cmp p e.0) refl (set-insert p q x y c h)
  where
    set : Changed → Changed
    set d = set_value (is_at (path_cmp p)) d x

    put : Changed → Changed
    put d = insert_entry path_cmp d q y

    by : (o : Ordering) → path_cmp q e.0 ≡ o → (b : Bool) → eq_by_cmp path_cmp p e.0 ≡ b → set_value (is_at (path_cmp p)) (insert_entry path_cmp c q y) x ≡ insert_entry path_cmp (set_value (is_at (path_cmp p)) c x) q y
        → set_value (is_at (path_cmp p)) (match_ordering o ((q, y) ∷ e ∷ c) ((e.0, y) ∷ c) (e ∷ insert_entry path_cmp c q y)) x ≡ insert_entry path_cmp (cond b ((e.0, x) ∷ c) (e ∷ set_value (is_at (path_cmp p)) c x)) q y
    by Less g true f rest = rw (h, f, g) refl
    by Less g false f rest = rw (h, f, g) refl
    by Equal g true f rest = absurd (false≢true (sym h ∙ (ap (eq_by_cmp path_cmp p) (path_exact q e.0 g) ∙ f)))
    by Equal g false f rest = rw (f, g) refl
    by Greater g true f rest = rw (f, g) refl
    by Greater g false f rest = rw (f, g) (ap (λ (d : Changed). e ∷ d) rest)

set-insert_same : (p : Path) (x y : Change) (c : Changed) → set_value (is_at (path_cmp p)) (insert_entry path_cmp c p y) x ≡ insert_entry path_cmp c p x
set-insert_same p x y [] = ap (λ b. cond b ((p, x) ∷ []) ((p, y) ∷ [])) (path_ties.refl p)
set-insert_same p x y (e ∷ c) = by (path_cmp p e.0) refl (set-insert_same p x y c)
  where
    by : (o : Ordering) → path_cmp p e.0 ≡ o → set_value (is_at (path_cmp p)) (insert_entry path_cmp c p y) x ≡ insert_entry path_cmp c p x
        → set_value (is_at (path_cmp p)) (match_ordering o ((p, y) ∷ e ∷ c) ((e.0, y) ∷ c) (e ∷ insert_entry path_cmp c p y)) x ≡ match_ordering o ((p, x) ∷ e ∷ c) ((e.0, x) ∷ c) (e ∷ insert_entry path_cmp c p x)
    by Less g rest = ap (λ b. cond b ((p, x) ∷ e ∷ c) ((p, y) ∷ set_value (is_at (path_cmp p)) (e ∷ c) x)) (path_ties.refl p)
    by Equal g rest = ap (λ o. cond (is_eq o) ((e.0, x) ∷ c) ((e.0, y) ∷ set_value (is_at (path_cmp p)) c x)) g
    by Greater g rest = ap (λ o. cond (is_eq o) ((e.0, x) ∷ insert_entry path_cmp c p y) (e ∷ set_value (is_at (path_cmp p)) (insert_entry path_cmp c p y) x)) g ∙ ap (λ (d : Changed). e ∷ d) rest

-- what is put where something stands is set there
put_there : (p : Path) (x z : Change) (c : Changed) → InOrder c → change_at c p ≡ Some z → set_value (is_at (path_cmp p)) c x ≡ insert_entry path_cmp c p x
put_there p x z [] s h = absurd (false≢true (ap is_some h))
put_there p x z (e ∷ c) s h = by (path_cmp p e.0) refl (put_there p x z c (second _ _ s)) h
  where
    none : path_cmp p e.0 ≡ Less → change_at c p ≡ None
    none g = none_below path_cmp path_total p p (exactly _ (path_ties.refl p)) c (below_of p e.0 c g (first _ _ s))

    by : (o : Ordering) → path_cmp p e.0 ≡ o → (change_at c p ≡ Some z → set_value (is_at (path_cmp p)) c x ≡ insert_entry path_cmp c p x) → cond (is_eq o) (Some e.1) (change_at c p) ≡ Some z
        → cond (is_eq o) ((e.0, x) ∷ c) (e ∷ set_value (is_at (path_cmp p)) c x) ≡ match_ordering o ((p, x) ∷ e ∷ c) ((e.0, x) ∷ c) (e ∷ insert_entry path_cmp c p x)
    by Less g rest h = absurd (false≢true (ap is_some (sym (none g) ∙ h)))
    by Equal g rest h = refl
    by Greater g rest h = ap (λ (d : Changed). e ∷ d) (rest h)

set-places : (p : Path) (x : Change) (t : Nodes) (c : Changed) (ps : List Path) → list_any (eq_by_cmp path_cmp p) ps ≡ false → set_value (is_at (path_cmp p)) (with_places t c ps) x ≡ with_places t (set_value (is_at (path_cmp p)) c x) ps
set-places p x t c [] h = refl
set-places p x t c (q ∷ ps) h =
    let parts = or_parts _ _ h in
    set-places p x t (insert_entry path_cmp c q (place_at t q)) ps parts.1 ∙ ap (λ (d : Changed). with_places t d ps) (set-insert p q x (place_at t q) c parts.0)

-- a step's node moves into the place that was made for it
moved_new : (t : Nodes) (c : Changed) (ps : List Path) (e : Path × Option Node) → change_at c e.0 ≡ None → list_any (eq_by_cmp path_cmp e.0) ps ≡ false
    → with_new_at (with_places t c (e.0 ∷ ps)) e ≡ with_places t (with_change t c e) ps
moved_new t c ps e none apart =
    let there : change_at (with_places t (insert_entry path_cmp c e.0 (place_at t e.0)) ps) e.0 ≡ Some (place_at t e.0) =
    places_other t (insert_entry path_cmp c e.0 (place_at t e.0)) ps e.0 apart
    ∙ (lookup-insert_entry path_cmp path_total e.0 e.0 (place_at t e.0) c
    ∙ ap (λ b. cond b (Some (place_at t e.0)) (change_at c e.0)) (path_ties.refl e.0)) in
    ap (λ (o : Option Change). option_map_or (λ x. set_value (is_at (path_cmp e.0)) (with_places t (insert_entry path_cmp c e.0 (place_at t e.0)) ps) (change_moved x e.1)) o (with_places t (insert_entry path_cmp c e.0 (place_at t e.0)) ps)) there
    ∙ (set-places e.0 (change_moved (place_at t e.0) e.1) t (insert_entry path_cmp c e.0 (place_at t e.0)) ps apart
    ∙ (ap (λ (d : Changed). with_places t d ps) (set-insert_same e.0 (change_moved (place_at t e.0) e.1) (place_at t e.0) c)
    ∙ ap (λ (o : Option Change). with_places t (insert_entry path_cmp c e.0 (record { old = option_map_or (λ x. x.old) o (node_at t e.0); new = option_map (dated_as (option_map_or (λ x. x.old) o (node_at t e.0))) e.1 })) ps) (sym none)))

-- a step's node moves into the place of a change that was there
moved_there : (t : Nodes) (c : Changed) (ps : List Path) (e : Path × Option Node) (z : Change) → InOrder c → change_at c e.0 ≡ Some z → list_any (eq_by_cmp path_cmp e.0) ps ≡ false
    → with_new_at (with_places t c ps) e ≡ with_places t (with_change t c e) ps
moved_there t c ps e z s some apart =
    ap (λ (o : Option Change). option_map_or (λ x. set_value (is_at (path_cmp e.0)) (with_places t c ps) (change_moved x e.1)) o (with_places t c ps)) (places_other t c ps e.0 apart ∙ some)
    ∙ (set-places e.0 (change_moved z e.1) t c ps apart
    ∙ (ap (λ (d : Changed). with_places t d ps) (put_there e.0 (change_moved z e.1) z c s some)
    ∙ ap (λ (o : Option Change). with_places t (insert_entry path_cmp c e.0 (record { old = option_map_or (λ x. x.old) o (node_at t e.0); new = option_map (dated_as (option_map_or (λ x. x.old) o (node_at t e.0))) e.1 })) ps) (sym some)))

-- a path below all of the steps is none of theirs
not_among : (c : Changed) (p : Path) (es : Steps) → below_all path_cmp p es ≡ true → list_any (eq_by_cmp path_cmp p) (untouched c es) ≡ false
not_among c p [] h = refl
not_among c p (e ∷ es) h = by (is_none (change_at c e.0)) (not_among c p es (second _ _ h))
  where
    by : (b : Bool) → list_any (eq_by_cmp path_cmp p) (untouched c es) ≡ false → list_any (eq_by_cmp path_cmp p) (cond b (e.0 ∷ untouched c es) (untouched c es)) ≡ false
    by true rest = ap (λ o. is_eq o || list_any (eq_by_cmp path_cmp p) (untouched c es)) (less_of _ (first _ _ h)) ∙ rest
    by false rest = rest

-- a change at a path below all of the steps touches none of theirs
untouched_after : (c : Changed) (p : Path) (x : Change) (es : Steps) → below_all path_cmp p es ≡ true → untouched c es ≡ untouched (insert_entry path_cmp c p x) es
untouched_after c p x [] h = refl
untouched_after c p x (e ∷ es) h =
    let other : change_at (insert_entry path_cmp c p x) e.0 ≡ change_at c e.0 =
    lookup-insert_entry path_cmp path_total e.0 p x c
    ∙ ap (λ o. cond (is_eq o) (Some x) (change_at c e.0)) (path_total.antisymm e.0 p ∙ ap ordering_reverse (less_of _ (first _ _ h))) in
    ap (λ (ps : List Path). cond (is_none (change_at c e.0)) (e.0 ∷ ps) ps) (untouched_after c p x es (second _ _ h))
    ∙ ap (λ (o : Option Change). cond (is_none o) (e.0 ∷ untouched (insert_entry path_cmp c p x) es) (untouched (insert_entry path_cmp c p x) es)) (sym other)

-- all the steps' nodes moved in are all the steps made
pub all_moved : (t : Nodes) (c : Changed) (steps : Steps) → InOrder c → is_sorted path_cmp steps ≡ true → fold with_new_at (with_places t c (untouched c steps)) steps ≡ with_steps t c steps
all_moved t c [] s u = refl
all_moved t c (e ∷ es) s u =
    ap (λ (d : Changed). fold with_new_at d es) (by (change_at c e.0) refl ∙ ap (with_places t (with_change t c e)) (untouched_after c e.0 _ es (first _ _ u)))
    ∙ all_moved t (with_change t c e) es (sorted_insert path_cmp path_total e.0 _ c s) (second _ _ u)
  where
    apart : list_any (eq_by_cmp path_cmp e.0) (untouched c es) ≡ false
    apart = not_among c e.0 es (first _ _ u)

    by : (o : Option Change) → change_at c e.0 ≡ o → with_new_at (with_places t c (cond (is_none o) (e.0 ∷ untouched c es) (untouched c es))) e ≡ with_places t (with_change t c e) (untouched c es)
    by None g = moved_new t c (untouched c es) e g apart
    by (Some z) g = moved_there t c (untouched c es) e z s g apart

-- the steps of the code make the steps of a draft count
pub steps_count : (t : Nodes) (c c' : Changed) (steps : Steps) (room done : Changed) → InOrder c' → is_sorted path_cmp steps ≡ true → c ≡ c' → room ≡ with_places t c (untouched c steps) → done ≡ fold with_new_at room steps → done ≡ with_steps t c' steps
steps_count t c c' steps room done s u same made moved_in =
    moved_in
    ∙ (ap (λ (d : Changed). fold with_new_at d steps) made
    ∙ (ap (λ (d : Changed). fold with_new_at (with_places t d (untouched d steps)) steps) same ∙ all_moved t c' steps s u))
