-- Writes in the order of their items: one pass over them makes of each node what the edit makes of it.
use Rattle.std.proofs.Common.{◌≡◌, Bool, true, false, cond, not, List, [], ◌∷◌, ◌++◌, map, Option, None, Some, is_some, refl, sym, ap, ◌∙◌}
use Rattle.std.specs.Prelude.{◌||◌}
use Rattle.std.specs.declared.cmp.Ordering.{Ordering}
use Rattle.std.specs.declared.cmp.Ordering.TheVariants.{Less, Equal, Greater}
use Rattle.std.specs.Ordering.{eq_by_cmp, is_eq, is_lt, ordering_then}
use Rattle.std.specs.Option.{option_cmp, option_map, option_or, unwrap_or}
use Rattle.std.specs.Cmp.{alike_right}
use Rattle.std.specs.List.{fold, list_all, list_any}
use Rattle.std.specs.Map.{values_of}
use Rattle.std.specs.FinMap.{is_sorted}
use Rattle.std.specs.FinMap.Entries.{below_all}
use mathlib.Core.Bool.{false≢true}
use Rattle.basics.proofs.Bools.{first_of_neither, second_of_neither}
use Rattle.basics.proofs.Options.{none_tested, some_mapped}
use Rattle.jr_path.specs.Names.{name_cmp, path_cmp}
use Rattle.jr_path.specs.declared.name.Name.{Name}
use Rattle.jr_path.specs.declared.path.Item.{Item}
use Rattle.jr_path.specs.declared.path.Path.{Path}
use Rattle.jr_path.proofs.Maps.{path_total}
use Rattle.jr_path.proofs.Orders.{item_exact}
use Rattle.jr_tree.specs.declared.edit.Write.{Write}
use Rattle.jr_tree.specs.declared.edit.Write.TheVariants.{Here, Gone, Put, Unset}
use Rattle.jr_tree.specs.declared.tree.Node.{Node}
use Rattle.jr_tree.specs.Changes.{Writes, nodes_changed, nodes_taken, with_writes}
use Rattle.jr_tree.specs.Edits.{IsProper, applied, changes, is_change, is_once, is_same_item, item_cmp, item_of, last_writes}
use Rattle.jr_tree.specs.Items.{here_of, written}
use Rattle.jr_tree.specs.Merging.{is_touched}
use Rattle.jr_tree.specs.Trees.{Nodes, node_at}
use Rattle.jr_tree.proofs.AtPath.{InOrder, come, filled, node_at-applied, props_of}
use Rattle.jr_tree.proofs.ChangesLaw.{is_keyed, keyed_with, sorted_with}
use Rattle.jr_tree.proofs.Entries.{exactly, first, second}
use Rattle.jr_tree.proofs.Pointwise.{same_path}
use Rattle.jr_tree.proofs.Written.{or_none}
use Rattle.jcr_write.specs.Places.{with_property, without_property}
use Rattle.jcr_view.specs.Rebases.{bare}

-- ---- writes in the order of their items

-- the writes, each with its item
abbrev pub by_items : List Write → Writes
by_items ws = map (λ w. (item_of w, w)) ws

-- the items of the writes rise
abbrev pub ItemsRise : List Write → Type 0
ItemsRise ws = is_sorted item_cmp (by_items ws) ≡ true

-- writes that are kept by their items stand by these
items_kept : (es : Writes) → is_keyed es ≡ true → by_items (values_of es) ≡ es
items_kept [] k = refl
items_kept (e ∷ es) k =
    ap (λ (i : Item). (i, e.1) ∷ by_items (values_of es)) (sym (item_exact e.0 (item_of e.1) (exactly _ (first _ _ k))))
    ∙ ap (λ (fs : Writes). e ∷ fs) (items_kept es (second _ _ k))

-- the changes from one tree to another rise
pub changes_rise : (t u : Nodes) → ItemsRise (changes t u)
changes_rise t u =
    let ws : List Write = nodes_taken u t ++ nodes_changed t u in
    ap (is_sorted item_cmp) (items_kept (with_writes [] ws) (keyed_with [] ws refl)) ∙ sorted_with [] ws refl

-- no node is written behind an item of its own
pub later_nodes : (p : Path) (n : Option Name) (ws : List Write)
    → below_all item_cmp (record { path = p; name = n }) (by_items ws) ≡ true → written (here_of p) ws ≡ None
later_nodes p n [] h = refl
later_nodes p n (w ∷ ws) h =
    ap (λ o. option_or o (here_of p w)) (later_nodes p n ws (second _ _ h)) ∙ here w (first _ _ h)
  where
    no_less : (m : Option Name) → is_lt (option_cmp name_cmp m None) ≡ false
    no_less None = refl
    no_less (Some m) = refl

    apart : (o r : Ordering) → is_lt r ≡ false → is_lt (ordering_then o r) ≡ true → is_eq o ≡ false
    apart Less r g k = refl
    apart Equal r g k = absurd (false≢true (sym g ∙ k))
    apart Greater r g k = refl

    here : (w : Write) → is_lt (item_cmp (record { path = p; name = n }) (item_of w)) ≡ true → here_of p w ≡ None
    here (Here q) k = ap (λ b. cond b (Some true) None) (apart (path_cmp p q) (option_cmp name_cmp n None) (no_less n) k)
    here (Gone q) k = ap (λ b. cond b (Some false) None) (apart (path_cmp p q) (option_cmp name_cmp n None) (no_less n) k)
    here (Put q m x) k = refl
    here (Unset q m) k = refl

-- nothing is written before an item behind it
pub earlier_untouched : (p : Path) (i : Item) → path_cmp p i.path ≡ Less → (ws : List Write)
    → below_all item_cmp i (by_items ws) ≡ true → is_touched ws p ≡ false
earlier_untouched p i less [] h = refl
earlier_untouched p i less (w ∷ ws) h =
    neither (eq_by_cmp path_cmp p (item_of w).path) (is_touched ws p) (by (path_cmp i.path (item_of w).path) refl (first _ _ h))
    (earlier_untouched p i less ws (second _ _ h))
  where
    neither : (a b : Bool) → a ≡ false → b ≡ false → (a || b) ≡ false
    neither true b g k = g
    neither false b g k = k

    by : (o : Ordering) → path_cmp i.path (item_of w).path ≡ o
        → is_lt (ordering_then o (option_cmp name_cmp i.name (item_of w).name)) ≡ true → eq_by_cmp path_cmp p (item_of w).path ≡ false
    by Less is k = ap is_eq (path_total.trans p i.path (item_of w).path less is)
    by Equal is k = ap is_eq (sym (alike_right path_total i.path (item_of w).path p is) ∙ less)
    by Greater is k = absurd (false≢true k)

-- ---- what a write made again makes of the node at p

abbrev pub again_at : Path → Option Node → Write → Option Node
again_at p o (Here q) = cond (eq_by_cmp path_cmp p q) (Some (unwrap_or o bare)) o
again_at p o (Gone q) = cond (eq_by_cmp path_cmp p q) None o
again_at p o (Put q n x) = cond (eq_by_cmp path_cmp p q) (option_map (λ node. with_property node n x) o) o
again_at p o (Unset q n) = cond (eq_by_cmp path_cmp p q) (option_map (λ node. without_property node n) o) o

-- writes elsewhere leave the node
pub again_elsewhere : (p : Path) (o : Option Node) (w : Write) → eq_by_cmp path_cmp p (item_of w).path ≡ false → again_at p o w ≡ o
again_elsewhere p o (Here q) h = ap (λ b. cond b (Some (unwrap_or o bare)) o) h
again_elsewhere p o (Gone q) h = ap (λ b. cond b None o) h
again_elsewhere p o (Put q n x) h = ap (λ b. cond b (option_map (λ node. with_property node n x) o) o) h
again_elsewhere p o (Unset q n) h = ap (λ b. cond b (option_map (λ node. without_property node n) o) o) h

pub all_elsewhere : (p : Path) (o : Option Node) (ws : List Write) → is_touched ws p ≡ false → fold (again_at p) o ws ≡ o
all_elsewhere p o [] h = refl
all_elsewhere p o (w ∷ ws) h =
    all_elsewhere p (again_at p o w) ws (second_of_neither (eq_by_cmp path_cmp p (item_of w).path) _ h)
    ∙ again_elsewhere p o w (first_of_neither (eq_by_cmp path_cmp p (item_of w).path) _ h)

-- where a node stands after writes of another, it stands after them of one that is there
pub more_stand : (p : Path) (ws : List Write) (a b : Option Node) → (is_some a ≡ true → is_some b ≡ true)
    → is_some (fold (again_at p) a ws) ≡ true → is_some (fold (again_at p) b ws) ≡ true
more_stand p [] a b h there = h there
more_stand p (w ∷ ws) a b h there = more_stand p ws (again_at p a w) (again_at p b w) (step w) there
  where
    changed : (f : Node → Node) (c : Bool) → is_some (cond c (option_map f a) a) ≡ true → is_some (cond c (option_map f b) b) ≡ true
    changed f true k = some_mapped f b ∙ h (sym (some_mapped f a) ∙ k)
    changed f false k = h k

    come_to : (c : Bool) → is_some (cond c (Some (unwrap_or a bare)) a) ≡ true → is_some (cond c (Some (unwrap_or b bare)) b) ≡ true
    come_to true k = refl
    come_to false k = h k

    go_from : (c : Bool) → is_some {T = Node} (cond c None a) ≡ true → is_some {T = Node} (cond c None b) ≡ true
    go_from true k = k
    go_from false k = h k

    step : (w : Write) → is_some (again_at p a w) ≡ true → is_some (again_at p b w) ≡ true
    step (Here q) k = come_to (eq_by_cmp path_cmp p q) k
    step (Gone q) k = go_from (eq_by_cmp path_cmp p q) k
    step (Put q n x) k = changed (λ node. with_property node n x) (eq_by_cmp path_cmp p q) k
    step (Unset q n) k = changed (λ node. without_property node n) (eq_by_cmp path_cmp p q) k

-- ---- one pass

neither_of : {X : Type 0} (a b : Option X) → option_or a b ≡ None → (a ≡ None) × (b ≡ None)
neither_of None b h = (refl, h)
neither_of (Some x) b h = absurd (false≢true (sym (ap is_some h)))

-- where the node at p isn't written, it comes and goes by none
none_comes : (p : Path) (o : Option Node) (ws : List Write) → written (here_of p) ws ≡ None → fold (come None p) o ws ≡ o
none_comes p o [] h = refl
none_comes p o (w ∷ ws) h =
    let none = neither_of (written (here_of p) ws) (here_of p w) h in
    ap (λ (x : Option Node). fold (come None p) x ws) (by w none.1) ∙ none_comes p o ws none.0
  where
    by : (w : Write) → here_of p w ≡ None → come None p o w ≡ o
    by (Here q) k = at (eq_by_cmp path_cmp p q) k
      where
        at : (b : Bool) → cond b (Some true) None ≡ None → cond b (Some (record { props = props_of o; born = None })) o ≡ o
        at true k = absurd (false≢true (sym (ap is_some k)))
        at false k = refl
    by (Gone q) k = at (eq_by_cmp path_cmp p q) k
      where
        at : (b : Bool) → cond b (Some false) None ≡ None → cond b None o ≡ o
        at true k = absurd (false≢true (sym (ap is_some k)))
        at false k = refl
    by (Put q n x) k = refl
    by (Unset q n) k = refl

-- one pass over the writes is enough for the node at p, where a node that comes isn't there before
abbrev IsOnePass : Path → List Write → Type 0
IsOnePass p ws = (o : Option Node) → (written (here_of p) ws ≡ Some true → o ≡ None)
    → fold (filled p) (fold (come None p) o ws) ws ≡ fold (again_at p) o ws

-- one pass over writes that rise makes of a node what a pass over the nodes and one over their properties make of it,
-- where a node that comes isn't there before
one_pass : (p : Path) (ws : List Write) → ItemsRise ws → IsOnePass p ws
one_pass p [] rise o new = refl
one_pass p (w ∷ ws) rise o new = by w (first _ _ rise) new (one_pass p ws (second _ _ rise))
  where
    no_later : (q : Path) (n : Option Name) → eq_by_cmp path_cmp p q ≡ true
        → below_all item_cmp (record { path = q; name = n }) (by_items ws) ≡ true → written (here_of p) ws ≡ None
    no_later q n h above = ap (λ (r : Path). written (here_of r) ws) (same_path p q h) ∙ later_nodes q n ws above

    never : written (here_of p) ws ≡ None → written (here_of p) ws ≡ Some true → {X : Type 0} → X
    never none k = absurd (false≢true (ap is_some (sym none ∙ k)))

    changed : (f : Node → Node) (q : Path) (n : Name) → below_all item_cmp (record { path = q; name = Some n }) (by_items ws) ≡ true
        → (option_or (written (here_of p) ws) None ≡ Some true → o ≡ None) → IsOnePass p ws → (b : Bool) → eq_by_cmp path_cmp p q ≡ b
        → fold (filled p) (cond b (option_map f (fold (come None p) o ws)) (fold (come None p) o ws)) ws
        ≡ fold (again_at p) (cond b (option_map f o) o) ws
    changed f q n above new rest true h =
        let none = no_later q (Some n) h above in
        ap (λ (x : Option Node). fold (filled p) (option_map f x) ws) (none_comes p o ws none)
        ∙ (ap (λ (x : Option Node). fold (filled p) x ws) (sym (none_comes p (option_map f o) ws none))
        ∙ rest (option_map f o) (λ k. never none k))
    changed f q n above new rest false h = rest o (λ k. new (or_none _ ∙ k))

    by : (w : Write) → below_all item_cmp (item_of w) (by_items ws) ≡ true → (option_or (written (here_of p) ws) (here_of p w) ≡ Some true → o ≡ None)
        → IsOnePass p ws → fold (filled p) (filled p (fold (come None p) (come None p o w) ws) w) ws ≡ fold (again_at p) (again_at p o w) ws
    by (Here q) above new rest = at (eq_by_cmp path_cmp p q) refl
      where
        at : (b : Bool) → eq_by_cmp path_cmp p q ≡ b
            → fold (filled p) (fold (come None p) (cond b (Some (record { props = props_of o; born = None })) o) ws) ws
            ≡ fold (again_at p) (cond b (Some (unwrap_or o bare)) o) ws
        at true h =
            let none = no_later q None h above in
            let free : o ≡ None = new (ap (λ (x : Option Bool). option_or x (here_of p (Here q))) none ∙ ap (λ b. cond b (Some true) None) h) in
            ap (λ (x : Option Node). fold (filled p) (fold (come None p) (Some (record { props = props_of x; born = None })) ws) ws) free
            ∙ (rest (Some bare) (λ k. never none k)
            ∙ ap (λ (x : Option Node). fold (again_at p) (Some (unwrap_or x bare)) ws) (sym free))
        at false h = rest o (λ k. new (ap (λ b. option_or (written (here_of p) ws) (cond b (Some true) None)) h ∙ (or_none _ ∙ k)))
    by (Gone q) above new rest = at (eq_by_cmp path_cmp p q) refl
      where
        at : (b : Bool) → eq_by_cmp path_cmp p q ≡ b
            → fold (filled p) (fold (come None p) (cond b None o) ws) ws ≡ fold (again_at p) (cond b None o) ws
        at true h = rest None (λ k. refl)
        at false h = rest o (λ k. new (ap (λ b. option_or (written (here_of p) ws) (cond b (Some false) None)) h ∙ (or_none _ ∙ k)))
    by (Put q n x) above new rest = changed (λ node. with_property node n x) q n above new rest (eq_by_cmp path_cmp p q) refl
    by (Unset q n) above new rest = changed (λ node. without_property node n) q n above new rest (eq_by_cmp path_cmp p q) refl

-- ---- an edit that rises

-- where each item is written once, each write is the last of its item
last_once : (ws : List Write) → is_once ws ≡ true → last_writes ws ≡ ws
last_once [] h = refl
last_once (w ∷ ws) h =
    ap (λ b. cond b (last_writes ws) (w ∷ last_writes ws)) (not_any (list_any (is_same_item w) ws) (first _ _ h))
    ∙ ap (λ (us : List Write). w ∷ us) (last_once ws (second _ _ h))
  where
    not_any : (b : Bool) → not b ≡ true → b ≡ false
    not_any true k = absurd (false≢true k)
    not_any false k = refl

-- a node that comes isn't there before
came_new : (t u : Nodes) (p : Path) (ws : List Write) → list_all (is_change t u) ws ≡ true → written (here_of p) ws ≡ Some true
    → node_at t p ≡ None
came_new t u p [] h is = absurd (false≢true (ap is_some is))
came_new t u p (w ∷ ws) h is = by (written (here_of p) ws) refl is (came_new t u p ws (second _ _ h))
  where
    here : (w : Write) → is_change t u w ≡ true → here_of p w ≡ Some true → node_at t p ≡ None
    here (Here q) k e = at (eq_by_cmp path_cmp p q) refl e
      where
        at : (b : Bool) → eq_by_cmp path_cmp p q ≡ b → cond b (Some true) None ≡ Some true → node_at t p ≡ None
        at true g e = ap (node_at t) (same_path p q g) ∙ none_tested (node_at t q) (first _ _ k)
        at false g e = absurd (false≢true (ap is_some e))
    here (Gone q) k e = at (eq_by_cmp path_cmp p q) e
      where
        at : (b : Bool) → cond b (Some false) None ≡ Some true → node_at t p ≡ None
        at true e = absurd (false≢true (ap (λ (o : Option Bool). unwrap_or o true) e))
        at false e = absurd (false≢true (ap is_some e))
    here (Put q n x) k e = absurd (false≢true (ap is_some e))
    here (Unset q n) k e = absurd (false≢true (ap is_some e))

    by : (o : Option Bool) → written (here_of p) ws ≡ o → option_or o (here_of p w) ≡ Some true
        → (written (here_of p) ws ≡ Some true → node_at t p ≡ None) → node_at t p ≡ None
    by (Some b) at e rest = rest (at ∙ e)
    by None at e rest = here w (first _ _ h) e

-- one pass over a proper edit that rises makes of each node what the edit does
pub passes : (t : Nodes) → InOrder t → (ws : List Write) → IsProper t ws → ItemsRise ws → (p : Path)
    → fold (again_at p) (node_at t p) ws ≡ node_at (applied None t ws) p
passes t sorted ws proper rise p =
    sym (one_pass p ws rise (node_at t p) (came_new t (applied None t ws) p ws proper.changing))
    ∙ (ap (λ (us : List Write). fold (filled p) (fold (come None p) (node_at t p) us) us) (sym (last_once ws proper.once))
    ∙ sym (node_at-applied None p t ws sorted))
