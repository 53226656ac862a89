-- A view, made by going over the tree's nodes and the changes side by side.
use Rattle.std.proofs.Common.{◌≡◌, Bool, true, false, cond, List, [], ◌∷◌, ◌++◌, Option, None, Some, ℕ, ◌+◌, ◌-◌, ◌<◌, ◌≤◌, arith, length, drop, take, get_or, map, refl, sym, ap, ◌∙◌, append_assoc, append-nil}
use Rattle.std.specs.declared.cmp.Ordering.{Ordering}
use Rattle.std.specs.declared.cmp.Ordering.TheVariants.{Less, Equal, Greater}
use Rattle.std.specs.Ordering.{is_eq, is_lt, match_ordering, ordering_reverse}
use Rattle.std.specs.Map.{remove_entry}
use Rattle.std.specs.BTreeMap.{is_at, insert_entry}
use Rattle.std.specs.List.{filter, list_all}
use Rattle.std.specs.FinMap.{is_sorted}
use Rattle.std.specs.FinMap.Entries.{below_all}
use Rattle.std.proofs.lemmas.Bool.{false≢true, false_from_ne_true}
use Rattle.std.proofs.lemmas.List.{drop-drop, drop_more, drop_all, length-drop, take_all}
use Rattle.std.proofs.lemmas.List.Elements.{filter-append}
use Rattle.jr_path.specs.Names.{path_cmp, is_under}
use Rattle.jr_path.specs.declared.path.Path.{Path}
use Rattle.jr_path.proofs.Maps.{path_exact, path_total}
use Rattle.jr_tree.specs.declared.tree.Node.{Node}
use Rattle.jr_tree.specs.Trees.{Nodes, subtree_of}
use Rattle.jr_tree.proofs.Entries.{both, exactly, first, second, sorted_filter, sorted_insert, sorted_remove}
use Rattle.basics.proofs.Orders.{less_of}
use Rattle.jr_overlay.specs.declared.overlay.Change.{Change}
use Rattle.jr_overlay.specs.Overlays.{Changed, view_of, with_node_at}
use Rattle.jr_overlay.specs.Merging.{before, behind, changes_under, node_there}

-- ---- one node in the place of what stands at a path

reversed : (p q : Path) (o : Ordering) → path_cmp p q ≡ o → path_cmp q p ≡ ordering_reverse o
reversed p q o h = path_total.antisymm q p ∙ ap ordering_reverse h

-- what is before a path below all is below all
pub below_of : {X : Type 0} (p q : Path) (es : List (Path × X)) → path_cmp p q ≡ Less → below_all path_cmp q es ≡ true → below_all path_cmp p es ≡ true
below_of p q [] h g = refl
below_of p q (e ∷ es) h g =
    both _ _ (ap is_lt (path_total.trans p q e.0 h (less_of _ (first _ _ g)))) (below_of p q es h (second _ _ g))

-- what p is below of stands behind it
none_before : (p : Path) (t : Nodes) → below_all path_cmp p t ≡ true → before p t ≡ []
none_before p [] h = refl
none_before p (e ∷ t) h =
    ap (λ o. cond (is_lt o) (e ∷ before p t) (before p t)) (reversed p e.0 Less (less_of _ (first _ _ h)))
    ∙ none_before p t (second _ _ h)

all_behind : (p : Path) (t : Nodes) → below_all path_cmp p t ≡ true → behind p t ≡ t
all_behind p [] h = refl
all_behind p (e ∷ t) h =
    ap (λ b. cond b (e ∷ behind p t) (behind p t)) (first _ _ h) ∙ ap (λ (u : Nodes). e ∷ u) (all_behind p t (second _ _ h))

-- nodes from one on that isn't before p
pub front_none : (p : Path) (e : Path × Node) (t : Nodes) → is_sorted path_cmp (e ∷ t) ≡ true → is_lt (path_cmp e.0 p) ≡ false → before p (e ∷ t) ≡ []
front_none p e t s h = by (path_cmp p e.0) refl
  where
    on : before p t ≡ [] → before p (e ∷ t) ≡ []
    on rest = ap (λ b. cond b (e ∷ before p t) (before p t)) h ∙ rest

    by : (o : Ordering) → path_cmp p e.0 ≡ o → before p (e ∷ t) ≡ []
    by Less g = on (none_before p t (below_of p e.0 t g (first _ _ s)))
    by Equal g = on (none_before p t (ap (λ q. below_all path_cmp q t) (path_exact p e.0 g) ∙ first _ _ s))
    by Greater g = absurd (false≢true (sym h ∙ ap is_lt (reversed p e.0 Greater g)))

abbrev Parts : Nodes → Path → Type 0
Parts t p = ((n : Node) → insert_entry path_cmp t p n ≡ before p t ++ (p, n) ∷ behind p t) × (remove_entry (is_at (path_cmp p)) t ≡ before p t ++ behind p t)

parts_below : (p : Path) (e : Path × Node) (t : Nodes) → path_cmp p e.0 ≡ Less → below_all path_cmp e.0 t ≡ true → Parts t p → Parts (e ∷ t) p
parts_below p e t h g rest =
    let back : path_cmp e.0 p ≡ Greater = reversed p e.0 Less h in
    let over : below_all path_cmp p t ≡ true = below_of p e.0 t h g in
    let gone : before p (e ∷ t) ≡ [] = ap (λ o. cond (is_lt o) (e ∷ before p t) (before p t)) back ∙ none_before p t over in
    let kept : behind p (e ∷ t) ≡ e ∷ t = ap (λ o. cond (is_lt o) (e ∷ behind p t) (behind p t)) h ∙ ap (λ (u : Nodes). e ∷ u) (all_behind p t over) in (
      (λ n. ap (λ o. match_ordering o ((p, n) ∷ e ∷ t) ((e.0, n) ∷ t) (e ∷ insert_entry path_cmp t p n)) h
          ∙ (ap (λ (u : Nodes). (p, n) ∷ u) (sym kept) ∙ ap (λ (u : Nodes). u ++ (p, n) ∷ behind p (e ∷ t)) (sym gone))),
      ap (λ o. cond (is_eq o) t (e ∷ remove_entry (is_at (path_cmp p)) t)) h
          ∙ (ap (λ (u : Nodes). e ∷ u) (rest.1 ∙ (ap (λ (u : Nodes). u ++ behind p t) (none_before p t over) ∙ all_behind p t over))
          ∙ (sym kept ∙ ap (λ (u : Nodes). u ++ behind p (e ∷ t)) (sym gone))),
    )

parts_at : (p : Path) (e : Path × Node) (t : Nodes) → path_cmp p e.0 ≡ Equal → below_all path_cmp e.0 t ≡ true → Parts (e ∷ t) p
parts_at p e t h g =
    let back : path_cmp e.0 p ≡ Equal = reversed p e.0 Equal h in
    let same : p ≡ e.0 = path_exact p e.0 h in
    let over : below_all path_cmp p t ≡ true = ap (λ q. below_all path_cmp q t) same ∙ g in
    let gone : before p (e ∷ t) ≡ [] = ap (λ o. cond (is_lt o) (e ∷ before p t) (before p t)) back ∙ none_before p t over in
    let kept : behind p (e ∷ t) ≡ t = ap (λ o. cond (is_lt o) (e ∷ behind p t) (behind p t)) h ∙ all_behind p t over in (
      (λ n. ap (λ o. match_ordering o ((p, n) ∷ e ∷ t) ((e.0, n) ∷ t) (e ∷ insert_entry path_cmp t p n)) h
          ∙ (ap (λ q. (q, n) ∷ t) (sym same)
          ∙ (ap (λ (u : Nodes). (p, n) ∷ u) (sym kept) ∙ ap (λ (u : Nodes). u ++ (p, n) ∷ behind p (e ∷ t)) (sym gone)))),
      ap (λ o. cond (is_eq o) t (e ∷ remove_entry (is_at (path_cmp p)) t)) h
          ∙ (sym kept ∙ ap (λ (u : Nodes). u ++ behind p (e ∷ t)) (sym gone)),
    )

parts_above : (p : Path) (e : Path × Node) (t : Nodes) → path_cmp p e.0 ≡ Greater → Parts t p → Parts (e ∷ t) p
parts_above p e t h rest =
    let back : path_cmp e.0 p ≡ Less = reversed p e.0 Greater h in
    let kept : before p (e ∷ t) ≡ e ∷ before p t = ap (λ o. cond (is_lt o) (e ∷ before p t) (before p t)) back in
    let gone : behind p (e ∷ t) ≡ behind p t = ap (λ o. cond (is_lt o) (e ∷ behind p t) (behind p t)) h in (
      (λ n. ap (λ o. match_ordering o ((p, n) ∷ e ∷ t) ((e.0, n) ∷ t) (e ∷ insert_entry path_cmp t p n)) h
          ∙ (ap (λ (u : Nodes). e ∷ u) (rest.0 n)
          ∙ (ap (λ (u : Nodes). e ∷ (before p t ++ (p, n) ∷ u)) (sym gone) ∙ ap (λ (u : Nodes). u ++ (p, n) ∷ behind p (e ∷ t)) (sym kept)))),
      ap (λ o. cond (is_eq o) t (e ∷ remove_entry (is_at (path_cmp p)) t)) h
          ∙ (ap (λ (u : Nodes). e ∷ u) rest.1
          ∙ (ap (λ (u : Nodes). e ∷ (before p t ++ u)) (sym gone) ∙ ap (λ (u : Nodes). u ++ behind p (e ∷ t)) (sym kept))),
    )

parts : (t : Nodes) (p : Path) → is_sorted path_cmp t ≡ true → Parts t p
parts [] p s = (λ n. refl, refl)
parts (e ∷ t) p s = by (path_cmp p e.0) refl (parts t p (second _ _ s))
  where
    by : (o : Ordering) → path_cmp p e.0 ≡ o → Parts t p → Parts (e ∷ t) p
    by Less h rest = parts_below p e t h (first _ _ s) rest
    by Equal h rest = parts_at p e t h (first _ _ s)
    by Greater h rest = parts_above p e t h rest

-- what stands before p, the node that is put there, and what stands behind it
pub parted : (t : Nodes) (p : Path) (x : Option Node) → is_sorted path_cmp t ≡ true → with_node_at t p x ≡ before p t ++ (node_there p x ++ behind p t)
parted t p None s = (parts t p s).1
parted t p (Some n) s = (parts t p s).0 n

pub sorted_with : (t : Nodes) (p : Path) (x : Option Node) → is_sorted path_cmp t ≡ true → is_sorted path_cmp (with_node_at t p x) ≡ true
sorted_with t p None s = sorted_remove path_cmp (is_at (path_cmp p)) t s
sorted_with t p (Some n) s = sorted_insert path_cmp path_total p n t s

pub sorted_view : (t : Nodes) (c : Changed) → is_sorted path_cmp t ≡ true → is_sorted path_cmp (view_of t c) ≡ true
sorted_view t [] s = s
sorted_view t (e ∷ c) s = sorted_view (with_node_at t e.0 e.1.new) c (sorted_with t e.0 e.1.new s)

-- ---- what stands before all changes stays before all

lead_one : (f : Path × Node) (t : Nodes) (q : Path) (x : Option Node) → is_lt (path_cmp f.0 q) ≡ true → with_node_at (f ∷ t) q x ≡ f ∷ with_node_at t q x
lead_one f t q None h = ap (λ o. cond (is_eq o) t (f ∷ remove_entry (is_at (path_cmp q)) t)) (reversed f.0 q Less (less_of _ h))
lead_one f t q (Some n) h = ap (λ o. match_ordering o ((q, n) ∷ f ∷ t) ((f.0, n) ∷ t) (f ∷ insert_entry path_cmp t q n)) (reversed f.0 q Less (less_of _ h))

lead : (f : Path × Node) (t : Nodes) (es : Changed) → below_all path_cmp f.0 es ≡ true → view_of (f ∷ t) es ≡ f ∷ view_of t es
lead f t [] h = refl
lead f t (e ∷ es) h =
    ap (λ (u : Nodes). view_of u es) (lead_one f t e.0 e.1.new (first _ _ h)) ∙ lead f (with_node_at t e.0 e.1.new) es (second _ _ h)

abbrev AllBelow : Nodes → Changed → Type 0
AllBelow fs es = list_all (λ f. below_all path_cmp f.0 es) fs ≡ true

lead_all : (fs t : Nodes) (es : Changed) → AllBelow fs es → view_of (fs ++ t) es ≡ fs ++ view_of t es
lead_all [] t es h = refl
lead_all (f ∷ fs) t es h = lead f (fs ++ t) es (first _ _ h) ∙ ap (λ (u : Nodes). f ∷ u) (lead_all fs t es (second _ _ h))

before_below : (p : Path) (t : Nodes) (es : Changed) → below_all path_cmp p es ≡ true → AllBelow (before p t) es
before_below p [] es h = refl
before_below p (e ∷ t) es h = by (is_lt (path_cmp e.0 p)) refl (before_below p t es h)
  where
    by : (b : Bool) → is_lt (path_cmp e.0 p) ≡ b → AllBelow (before p t) es → AllBelow (cond b (e ∷ before p t) (before p t)) es
    by true g rest = both _ _ (below_of e.0 p es (less_of _ g) h) rest
    by false g rest = rest

there_below : (p : Path) (x : Option Node) (es : Changed) → below_all path_cmp p es ≡ true → AllBelow (node_there p x) es
there_below p None es h = refl
there_below p (Some n) es h = both _ _ h refl

view_step : (t : Nodes) (e : Path × Change) (es : Changed) → is_sorted path_cmp t ≡ true → below_all path_cmp e.0 es ≡ true
    → view_of t (e ∷ es) ≡ before e.0 t ++ (node_there e.0 e.1.new ++ view_of (behind e.0 t) es)
view_step t e es s h =
    ap (λ (u : Nodes). view_of u es) (parted t e.0 e.1.new s)
    ∙ (lead_all (before e.0 t) (node_there e.0 e.1.new ++ behind e.0 t) es (before_below e.0 t es h)
    ∙ ap (λ (u : Nodes). before e.0 t ++ u) (lead_all (node_there e.0 e.1.new) (behind e.0 t) es (there_below e.0 e.1.new es h)))

-- ---- going over both

-- what was found, and what is left of the nodes and of the changes
pub record IsMerge (t : Nodes) (c : Changed) (found rest : Nodes) (more : Changed) : Type 0 where
  pub whole : found ++ view_of rest more ≡ view_of t c
  pub nodes : is_sorted path_cmp rest ≡ true
  pub changes : is_sorted path_cmp more ≡ true

pub merge_begins : (t : Nodes) (c : Changed) (found rest : Nodes) (more : Changed) → is_sorted path_cmp t ≡ true → is_sorted path_cmp c ≡ true → found ≡ [] → rest ≡ t → more ≡ c → IsMerge t c found rest more
merge_begins t c found rest more s u none all both_all = rw (none, all, both_all) (record { whole = refl; nodes = s; changes = u })

pub merge_goes_on : (t : Nodes) (c : Changed) (found lent found' rest rest' : Nodes) (more more' : Changed) (e : Path × Change) → IsMerge t c found rest more → more ≡ e ∷ more'
    → lent ≡ found ++ before e.0 rest → found' ≡ lent ++ node_there e.0 e.1.new → rest' ≡ behind e.0 rest → IsMerge t c found' rest' more'
merge_goes_on t c found lent found' rest rest' more more' e so_far split front there back =
    let at : IsMerge t c found rest (e ∷ more') = rw split at so_far in
    record {
      whole =
          rw (there, front, back)
          (append_assoc (found ++ before e.0 rest) (node_there e.0 e.1.new) (view_of (behind e.0 rest) more')
          ∙ (append_assoc found (before e.0 rest) (node_there e.0 e.1.new ++ view_of (behind e.0 rest) more')
          ∙ (ap (λ (u : Nodes). found ++ u) (sym (view_step rest e more' at.nodes (first _ _ at.changes))) ∙ at.whole)));
      nodes = rw back (sorted_filter path_cmp (λ f. is_lt (path_cmp e.0 f.0)) rest at.nodes);
      changes = second _ _ at.changes;
    }

-- the same, as the code goes over a list that is lent
pub merge_on : {A : Type 0} (f : A → Path × Node) (t : Nodes) (c : Changed) (known sliced : List A) (from passed : ℕ) (found lent found' : Nodes) (more more' : Changed) (e : Path × Change) → IsMerge t c found (map f (drop from known)) more → more ≡ e ∷ more' → sliced ≡ drop from known
    → lent ≡ found ++ before e.0 (map f sliced) → found' ≡ lent ++ node_there e.0 e.1.new → map f (drop passed sliced) ≡ behind e.0 (map f sliced) → IsMerge t c found' (map f (drop (from + passed) known)) more'
merge_on f t c known sliced from passed found lent found' more more' e so_far split same front there back =
    merge_goes_on t c found lent found' (map f (drop from known)) _ more more' e so_far split (front ∙ ap (λ (ks : List _). found ++ before e.0 (map f ks)) same) there
    (sym (ap (map f) (drop-drop passed from known)) ∙ (ap (λ (ks : List _). map f (drop passed ks)) (sym same) ∙ (back ∙ ap (λ (ks : List _). behind e.0 (map f ks)) same)))

-- what a slice from an index on has
pub slice_from : {A : Type 0} (xs : List A) (i : ℕ) → take (length xs - i) (drop i xs) ≡ drop i xs
slice_from xs i = take_all (length xs - i) (drop i xs) (omega (arith, length-drop i xs))

pub merge_ends : (t : Nodes) (c : Changed) (found rest : Nodes) (more : Changed) (all : Nodes) → IsMerge t c found rest more → more ≡ [] → all ≡ found ++ rest → all ≡ view_of t c
merge_ends t c found rest more all so_far none put =
    put ∙ (ap (λ (d : Changed). found ++ view_of rest d) (sym none) ∙ so_far.whole)

-- what is left of a list at an index
pub left_at : {A B : Type 0} (f : A → B) (xs : List A) (i : ℕ) (x : A) → i < length xs → x ≡ get_or xs i x → map f (drop i xs) ≡ f x ∷ map f (drop (i + 1) xs)
left_at f xs i x below at = ap (map f) (drop_more xs i x below ∙ ap (λ y. y ∷ drop (i + 1) xs) (sym at))

pub left_none : {A B : Type 0} (f : A → B) (xs : List A) (i : ℕ) → length xs ≤ i → map f (drop i xs) ≡ []
left_none f xs i end = ap (map f) (drop_all i xs end)

-- ---- the nodes before a path

-- what was lent, and what is left
pub record IsLent (p : Path) (begun all found rest : Nodes) : Type 0 where
  pub whole : found ++ before p rest ≡ begun ++ before p all
  pub back : behind p rest ≡ behind p all
  pub sorted : is_sorted path_cmp rest ≡ true

pub lent_begins : (p : Path) (found all : Nodes) → is_sorted path_cmp all ≡ true → IsLent p found all found all
lent_begins p found all s = record { whole = refl; back = refl; sorted = s }

pub lent_one_more : (p : Path) (begun all found found' rest more : Nodes) (e : Path × Node) → IsLent p begun all found rest → rest ≡ e ∷ more → path_cmp e.0 p ≡ Less → found' ≡ found ++ e ∷ [] → IsLent p begun all found' more
lent_one_more p begun all found found' rest more e so_far split less put =
    let at : IsLent p begun all found (e ∷ more) = rw split at so_far in
    record {
      whole = rw put (append_assoc found (e ∷ []) (before p more) ∙ (ap (λ o. found ++ cond (is_lt o) (e ∷ before p more) (before p more)) (sym less) ∙ at.whole));
      back = ap (λ o. cond (is_lt o) (e ∷ behind p more) (behind p more)) (sym (reversed e.0 p Less less)) ∙ at.back;
      sorted = second _ _ at.sorted;
    }

-- the first that is left isn't before p
pub lent_stops : (p : Path) (begun all found rest more : Nodes) (e : Path × Node) → IsLent p begun all found rest → rest ≡ e ∷ more → is_lt (path_cmp e.0 p) ≡ false → found ≡ begun ++ before p all
lent_stops p begun all found rest more e so_far split not_less =
    let at : IsLent p begun all found (e ∷ more) = rw split at so_far in
    sym (append-nil found) ∙ (ap (λ (u : Nodes). found ++ u) (sym (front_none p e more at.sorted not_less)) ∙ at.whole)

pub behind_at : (p : Path) (begun all found rest more : Nodes) (e : Path × Node) → IsLent p begun all found rest → rest ≡ e ∷ more → path_cmp e.0 p ≡ Equal → more ≡ behind p all
behind_at p begun all found rest more e so_far split same =
    let at : IsLent p begun all found (e ∷ more) = rw split at so_far in
    let over : below_all path_cmp p more ≡ true = ap (λ q. below_all path_cmp q more) (sym (path_exact e.0 p same)) ∙ first _ _ at.sorted in
    sym (all_behind p more over) ∙ (ap (λ o. cond (is_lt o) (e ∷ behind p more) (behind p more)) (sym (reversed e.0 p Equal same)) ∙ at.back)

pub behind_from : (p : Path) (begun all found rest more : Nodes) (e : Path × Node) → IsLent p begun all found rest → rest ≡ e ∷ more → path_cmp e.0 p ≡ Greater → rest ≡ behind p all
behind_from p begun all found rest more e so_far split over =
    let at : IsLent p begun all found (e ∷ more) = rw split at so_far in
    let back : path_cmp p e.0 ≡ Less = reversed e.0 p Greater over in
    split
    ∙ (ap (λ (u : Nodes). e ∷ u) (sym (all_behind p more (below_of p e.0 more back (first _ _ at.sorted))))
    ∙ (ap (λ o. cond (is_lt o) (e ∷ behind p more) (behind p more)) (sym back) ∙ at.back))

pub lent_ends : (p : Path) (begun all found rest : Nodes) → IsLent p begun all found rest → rest ≡ [] → found ≡ begun ++ before p all
lent_ends p begun all found rest so_far none = sym (append-nil found) ∙ (ap (λ (u : Nodes). found ++ before p u) (sym none) ∙ so_far.whole)

pub behind_end : (p : Path) (begun all found rest : Nodes) → IsLent p begun all found rest → rest ≡ [] → rest ≡ behind p all
behind_end p begun all found rest so_far none = none ∙ (ap (behind p) (sym none) ∙ so_far.back)

-- ---- the part of a view at or below a path

filters : {X : Type 0} (f g : X → Bool) (xs : List X) → filter f (filter g xs) ≡ filter g (filter f xs)
filters f g [] = refl
filters f g (x ∷ xs) = by (f x) refl (g x) refl (filters f g xs)
  where
    by : (a : Bool) → f x ≡ a → (b : Bool) → g x ≡ b → filter f (filter g xs) ≡ filter g (filter f xs)
        → filter f (cond b (x ∷ filter g xs) (filter g xs)) ≡ filter g (cond a (x ∷ filter f xs) (filter f xs))
    by true p true q rest = rw (p, q) (ap (λ ys. x ∷ ys) rest)
    by true p false q rest = rw q rest
    by false p true q rest = rw p rest
    by false p false q rest = rest

-- nothing stands at q among what is under p, where q isn't
none_there : (t : Nodes) (p q : Path) → is_under q p ≡ false → remove_entry (is_at (path_cmp q)) (subtree_of t p) ≡ subtree_of t p
none_there [] p q h = refl
none_there (e ∷ t) p q h = by (is_under e.0 p) refl (none_there t p q h)
  where
    by : (b : Bool) → is_under e.0 p ≡ b → remove_entry (is_at (path_cmp q)) (subtree_of t p) ≡ subtree_of t p
        → remove_entry (is_at (path_cmp q)) (cond b (e ∷ subtree_of t p) (subtree_of t p)) ≡ cond b (e ∷ subtree_of t p) (subtree_of t p)
    by true u rest =
        let apart : is_eq (path_cmp q e.0) ≡ false =
        false_from_ne_true _ (λ g. false≢true (sym h ∙ (ap (λ r. is_under r p) (path_exact q e.0 (exactly _ g)) ∙ u))) in
        ap (λ b. cond b (subtree_of t p) (e ∷ remove_entry (is_at (path_cmp q)) (subtree_of t p))) apart ∙ ap (λ (u : Nodes). e ∷ u) rest
    by false u rest = rest

under_one : (t : Nodes) (p q : Path) (x : Option Node) → is_sorted path_cmp t ≡ true → subtree_of (with_node_at t q x) p ≡ cond (is_under q p) (with_node_at (subtree_of t p) q x) (subtree_of t p)
under_one t p q x s =
    ap (λ (u : Nodes). subtree_of u p) (parted t q x s)
    ∙ (filter-append at_p (before q t) (node_there q x ++ behind q t)
    ∙ (ap (λ (u : Nodes). subtree_of (before q t) p ++ u) (filter-append at_p (node_there q x) (behind q t))
    ∙ (ap (λ (u : Nodes). u ++ (subtree_of (node_there q x) p ++ subtree_of (behind q t) p)) (filters at_p (λ e. is_lt (path_cmp e.0 q)) t)
    ∙ (ap (λ (u : Nodes). before q (subtree_of t p) ++ (subtree_of (node_there q x) p ++ u)) (filters at_p (λ e. is_lt (path_cmp q e.0)) t)
    ∙ by (is_under q p) refl x))))
  where
    at_p : Path × Node → Bool
    at_p e = is_under e.0 p

    in_order : is_sorted path_cmp (subtree_of t p) ≡ true
    in_order = sorted_filter path_cmp at_p t s

    by : (b : Bool) → is_under q p ≡ b → (x : Option Node) → before q (subtree_of t p) ++ (subtree_of (node_there q x) p ++ behind q (subtree_of t p)) ≡ cond b (with_node_at (subtree_of t p) q x) (subtree_of t p)
    by true u None = sym (parted (subtree_of t p) q None in_order)
    by true u (Some n) =
        ap (λ b. before q (subtree_of t p) ++ (cond b ((q, n) ∷ []) [] ++ behind q (subtree_of t p))) u
        ∙ sym (parted (subtree_of t p) q (Some n) in_order)
    by false u None = sym (parted (subtree_of t p) q None in_order) ∙ none_there t p q u
    by false u (Some n) =
        ap (λ b. before q (subtree_of t p) ++ (cond b ((q, n) ∷ []) [] ++ behind q (subtree_of t p))) u
        ∙ (sym (parted (subtree_of t p) q None in_order) ∙ none_there t p q u)

-- what is at or below p in a view: the changes there, made of what is there in the tree
pub view_under : (t : Nodes) (c : Changed) (p : Path) → is_sorted path_cmp t ≡ true → view_of (subtree_of t p) (changes_under c p) ≡ subtree_of (view_of t c) p
view_under t [] p s = refl
view_under t (e ∷ c) p s = by (is_under e.0 p) refl (view_under (with_node_at t e.0 e.1.new) c p (sorted_with t e.0 e.1.new s))
  where
    by : (b : Bool) → is_under e.0 p ≡ b → view_of (subtree_of (with_node_at t e.0 e.1.new) p) (changes_under c p) ≡ subtree_of (view_of (with_node_at t e.0 e.1.new) c) p
        → view_of (subtree_of t p) (cond b (e ∷ changes_under c p) (changes_under c p)) ≡ subtree_of (view_of (with_node_at t e.0 e.1.new) c) p
    by true h rest =
        ap (λ (u : Nodes). view_of u (changes_under c p)) (sym (under_one t p e.0 e.1.new s ∙ ap (λ b. cond b (with_node_at (subtree_of t p) e.0 e.1.new) (subtree_of t p)) h))
        ∙ rest
    by false h rest =
        ap (λ (u : Nodes). view_of u (changes_under c p)) (sym (under_one t p e.0 e.1.new s ∙ ap (λ b. cond b (with_node_at (subtree_of t p) e.0 e.1.new) (subtree_of t p)) h))
        ∙ rest

-- everything is under the root
pub all_under : (c : Changed) → changes_under c [] ≡ c
all_under [] = refl
all_under (e ∷ c) = ap (λ (d : Changed). e ∷ d) (all_under c)

pub all_nodes_under : (t : Nodes) → subtree_of t [] ≡ t
all_nodes_under [] = refl
all_nodes_under (e ∷ t) = ap (λ (u : Nodes). e ∷ u) (all_nodes_under t)

-- ---- lists that are lent

pub sorted_lent : {A X : Type 0} (f : A → Path × X) (xs ys : List A) (es : List (Path × X)) → xs ≡ ys → map f ys ≡ es → is_sorted path_cmp es ≡ true → is_sorted path_cmp (map f xs) ≡ true
sorted_lent f xs ys es same all s = ap (λ (zs : List _). is_sorted path_cmp (map f zs)) same ∙ (ap (is_sorted path_cmp) all ∙ s)

pub sorted_subtree : (t : Nodes) (p : Path) → is_sorted path_cmp t ≡ true → is_sorted path_cmp (subtree_of t p) ≡ true
sorted_subtree t p s = sorted_filter path_cmp (λ e. is_under e.0 p) t s

-- what was lent below p, with the changes there
pub below_is : {A : Type 0} (f : A → Path × Node) (t : Nodes) (c : Changed) (p : Path) (xs ys : List A) → xs ≡ ys → map f ys ≡ subtree_of t p → is_sorted path_cmp t ≡ true → view_of (map f xs) (changes_under c p) ≡ subtree_of (view_of t c) p
below_is f t c p xs ys same all s =
    ap (λ (zs : List _). view_of (map f zs) (changes_under c p)) same
    ∙ (ap (λ (u : Nodes). view_of u (changes_under c p)) all ∙ view_under t c p s)

-- what was lent below the root, with all changes
pub view_is : {A : Type 0} (f : A → Path × Node) (t : Nodes) (c : Changed) (root : Path) (xs ys zs ws : List A) → root ≡ [] → is_sorted path_cmp t ≡ true → xs ≡ ys → map f ys ≡ subtree_of t root → zs ≡ ws → map f ws ≡ view_of (map f xs) (changes_under c root) → map f zs ≡ view_of t c
view_is f t c root xs ys zs ws top s same all same' found =
    ap (map f) same' ∙ (found ∙ (below_is f t c root xs ys same all s ∙ (ap (subtree_of (view_of t c)) top ∙ all_nodes_under (view_of t c))))
