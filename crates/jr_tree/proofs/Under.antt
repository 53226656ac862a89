-- What is at or below a path: its nodes stand one after another, and its children are one name below.
use Rattle.std.proofs.Common.{◌≡◌, ℕ, ◌+◌, ◌-◌, ◌≤◌, Bool, true, false, cond, ◌&&◌, nat_eq, Option, ◌<◌, suc, get_or, map, List, [], ◌∷◌, length, take, drop, None, Some, refl, sym, ap, ◌∙◌, subst, ◌++◌, append_assoc, append-nil, arith}
use Rattle.std.specs.declared.cmp.Ordering.{Ordering}
use Rattle.std.specs.declared.cmp.Ordering.TheVariants.{Less, Equal, Greater}
use Rattle.std.specs.Ordering.{is_eq, is_le, eq_by_cmp, ordering_then, ordering_reverse}
use Rattle.std.specs.Cmp.Lexicographic.{pointwise, lists_ties}
use Rattle.std.specs.Option.{option_map_or}
use Rattle.std.specs.List.{filter, list_all, AllByRecursion, cons_option}
use Rattle.std.specs.List.Sorted.{IsStrictlySortedBy}
use Rattle.std.specs.Map.{keys_of}
use Rattle.std.specs.BTreeMap.Range.{range_contains, entries_between}
use Rattle.std.specs.declared.ops.Bound.TheVariants.{Included, Unbounded}
use Rattle.std.proofs.lemmas.Cmp.{nat_list_cmp_total}
use Rattle.std.proofs.lemmas.Bool.{false≢true, and_parts, and_from, false_from_ne_true, ne_eqb, eqb-true, eqb-false}
use Rattle.std.proofs.lemmas.List.{length-take-le, map-append, take_more, take_all, take-append-drop}
use Rattle.std.specs.BTreeMap.{insert_entry}
use Rattle.jr_path.proofs.Entries.{insert_entry_last}
use Rattle.std.proofs.lemmas.List.Elements.{filter_map-append}
use Rattle.jr_path.specs.Names.{name_cmp, path_cmp, last_name, is_under}
use Rattle.jr_path.specs.declared.name.Name.{Name}
use Rattle.jr_path.specs.declared.path.Path.{Path}
use Rattle.jr_path.proofs.Maps.{path_exact, path_total, name_exact}
use Rattle.std.specs.FinMap.{is_sorted}
use Rattle.jr_tree.specs.declared.tree.Node.{Node}
use Rattle.jr_tree.proofs.Entries.{rising, sorted_filter}
use Rattle.jr_tree.specs.Trees.{Nodes, is_child_of, children_of, subtree_of}
use Rattle.basics.proofs.Orders.{equal_of}
use Rattle.basics.proofs.Bools.{and_never}

and-true : (b : Bool) → (b && true) ≡ b
and-true true = refl
and-true false = refl

path_at : (p q : Path) → eq_by_cmp path_cmp p q ≡ true → p ≡ q
path_at p q h = path_exact p q (equal_of _ h)

-- what stands between a path and something under it is under it
pub under_between : (p q r : Path) → is_le (path_cmp p q) ≡ true → is_le (path_cmp q r) ≡ true → is_under r p ≡ true → is_under q p ≡ true
under_between [] q r above below h = refl
under_between (x ∷ p) [] r above below h = absurd (false≢true above)
under_between (x ∷ p) (y ∷ q) [] above below h = absurd (false≢true h)
under_between (x ∷ p) (y ∷ q) (z ∷ r) above below h =
    let parts : (eq_by_cmp name_cmp x z ≡ true) × (is_under r p ≡ true) = and_parts _ _ h in
    let same : x ≡ z = name_exact x z (equal_of _ parts.0) in
    let back : name_cmp y z ≡ ordering_reverse (name_cmp x y) = ap (name_cmp y) (sym same) ∙ nat_list_cmp_total.antisymm y x in
    by (name_cmp x y) above (ap (λ o. is_le (ordering_then o (path_cmp q r))) (sym back) ∙ below) (λ a b. under_between p q r a b parts.1)
  where
    by : (o : Ordering) → is_le (ordering_then o (path_cmp p q)) ≡ true → is_le (ordering_then (ordering_reverse o) (path_cmp q r)) ≡ true
        → (is_le (path_cmp p q) ≡ true → is_le (path_cmp q r) ≡ true → is_under q p ≡ true) → (is_eq o && is_under q p) ≡ true
    by Less a b rest = absurd (false≢true b)
    by Equal a b rest = rest a b
    by Greater a b rest = absurd (false≢true a)

-- what is under a path doesn't stand before it
pub under_from : (p q : Path) → is_under q p ≡ true → is_le (path_cmp p q) ≡ true
under_from [] [] h = refl
under_from [] (y ∷ q) h = refl
under_from (x ∷ p) [] h = absurd (false≢true h)
under_from (x ∷ p) (y ∷ q) h = by (name_cmp x y) (and_parts _ _ h).0 (under_from p q (and_parts _ _ h).1)
  where
    by : (o : Ordering) → is_eq o ≡ true → is_le (path_cmp p q) ≡ true → is_le (ordering_then o (path_cmp p q)) ≡ true
    by Less e u = absurd (false≢true e)
    by Equal e u = u
    by Greater e u = absurd (false≢true e)

-- the first n names of q are p exactly where q is under p and p has n names
above_is : (p q : Path) (n : ℕ) → n ≤ length q → eq_by_cmp path_cmp p (take n q) ≡ (is_under q p && nat_eq n (length p))
above_is p q n fits = by (nat_eq n (length p)) refl
  where
    by : (b : Bool) → nat_eq n (length p) ≡ b → eq_by_cmp path_cmp p (take n q) ≡ (is_under q p && b)
    by true e =
        let same : n ≡ length p = eqb-true n (length p) e in
        sym (lists_ties name_cmp (λ x y. refl) p (take n q)) ∙ (ap (λ k. pointwise (eq_by_cmp name_cmp) p (take k q)) same ∙ sym (and-true (is_under q p)))
    by false e =
        let apart : n ≡ length p → ⊥ = eqb-false n (length p) e in
        false_from_ne_true _ (λ h. apart (sym (length-take-le n q fits) ∙ ap length (sym (path_at p (take n q) h)))) ∙ sym (and_never (is_under q p))

-- a child is under its parent and one name longer
pub child_is : (p q : Path) → (length q ≡ 0 → ⊥) → is_child_of p q ≡ (is_under q p && nat_eq (length q - 1) (length p))
child_is p q some =
    ap (λ b. option_map_or (eq_by_cmp path_cmp p) (cond b None (Some (take (length q - 1) q))) false) (ne_eqb (length q) 0 some)
    ∙ above_is p q (length q - 1) (omega arith)

pub child_where : (p q : Path) (n m : ℕ) (b : Bool) → n ≡ length q → (n ≡ 0 → ⊥) → b ≡ is_under q p → m ≡ length p → (b && nat_eq (n - 1) m) ≡ is_child_of p q
child_where p q n m b long some under short = sym (child_is p q (λ e. some (long ∙ e)) ∙ rw (← under, ← long, ← short) refl)

-- the entries from a path on
abbrev pub is_from : Path → Path × Node → Bool
is_from p e = range_contains path_cmp (Included p) Unbounded e.0

all_filtered : {X : Type 0} (test : X → Bool) (xs : List X) → list_all test (filter test xs) ≡ true
all_filtered test [] = refl
all_filtered test (x ∷ xs) = by (test x) refl (all_filtered test xs)
  where
    by : (b : Bool) → test x ≡ b → list_all test (filter test xs) ≡ true → list_all test (cond b (x ∷ filter test xs) (filter test xs)) ≡ true
    by true e rest = and_from _ _ e rest
    by false e rest = rest

-- where an entry from p on isn't under p, none behind it is
none_under : (p : Path) (e : Path × Node) (es : Nodes) → is_from p e ≡ true → is_under e.0 p ≡ false → AllByRecursion (λ q. path_cmp e.0 q ≡ Less) (keys_of es) → subtree_of es p ≡ []
none_under p e [] from out above = refl
none_under p e (f ∷ es) from out above =
    let not_f : is_under f.0 p ≡ false =
    false_from_ne_true _ (λ h. false≢true (sym out ∙ under_between p e.0 f.0 ((and_parts _ _ from).0) (ap is_le above.0) h)) in
    ap (λ b. cond b (f ∷ subtree_of es p) (subtree_of es p)) not_f ∙ none_under p e es from out above.1

-- what is at or below p is from p on
subtree_from : (t : Nodes) (p : Path) → subtree_of (filter (is_from p) t) p ≡ subtree_of t p
subtree_from [] p = refl
subtree_from (e ∷ t) p = by (is_from p e) refl (subtree_from t p)
  where
    by : (b : Bool) → is_from p e ≡ b → subtree_of (filter (is_from p) t) p ≡ subtree_of t p → subtree_of (cond b (e ∷ filter (is_from p) t) (filter (is_from p) t)) p ≡ subtree_of (e ∷ t) p
    by true h rest = ap (λ (es : Nodes). cond (is_under e.0 p) (e ∷ es) es) rest
    by false h rest =
        let out : is_under e.0 p ≡ false = false_from_ne_true _ (λ u. false≢true (sym h ∙ and_from _ _ (under_from p e.0 u) refl)) in
        rest ∙ ap (λ b. cond b (e ∷ subtree_of t p) (subtree_of t p)) (sym out)

-- a search of what is at or below p in t: what was found, and what is left
pub record IsSearch (p : Path) (t found rest : Nodes) : Type 0 where
  pub whole : found ++ subtree_of rest p ≡ subtree_of t p
  pub sorted : IsStrictlySortedBy path_cmp (keys_of rest)
  pub from : list_all (is_from p) rest ≡ true

pub search_begins : (p : Path) (entries t found range rest : Nodes) → entries ≡ t → is_sorted path_cmp entries ≡ true → range ≡ entries_between path_cmp (Included p) Unbounded entries → rest ≡ range → found ≡ [] → IsSearch p t found rest
search_begins p entries t found range rest all sorted between same none =
    rw (none, same, between, ← all) (record { whole = subtree_from entries p; sorted = rising path_cmp _ (sorted_filter path_cmp (is_from p) entries sorted); from = all_filtered (is_from p) entries })

-- the next entry is found
pub search_goes_on : (p : Path) (t found found' rest more : Nodes) (e : Path × Node) → IsSearch p t found rest → rest ≡ e ∷ more → is_under e.0 p ≡ true → found' ≡ found ++ e ∷ [] → IsSearch p t found' more
unfolding IsStrictlySortedBy
search_goes_on p t found found' rest more e so_far first under new =
    let at : IsSearch p t found (e ∷ more) = subst (IsSearch p t found) first so_far in
    record {
      whole = rw new (append_assoc found (e ∷ []) (subtree_of more p) ∙ (ap (λ b. found ++ cond b (e ∷ subtree_of more p) (subtree_of more p)) (sym under) ∙ at.whole));
      sorted = at.sorted.1;
      from = (and_parts _ _ at.from).1;
    }

pub search_ends : (p : Path) (t found rest : Nodes) → IsSearch p t found rest → rest ≡ [] → found ≡ subtree_of t p
search_ends p t found rest so_far none = sym (append-nil found) ∙ (ap (λ (es : Nodes). found ++ subtree_of es p) (sym none) ∙ so_far.whole)

-- an entry isn't under p, so none behind it is
pub search_stops : (p : Path) (t found rest more : Nodes) (e : Path × Node) → IsSearch p t found rest → rest ≡ e ∷ more → is_under e.0 p ≡ false → found ≡ subtree_of t p
unfolding IsStrictlySortedBy
search_stops p t found rest more e so_far first out =
    let at : IsSearch p t found (e ∷ more) = subst (IsSearch p t found) first so_far in
    sym (append-nil found)
    ∙ (ap (λ (es : Nodes). found ++ es) (sym (none_under p e more (and_parts _ _ at.from).0 out at.sorted.0))
    ∙ (ap (λ b. found ++ cond b (e ∷ subtree_of more p) (subtree_of more p)) (sym out) ∙ at.whole))

-- ---- children

child_under : (p q : Path) → is_child_of p q ≡ true → is_under q p ≡ true
child_under p [] h = absurd (false≢true h)
child_under p (n ∷ q) h = (and_parts _ _ (sym (child_is p (n ∷ q) (λ e. nonzero (length q) e)) ∙ h)).0
  where
    nonzero : (k : ℕ) → suc k ≡ 0 → ⊥
    nonzero k e = absurd (omega arith)

pub children-subtree : (t : Nodes) (p : Path) → children_of (subtree_of t p) p ≡ children_of t p
children-subtree [] p = refl
children-subtree (e ∷ t) p = by (is_under e.0 p) refl (children-subtree t p)
  where
    by : (b : Bool) → is_under e.0 p ≡ b → children_of (subtree_of t p) p ≡ children_of t p → children_of (cond b (e ∷ subtree_of t p) (subtree_of t p)) p ≡ children_of (e ∷ t) p
    by true h rest = ap (λ (names : List Name). cons_option (cond (is_child_of p e.0) (last_name e.0) None) names) rest
    by false h rest =
        let none : is_child_of p e.0 ≡ false = false_from_ne_true _ (λ c. false≢true (sym h ∙ child_under p e.0 c)) in
        rest ∙ ap (λ b. cons_option (cond b (last_name e.0) None) (children_of t p)) (sym none)

-- the children among one more entry
pub children_more : {A : Type 0} (f : A → Path × Node) (p : Path) (xs : List A) (i : ℕ) (x : A) (old new : List Name) → i < length xs → x ≡ get_or xs i x → old ≡ children_of (map f (take i xs)) p
    → new ≡ old ++ cons_option (cond (is_child_of p (f x).0) (last_name (f x).0) None) [] → new ≡ children_of (map f (take (i + 1) xs)) p
children_more f p xs i x old new below at so_far pushed =
    pushed
    ∙ (ap (λ (names : List Name). names ++ children_of (f x ∷ []) p) so_far
    ∙ (sym (filter_map-append _ (map f (take i xs)) (f x ∷ []))
    ∙ ap (λ (es : Nodes). children_of es p) (sym (map-append f (take i xs) (x ∷ [])) ∙ ap (map f) (ap (λ y. take i xs ++ y ∷ []) at ∙ sym (take_more xs i x below)))))

pub one_more : (old new : List Name) (o : Option Name) (name copy : Name) → new ≡ old ++ copy ∷ [] → copy ≡ name → Some name ≡ o → new ≡ old ++ cons_option o []
one_more old new o name copy pushed same is = pushed ∙ (ap (λ n. old ++ n ∷ []) same ∙ ap (λ o. old ++ cons_option o []) is)

pub none_more : (old new : List Name) (o : Option Name) → new ≡ old → None ≡ o → new ≡ old ++ cons_option o []
none_more old new o same is = same ∙ (sym (append-nil old) ∙ ap (λ o. old ++ cons_option o []) is)

-- all were looked at
pub children_all : {A : Type 0} (f : A → Path × Node) (p : Path) (t : Nodes) (xs ys : List A) (i : ℕ) (names : List Name) → names ≡ children_of (map f (take i xs)) p → length xs ≤ i → xs ≡ ys → map f ys ≡ subtree_of t p → names ≡ children_of t p
children_all f p t xs ys i names so_far end same all =
    so_far ∙ (ap (λ (zs : List _). children_of (map f zs) p) (take_all i xs end ∙ same) ∙ (ap (λ (es : Nodes). children_of es p) all ∙ children-subtree t p))

-- ---- copies of entries in their order

-- what is put behind all others is one more entry of the list
pub copied_more : {A : Type 0} (f : A → Path × Node) (t : Nodes) (xs ys : List A) (i : ℕ) (x : A) (old new : Nodes) (path : Path) (node : Node) → i < length xs → x ≡ get_or xs i x → xs ≡ ys → map f ys ≡ t
    → is_sorted path_cmp t ≡ true → old ≡ map f (take i xs) → new ≡ insert_entry path_cmp old path node → path ≡ (f x).0 → node ≡ (f x).1 → new ≡ map f (take (i + 1) xs)
copied_more {A = A} f t xs ys i x old new path node below at same all sorted so_far put same_path same_node =
    let more : take (i + 1) xs ≡ take i xs ++ x ∷ [] = take_more xs i x below ∙ ap (λ y. take i xs ++ y ∷ []) (sym at) in
    let whole : map f (take i xs) ++ f x ∷ map f (drop (i + 1) xs) ≡ t =
    sym (append_assoc (map f (take i xs)) (f x ∷ []) (map f (drop (i + 1) xs)))
    ∙ (ap (λ (front : Nodes). front ++ map f (drop (i + 1) xs)) (sym (map-append f (take i xs) (x ∷ [])))
    ∙ (sym (map-append f (take i xs ++ x ∷ []) (drop (i + 1) xs))
    ∙ (ap (λ (front : List A). map f (front ++ drop (i + 1) xs)) (sym more)
    ∙ (ap (map f) (take-append-drop (i + 1) xs ∙ same) ∙ all)))) in
    put
    ∙ (ap (λ q. insert_entry path_cmp old q node) same_path
    ∙ (ap (insert_entry path_cmp old (f x).0) same_node
    ∙ (ap (λ (front : Nodes). insert_entry path_cmp front (f x).0 (f x).1) so_far
    ∙ (insert_entry_last path_cmp path_total (map f (take i xs)) (f x).0 (f x).1 (map f (drop (i + 1) xs)) (rw whole (rising path_cmp t sorted))
    ∙ (sym (map-append f (take i xs) (x ∷ [])) ∙ ap (map f) (sym more))))))

-- all were copied
pub copied_all : {A : Type 0} (f : A → Path × Node) (t : Nodes) (xs ys : List A) (i : ℕ) (new : Nodes) → length xs ≤ i → xs ≡ ys → map f ys ≡ t → new ≡ map f (take i xs) → new ≡ t
copied_all f t xs ys i new end same all so_far = so_far ∙ (ap (map f) (take_all i xs end ∙ same) ∙ all)

pub subtree_sorted : (entries t : Nodes) (p : Path) → entries ≡ t → is_sorted path_cmp entries ≡ true → is_sorted path_cmp (subtree_of t p) ≡ true
subtree_sorted entries t p all sorted = sorted_filter path_cmp (λ e. is_under e.0 p) t (rw (← all) sorted)
