-- Sets of ids, and the paths that they come to.
use Rattle.std.proofs.Common.{◌≡◌, ℕ, zero, suc, ◌+◌, ◌<◌, Bool, true, false, cond, ◌⊎◌, inl, inr, List, [], ◌∷◌, ◌++◌, length, drop, get_or, append-nil, length-append, take, Some, refl, sym, ap, subst, ◌∙◌, arith}
use Rattle.std.specs.Prelude.{◌||◌, ◌==◌, reverse, Contains, IsTrue, is_some}
use Rattle.std.specs.List.{AllByRecursion, list_any}
use Rattle.std.specs.Map.{keys_of, lookup}
use Rattle.std.specs.BTreeMap.{insert_entry, is_at}
use Rattle.std.specs.Ordering.{eq_by_cmp}
use Rattle.std.proofs.lemmas.Bool.{cases_lt, eqb-true, false≢true}
use Rattle.std.proofs.lemmas.Cmp.{eq_by_cmp_equiv}
use Rattle.std.proofs.lemmas.List.Sorted.{Contains-permutation, IsPermutation-reverse, IsPermutation-sym}
use Rattle.std.proofs.lemmas.Map.Views.{Contains-keys_from_lookup, IsSome-lookup_from_Contains}
use Rattle.std.specs.List.Sorted.{IsStrictlySortedBy}
use Rattle.std.specs.declared.cmp.Ordering.{Ordering}
use Rattle.std.specs.declared.cmp.Ordering.TheVariants.{Less}
use Rattle.std.proofs.lemmas.List.{reverse-append, take-append-drop, take_more}
use Rattle.std.proofs.lemmas.List.Folds.{list_any-append}
use Rattle.jr_path.specs.Ids.{id_cmp}
use Rattle.jr_path.specs.Names.{is_under}
use Rattle.jr_path.specs.declared.path.Path.{Path}
use Rattle.jr_path.specs.declared.path.DocId.{DocId}
use Rattle.jr_path.specs.declared.path.DocId.TheVariants as id
use Rattle.jr_path.proofs.Maps.{lookup-insert_entry}
use Rattle.jr_path.proofs.Orders.{id_exact, id_total, tested}
use Rattle.jr_path.proofs.Parts.{below_is_prefix}
use Rattle.oak_sync.specs.Upward.{AreUpward, backward_cmp, is_upward, node_paths}
use Rattle.oak_sync.specs.Sets.{Adds, HasUpward, IdSet, has_id}

-- the prefixes of a path that have fewer than k names are added
pub record AddsBelow (path : Path) (k : ℕ) (before after : IdSet) : Type 0 where
  pub kept : (x : DocId) → IsTrue (has_id before x) → IsTrue (has_id after x)
  pub put : (d : ℕ) → d < k → IsTrue (has_id after (id.Node (take d path)))
  pub only : (x : DocId) → IsTrue (has_id after x) → IsTrue (has_id before x) ⊎ ((p : Path) × (x ≡ id.Node p) × IsTrue (is_under path p))

abbrev with_id : IdSet → DocId → IdSet
with_id ids x = insert_entry id_cmp ids x tt

abbrev pub with_node : IdSet → Path → IdSet
with_node ids p = with_id ids (id.Node p)

-- what a set has with one more id
has_with : (ids : IdSet) (x y : DocId) → has_id (with_id ids x) y ≡ (eq_by_cmp id_cmp y x || has_id ids y)
has_with ids x y = ap is_some (lookup-insert_entry id_cmp id_total y x tt ids) ∙ by (eq_by_cmp id_cmp y x)
  where
    by : (b : Bool) → is_some (cond b (Some tt) (lookup (is_at (id_cmp y)) ids)) ≡ (b || has_id ids y)
    by true = refl
    by false = refl

same_id : (x y : DocId) → eq_by_cmp id_cmp y x ≡ true → y ≡ x
same_id x y h = (tested id_total id_exact y x).0 h

has_it : (ids : IdSet) (x : DocId) → IsTrue (has_id (with_id ids x) x)
has_it ids x = has_with ids x x ∙ ap (λ b. b || has_id ids x) ((tested id_total id_exact x x).1 refl)

or_right : (a b : Bool) → b ≡ true → (a || b) ≡ true
or_right true b h = refl
or_right false b h = h

or_cases : (a b : Bool) → (a || b) ≡ true → (a ≡ true) ⊎ (b ≡ true)
or_cases true b h = inl refl
or_cases false b h = inr h

has_still : (ids : IdSet) (x y : DocId) → IsTrue (has_id ids y) → IsTrue (has_id (with_id ids x) y)
has_still ids x y h = has_with ids x y ∙ or_right (eq_by_cmp id_cmp y x) (has_id ids y) h

has_which : (ids : IdSet) (x y : DocId) → IsTrue (has_id (with_id ids x) y) → (y ≡ x) ⊎ IsTrue (has_id ids y)
has_which ids x y h = by (or_cases (eq_by_cmp id_cmp y x) (has_id ids y) (sym (has_with ids x y) ∙ h))
  where
    by : (eq_by_cmp id_cmp y x ≡ true) ⊎ (has_id ids y ≡ true) → (y ≡ x) ⊎ IsTrue (has_id ids y)
    by (inl e) = inl (same_id x y e)
    by (inr e) = inr e

pub none_below : (path : Path) (ids : IdSet) → AddsBelow path 0 ids ids
none_below path ids = record { kept = λ x h. h; put = λ d less. absurd (omega (arith, less)); only = λ x h. inl h }

pub prefix_under : (path : Path) (d : ℕ) → IsTrue (is_under path (take d path))
prefix_under path d = (below_is_prefix path (take d path)).1 (drop d path, sym (take-append-drop d path))

-- one more prefix
pub one_more : (path : Path) (k : ℕ) (before ids after : IdSet) → AddsBelow path k before ids → after ≡ with_id ids (id.Node (take k path)) → AddsBelow path (k + 1) before after
one_more path k before ids after is e = subst (AddsBelow path (k + 1) before) (sym e) (record { kept = λ x h. has_still ids (id.Node (take k path)) x (is.kept x h); put = puts; only = onlys })
  where
    puts : (d : ℕ) → d < k + 1 → IsTrue (has_id (with_id ids (id.Node (take k path))) (id.Node (take d path)))
    puts d less = elim (cases_lt d k) [
      | inl below ↦ has_still ids (id.Node (take k path)) (id.Node (take d path)) (is.put d below)
      | inr above ↦ (let same : d ≡ k = omega (arith, less, above) in rw same (has_it ids (id.Node (take k path))))
    ]

    onlys : (x : DocId) → IsTrue (has_id (with_id ids (id.Node (take k path))) x) → IsTrue (has_id before x) ⊎ ((p : Path) × (x ≡ id.Node p) × IsTrue (is_under path p))
    onlys x h = by (has_which ids (id.Node (take k path)) x h)
      where
        by : (x ≡ id.Node (take k path)) ⊎ IsTrue (has_id ids x) → IsTrue (has_id before x) ⊎ ((p : Path) × (x ≡ id.Node p) × IsTrue (is_under path p))
        by (inl same) = inr (take k path, same, prefix_under path k)
        by (inr there) = is.only x there

whole : (p more : Path) → take (length p) (p ++ more) ≡ p
whole [] more = refl
whole (n ∷ p) more = ap (λ q. n ∷ q) (whole p more)

-- all prefixes, the path itself last
pub all_added : (path : Path) (k : ℕ) (before ids after : IdSet) → k ≡ length path → AddsBelow path k before ids → after ≡ with_id ids (id.Node path) → Adds path before after
all_added path k before ids after size is e = record { kept = last.kept; put = λ p h. puts p ((below_is_prefix path p).0 h); only = last.only }
  where
    last : AddsBelow path (k + 1) before after
    last = one_more path k before ids after is (e ∙ ap (λ p. with_id ids (id.Node p)) (sym (ap (λ n. take n path) size ∙ take_all_of path)))
      where
        take_all_of : (p : Path) → take (length p) p ≡ p
        take_all_of p = ap (take (length p)) (sym (append-nil p)) ∙ whole p []

    puts : (p : Path) → (more : Path) × (path ≡ p ++ more) → IsTrue (has_id after (id.Node p))
    puts p below =
        let short : length p + length below.0 ≡ length path = sym (length-append p below.0) ∙ sym (ap length below.1) in
        subst (λ q. IsTrue (has_id after (id.Node q))) (ap (take (length p)) below.1 ∙ whole p below.0) (last.put (length p) (omega (arith, short, size)))

-- ---- several paths

or_left : (a b : Bool) → a ≡ true → (a || b) ≡ true
or_left true b h = refl
or_left false b h = absurd (false≢true h)

root_is : (p : Path) → (length p == 0) ≡ true → p ≡ []
root_is [] h = refl
root_is (n ∷ p) h = absurd (omega (arith, eqb-true (length (n ∷ p)) 0 h))

under_itself : (p : Path) → IsTrue (is_under p p)
under_itself p = (below_is_prefix p p).1 ([], sym (append-nil p))

-- the root alone
pub root_upward : (ids : IdSet) → Adds [] [] ids → HasUpward [] ids
root_upward ids is = record {
  there = λ p h. by p (or_cases (length p == 0) false h);
  only = λ x h. which x (is.only x h);
}
  where
    by : (p : Path) → ((length p == 0) ≡ true) ⊎ (false ≡ true) → IsTrue (has_id ids (id.Node p))
    by p (inl e) = rw (root_is p e) (is.put [] (under_itself []))
    by p (inr e) = absurd (false≢true e)

    prefix_of_root : (p more : Path) → [] ≡ p ++ more → (length p == 0) ≡ true
    prefix_of_root [] more e = refl
    prefix_of_root (n ∷ p) more e = cc

    which : (x : DocId) → IsTrue (has_id [] x) ⊎ ((p : Path) × (x ≡ id.Node p) × IsTrue (is_under [] p)) → (p : Path) × (x ≡ id.Node p) × IsTrue (is_upward [] p)
    which x (inl h) = absurd (false≢true h)
    which x (inr h) = let below = (below_is_prefix [] h.0).0 h.2 in (h.0, h.1, or_left (length h.0 == 0) false (prefix_of_root h.0 below.0 below.1))

any_last : (f : Path → Bool) (ps : List Path) (q : Path) → list_any f (ps ++ q ∷ []) ≡ (list_any f ps || f q)
any_last f ps q = list_any-append f ps (q ∷ []) ∙ ap (λ b. list_any f ps || b) (or_false (f q))
  where
    or_false : (b : Bool) → (b || false) ≡ b
    or_false true = refl
    or_false false = refl

-- one more path
more_upward : (ps : List Path) (q : Path) (ids new : IdSet) → HasUpward ps ids → Adds q ids new → HasUpward (ps ++ q ∷ []) new
more_upward ps q ids new is adds = record {
  there = λ p h. by p (or_cases (length p == 0) (list_any (λ q. is_under q p) (ps ++ q ∷ [])) h);
  only = λ x h. which x (adds.only x h);
}
  where
    among : (p : Path) → (list_any (λ q. is_under q p) ps ≡ true) ⊎ (is_under q p ≡ true) → IsTrue (has_id new (id.Node p))
    among p (inl e) = adds.kept (id.Node p) (is.there p (or_right (length p == 0) (list_any (λ q. is_under q p) ps) e))
    among p (inr e) = adds.put p e

    by : (p : Path) → ((length p == 0) ≡ true) ⊎ (list_any (λ q. is_under q p) (ps ++ q ∷ []) ≡ true) → IsTrue (has_id new (id.Node p))
    by p (inl e) = adds.kept (id.Node p) (is.there p (or_left (length p == 0) (list_any (λ q. is_under q p) ps) e))
    by p (inr e) = among p (or_cases (list_any (λ q. is_under q p) ps) (is_under q p) (sym (any_last (λ q. is_under q p) ps q) ∙ e))

    still : (p : Path) → ((length p == 0) ≡ true) ⊎ (list_any (λ q. is_under q p) ps ≡ true) → IsTrue (is_upward (ps ++ q ∷ []) p)
    still p (inl e) = or_left (length p == 0) (list_any (λ q. is_under q p) (ps ++ q ∷ [])) e
    still p (inr e) = or_right (length p == 0) (list_any (λ q. is_under q p) (ps ++ q ∷ [])) (any_last (λ q. is_under q p) ps q ∙ or_left (list_any (λ q. is_under q p) ps) (is_under q p) e)

    which : (x : DocId) → IsTrue (has_id ids x) ⊎ ((p : Path) × (x ≡ id.Node p) × IsTrue (is_under q p)) → (p : Path) × (x ≡ id.Node p) × IsTrue (is_upward (ps ++ q ∷ []) p)
    which x (inl h) = let old = is.only x h in (old.0, old.1, still old.0 (or_cases (length old.0 == 0) (list_any (λ q. is_under q old.0) ps) old.2))
    which x (inr h) = (h.0, h.1, or_right (length h.0 == 0) (list_any (λ q. is_under q h.0) (ps ++ q ∷ [])) (any_last (λ q. is_under q h.0) ps q ∙ or_right (list_any (λ q. is_under q h.0) ps) (is_under q h.0) h.2))

pub next_upward : (ps : List Path) (i : ℕ) (q : Path) (ids new : IdSet) → i < length ps → q ≡ get_or ps i q → HasUpward (take i ps) ids → Adds q ids new → HasUpward (take (i + 1) ps) new
next_upward ps i q ids new less is upward adds = subst (λ qs. HasUpward qs new) (sym (take_more ps i q less ∙ ap (λ p. take i ps ++ p ∷ []) (sym is))) (more_upward (take i ps) q ids new upward adds)

-- ---- the list of them

pub first_of : {X : Type 0} (y x : X) (ys : List X) → y ≡ x → Contains (y ∷ ys) x
first_of y x ys same = (0, omega arith, same)

pub behind : {X : Type 0} (y x : X) (ys : List X) → Contains ys x → Contains (y ∷ ys) x
behind y x ys t = (suc t.0, omega (arith, t.1), t.2)

pub contains_cases : {X : Type 0} (y x : X) (ys : List X) → Contains (y ∷ ys) x → (y ≡ x) ⊎ Contains ys x
contains_cases {X} y x ys t = at t.0 t.1 t.2
  where
    at : (k : ℕ) → k < suc (length ys) → get_or (y ∷ ys) k x ≡ x → (y ≡ x) ⊎ Contains ys x
    at zero less is = inl is
    at (suc k) less is = inr (k, omega (arith, less), is)

pub contains_none : {X : Type 0} (x : X) → Contains [] x → ⊥
contains_none x t = omega (arith, t.1)

contains_paths : (ks : List DocId) (p : Path) → Contains ks (id.Node p) → Contains (node_paths ks) p
contains_paths [] p h = absurd (contains_none (id.Node p) h)
contains_paths (k ∷ ks) p h = by k (contains_cases k (id.Node p) ks h) (contains_paths ks p)
  where
    by : (k : DocId) → (k ≡ id.Node p) ⊎ Contains ks (id.Node p) → (Contains ks (id.Node p) → Contains (node_paths ks) p) → Contains (node_paths (k ∷ ks)) p
    by (id.Node q) (inl e) rest = first_of q p (node_paths ks) (ap (unwrapped q) e)
      where
        unwrapped : Path → DocId → Path
        unwrapped q (id.Node r) = r
        unwrapped q _ = q
    by (id.Node q) (inr t) rest = behind q p (node_paths ks) (rest t)
    by (id.Prev n q) (inl e) rest = cc
    by (id.Prev n q) (inr t) rest = rest t
    by id.Settings (inl e) rest = cc
    by id.Settings (inr t) rest = rest t

contains_ids : (ks : List DocId) (p : Path) → Contains (node_paths ks) p → Contains ks (id.Node p)
contains_ids [] p h = absurd (contains_none p h)
contains_ids (k ∷ ks) p h = by k h (contains_ids ks p)
  where
    node : (q : Path) → (q ≡ p) ⊎ Contains (node_paths ks) p → (Contains (node_paths ks) p → Contains ks (id.Node p)) → Contains (id.Node q ∷ ks) (id.Node p)
    node q (inl e) rest = first_of (id.Node q) (id.Node p) ks (ap id.Node e)
    node q (inr t) rest = behind (id.Node q) (id.Node p) ks (rest t)

    by : (k : DocId) → Contains (node_paths (k ∷ ks)) p → (Contains (node_paths ks) p → Contains ks (id.Node p)) → Contains (k ∷ ks) (id.Node p)
    by (id.Node q) t rest = node q (contains_cases q p (node_paths ks) t) rest
    by (id.Prev n q) t rest = behind (id.Prev n q) (id.Node p) ks (rest t)
    by id.Settings t rest = behind id.Settings (id.Node p) ks (rest t)

-- the order of nodes' documents, by their paths
abbrev forward_cmp : Path → Path → Ordering
forward_cmp p q = id_cmp (id.Node p) (id.Node q)

below_paths : (p : Path) (ks : List DocId) → AllByRecursion (λ y. id_cmp (id.Node p) y ≡ Less) ks → AllByRecursion (λ q. forward_cmp p q ≡ Less) (node_paths ks)
below_paths p [] h = tt
below_paths p (id.Node q ∷ ks) h = (h.0, below_paths p ks h.1)
below_paths p (id.Prev n q ∷ ks) h = below_paths p ks h.1
below_paths p (id.Settings ∷ ks) h = below_paths p ks h.1

sorted_paths : (ks : List DocId) → IsStrictlySortedBy id_cmp ks → IsStrictlySortedBy forward_cmp (node_paths ks)
unfolding IsStrictlySortedBy
sorted_paths [] h = tt
sorted_paths (id.Node q ∷ ks) h = (below_paths q ks h.0, sorted_paths ks h.1)
sorted_paths (id.Prev n q ∷ ks) h = sorted_paths ks h.1
sorted_paths (id.Settings ∷ ks) h = sorted_paths ks h.1

all_front : {X : Type 0} (P : X → Type 0) (xs : List X) (x : X) → AllByRecursion P xs → P x → AllByRecursion P (xs ++ x ∷ [])
all_front P [] x h p = (p, tt)
all_front P (y ∷ ys) x h p = (h.0, all_front P ys x h.1 p)

turned : {X : Type 0} (x : X) (xs : List X) → reverse (x ∷ xs) ≡ reverse xs ++ x ∷ []
turned x xs = reverse-append (x ∷ []) xs

all_turned : {X : Type 0} (P : X → Type 0) (xs : List X) → AllByRecursion P xs → AllByRecursion P (reverse xs)
all_turned P [] h = tt
all_turned P (x ∷ xs) h = subst (AllByRecursion P) (sym (turned x xs)) (all_front P (reverse xs) x (all_turned P xs h.1) h.0)

sorted_last : (xs : List Path) (x : Path) → IsStrictlySortedBy backward_cmp xs → AllByRecursion (λ y. backward_cmp y x ≡ Less) xs → IsStrictlySortedBy backward_cmp (xs ++ x ∷ [])
unfolding IsStrictlySortedBy
sorted_last [] x h below = (tt, tt)
sorted_last (y ∷ ys) x h below = (all_front (λ z. backward_cmp y z ≡ Less) ys x h.0 below.0, sorted_last ys x h.1 below.1)

sorted_turned : (xs : List Path) → IsStrictlySortedBy forward_cmp xs → IsStrictlySortedBy backward_cmp (reverse xs)
unfolding IsStrictlySortedBy
sorted_turned [] h = tt
sorted_turned (x ∷ xs) h = subst (IsStrictlySortedBy backward_cmp) (sym (turned x xs)) (sorted_last (reverse xs) x (sorted_turned xs h.1) (all_turned (λ y. forward_cmp x y ≡ Less) xs h.0))

-- the paths of the ids, turned
pub is_upward_list : (paths up : List Path) (ids : IdSet) → up ≡ reverse (node_paths (keys_of ids)) → IsStrictlySortedBy id_cmp (keys_of ids) → HasUpward paths ids → AreUpward paths up
is_upward_list paths up ids e ordered is = subst (AreUpward paths) (sym e) (record {
  which = λ p. (λ h. to p h, λ h. from p h);
  ordered = sorted_turned (node_paths (keys_of ids)) (sorted_paths (keys_of ids) ordered);
})
  where
    path_in : (p : Path) → (q : Path) × (id.Node p ≡ id.Node q) × IsTrue (is_upward paths q) → IsTrue (is_upward paths p)
    path_in p found = let same : p ≡ found.0 = (let e = found.1 in cc) in rw same found.2

    to : (p : Path) → Contains (reverse (node_paths (keys_of ids))) p → IsTrue (is_upward paths p)
    to p h = path_in p (is.only (id.Node p) ((IsSome-lookup_from_Contains (eq_by_cmp_equiv id_total) (id.Node p) ids (contains_ids (keys_of ids) p (Contains-permutation (reverse (node_paths (keys_of ids))) (node_paths (keys_of ids)) p (IsPermutation-sym (node_paths (keys_of ids)) (reverse (node_paths (keys_of ids))) (IsPermutation-reverse (node_paths (keys_of ids)))) h)))))

    from : (p : Path) → IsTrue (is_upward paths p) → Contains (reverse (node_paths (keys_of ids))) p
    from p h = Contains-permutation (node_paths (keys_of ids)) (reverse (node_paths (keys_of ids))) p (IsPermutation-reverse (node_paths (keys_of ids))) (contains_paths (keys_of ids) p (Contains-keys_from_lookup (λ x y k. same_id y x k) (id.Node p) ids (is.there p h)))
