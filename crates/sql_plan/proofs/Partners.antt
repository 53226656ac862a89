-- Partners that are found by an index are all partners.
use Rattle.std.proofs.Common.{◌≡◌, ℕ, suc, zero, ◌+◌, ◌<◌, ◌≤◌, Bool, true, false, List, [], ◌∷◌, ◌++◌, map, length, get_or, take, drop, sym, ap, ◌∙◌, subst, append-nil, append_assoc, arith}
use Rattle.std.specs.Prelude.{Option, Some, None, is_some, not, slice_get, ◌==◌}
use Rattle.std.specs.Option.{option_map, unwrap_or}
use Rattle.std.proofs.lemmas.Bool.{false≢true, ne_eqb}
use Rattle.std.proofs.lemmas.Option.{slice_get-map}
use Rattle.std.specs.List.{AllByRecursion, Contains, cons_option, filter, list_any}
use Rattle.std.proofs.lemmas.List.{drop_all, take_more}
use Rattle.std.proofs.lemmas.List.Elements.{Contains-append_left, Contains-append_right, filter-append, filter_map-append}
use Rattle.std.proofs.lemmas.List.Folds.{list_any-from_Any}
use Rattle.basics.proofs.Lists.{drop_next}
use Rattle.sql_query.specs.declared.query.On.{On}
use Rattle.sql_eval.specs.Conditions.{Spot, Tuple}
use Rattle.sql_eval.specs.Joins.{joins, pairs, with_spot}
use Rattle.sql_plan.specs.Index.{Sought, is_same_key}
use Rattle.sql_plan.specs.Links.{Linked, at_places, keys_of_node, keys_of_tuple, link_of, placed}
use Rattle.sql_plan.proofs.Picked.{any_kept, has_some}
use Rattle.sql_plan.proofs.Seen.{pairs_cons}
use Rattle.sql_plan.proofs.Meets.{Common, common_back, contains_map, meets}

-- the key of an element stands with its place
placed_has : {X : Type 0} (keys : X → List Sought) (n : ℕ) (xs : List X) (k : ℕ) (x : X) (s : Sought) → slice_get xs k ≡ Some x → Contains (keys x) s → Contains (placed keys n xs) (s, n + k)
placed_has keys n [] k x s at c = absurd (false≢true (ap is_some at))
placed_has keys n (y ∷ ys) zero x s at c =
    let same : y ≡ x = some_same at in
    let mine : Contains (map (λ t. (t, n)) (keys y)) (s, n) = contains_map (λ t. (t, n)) (keys y) s (subst (λ z. Contains (keys z) s) (sym same) c) in
    let whole : Contains (placed keys n (y ∷ ys)) (s, n) = Contains-append_left (map (λ t. (t, n)) (keys y)) (placed keys (n + 1) ys) (s, n) mine in
    let here : n ≡ n + zero = omega arith in
    ap_place here whole
  where
    some_same : {A : Type 0} {a b : A} → Some a ≡ Some b → a ≡ b
    some_same {a = a} h = ap (λ o. unwrap_or o a) h

    ap_place : {m : ℕ} → n ≡ m → Contains (placed keys n (y ∷ ys)) (s, n) → Contains (placed keys n (y ∷ ys)) (s, m)
    ap_place e h = subst (λ (m : ℕ). Contains {X = Sought × ℕ} (placed keys n (y ∷ ys)) (s, m)) e h
placed_has keys n (y ∷ ys) (suc k) x s at c =
    let there : n + 1 + k ≡ n + suc k = omega arith in
    let rest : Contains (placed keys (n + 1) ys) (s, n + suc k) = subst (λ (m : ℕ). Contains {X = Sought × ℕ} (placed keys (n + 1) ys) (s, m)) there (placed_has keys (n + 1) ys k x s at c) in
    Contains-append_right (map (λ t. (t, n)) (keys y)) (placed keys (n + 1) ys) (s, n + suc k) rest

none_more : (k : ℕ) → 0 + k ≡ k
none_more k = omega arith

-- where a key of the list is the same, one is
some_same_key : (ks : List Sought) (k m : Sought) → Contains ks k → is_same_key k m ≡ true → list_any (λ t. is_same_key t m) ks ≡ true
some_same_key ks k m c same = list_any-from_Any (λ t. is_same_key t m) ks (c.0, k, c.1, c.2, same)

module _ (on : On) (link : Linked) (index : List (Sought × ℕ)) (ks : List Sought) (places : List ℕ) (found : (s : Sought) (n : ℕ) → Contains index (s, n) → list_any (λ k. is_same_key k s) ks ≡ true → Contains places n) where
  -- the place of each partner of a tuple is found
  pub complete_nodes : (l : Tuple) (rs : List Spot) → link ≡ link_of on (length l) → ((s : Sought) (n : ℕ) → Contains (placed (keys_of_node link) 0 rs) (s, n) → Contains index (s, n)) → ks ≡ keys_of_tuple link l
      → (k : ℕ) (r : Spot) → slice_get rs k ≡ Some r → joins on (with_spot l r) ≡ true → Contains places k
  complete_nodes l rs is all keys k r at h =
      let common : Common (keys_of_tuple link l) (keys_of_node link r) = subst (λ t. Common (keys_of_tuple t l) (keys_of_node t r)) (sym is) (meets on l r h) in
      found common.m k (all common.m k (subst (λ (m : ℕ). Contains {X = Sought × ℕ} (placed (keys_of_node link) 0 rs) (common.m, m)) (none_more k) (placed_has (keys_of_node link) 0 rs k r common.m at common.in_ms)))
      (some_same_key ks common.k common.m (subst (λ ts. Contains ts common.k) (sym keys) common.in_ks) common.same)

  -- the place of each partner of a node is found
  pub complete_tuples : (ls : List Tuple) (r : Spot) → AllByRecursion (λ l. link ≡ link_of on (length l)) ls → ((s : Sought) (n : ℕ) → Contains (placed (keys_of_tuple link) 0 ls) (s, n) → Contains index (s, n)) → ks ≡ keys_of_node link r
      → (k : ℕ) (l : Tuple) → slice_get ls k ≡ Some l → joins on (with_spot l r) ≡ true → Contains places k
  complete_tuples ls r each all keys k l at h =
      let is : link ≡ link_of on (length l) = at_place ls each k l at in
      let common : Common (keys_of_node link r) (keys_of_tuple link l) = subst (λ t. Common (keys_of_node t r) (keys_of_tuple t l)) (sym is) (common_back _ _ (meets on l r h)) in
      found common.m k (all common.m k (subst (λ (m : ℕ). Contains {X = Sought × ℕ} (placed (keys_of_tuple link) 0 ls) (common.m, m)) (none_more k) (placed_has (keys_of_tuple link) 0 ls k l common.m at common.in_ms)))
      (some_same_key ks common.k common.m (subst (λ ts. Contains ts common.k) (sym keys) common.in_ks) common.same)
    where
      at_place : (ls : List Tuple) → AllByRecursion (λ l. link ≡ link_of on (length l)) ls → (k : ℕ) (l : Tuple) → slice_get ls k ≡ Some l → link ≡ link_of on (length l)
      at_place [] each k l at = absurd (false≢true (ap is_some at))
      at_place (m ∷ ms) each zero l at = each.0 ∙ ap (λ o. link_of on (length (unwrap_or o m))) at
      at_place (m ∷ ms) each (suc k) l at = at_place ms each.1 k l at

-- ---- one element more

pub entries_more : {A X : Type 0} (keys : X → List Sought) (f : A → X) (xs : List A) (i : ℕ) (x : A) (place : ℕ) (old new total : List (Sought × ℕ)) (ks : List Sought) → i < length xs → x ≡ get_or xs i x
    → new ≡ old ++ map (λ s. (s, place)) ks → ks ≡ keys (f x) → old ++ placed keys place (map f (drop i xs)) ≡ total → new ++ placed keys (place + 1) (map f (drop (i + 1) xs)) ≡ total
entries_more keys f xs i x place old new total ks within at made is before =
    ap (λ es. es ++ placed keys (place + 1) (map f (drop (i + 1) xs))) (made ∙ ap (λ ss. old ++ map (λ s. (s, place)) ss) is)
    ∙ append_assoc old (map (λ s. (s, place)) (keys (f x))) (placed keys (place + 1) (map f (drop (i + 1) xs)))
    ∙ ap (λ ys. old ++ placed keys place (map f ys)) (sym (drop_next xs i x within at))
    ∙ before

-- an entry that is found is one of those that were put in
pub entries_back : {A X : Type 0} (keys : X → List Sought) (f : List A → List X) (place : ℕ) (i : ℕ) (xs : List A) (entries total index : List (Sought × ℕ)) → f [] ≡ [] → length xs ≤ i → entries ++ placed keys place (f (drop i xs)) ≡ total
    → ((s : Sought) (n : ℕ) → Contains index (s, n) → Contains entries (s, n)) → (s : Sought) (n : ℕ) → Contains index (s, n) → Contains total (s, n)
entries_back keys f place i xs entries total index none past whole back s n c =
    let all : entries ≡ total = sym (append-nil entries) ∙ ap (λ ys. entries ++ placed keys place ys) (sym none) ∙ ap (λ ys. entries ++ placed keys place (f ys)) (sym (drop_all i xs past)) ∙ whole in
    subst (λ es. Contains es (s, n)) all (back s n c)

pub partners_more : {X : Type 0} (p : X → Bool) (rs : List X) (ps : List ℕ) (i k : ℕ) (old new : List X) → i < length ps → k ≡ get_or ps i 0 → new ≡ old ++ filter p (at_places rs (k ∷ [])) → old ≡ filter p (at_places rs (take i ps)) → new ≡ filter p (at_places rs (take (i + 1) ps))
partners_more p rs ps i k old new within at made before =
    made
    ∙ ap (λ xs. xs ++ filter p (at_places rs (k ∷ []))) before
    ∙ sym (filter-append p (at_places rs (take i ps)) (at_places rs (k ∷ [])))
    ∙ ap (filter p) (sym (filter_map-append (slice_get rs) (take i ps) (k ∷ [])) ∙ ap (at_places rs) (ap (λ j. take i ps ++ j ∷ []) at ∙ sym (take_more ps i 0 within)))

pub tuple_entries_more : {X : Type 0} (keys : X → List Sought) (xs : List X) (i : ℕ) (x : X) (place : ℕ) (old new total : List (Sought × ℕ)) (ks : List Sought) → i < length xs → x ≡ get_or xs i x
    → new ≡ old ++ map (λ s. (s, place)) ks → ks ≡ keys x → old ++ placed keys place (drop i xs) ≡ total → new ++ placed keys (place + 1) (drop (i + 1) xs) ≡ total
tuple_entries_more keys xs i x place old new total ks within at made is before =
    ap (λ es. es ++ placed keys (place + 1) (drop (i + 1) xs)) (made ∙ ap (λ ss. old ++ map (λ s. (s, place)) ss) is)
    ∙ append_assoc old (map (λ s. (s, place)) (keys x)) (placed keys (place + 1) (drop (i + 1) xs))
    ∙ ap (λ ys. old ++ placed keys place ys) (sym (drop_next xs i x within at))
    ∙ before

-- the pairs of one tuple more
pub pairs_more : (on : On) (ls : List Tuple) (rs : List Spot) (i : ℕ) (l : Tuple) (old new total : List Tuple) (spots : List Spot) → i < length ls → l ≡ get_or ls i l
    → new ≡ old ++ map (with_spot l) spots → spots ≡ filter (λ r. joins on (with_spot l r)) rs → old ++ pairs on (drop i ls) rs ≡ total → new ++ pairs on (drop (i + 1) ls) rs ≡ total
pairs_more on ls rs i l old new total spots within at made is before =
    ap (λ ts. ts ++ pairs on (drop (i + 1) ls) rs) (made ∙ ap (λ ss. old ++ map (with_spot l) ss) is)
    ∙ append_assoc old (map (with_spot l) (filter (λ r. joins on (with_spot l r)) rs)) (pairs on (drop (i + 1) ls) rs)
    ∙ ap (λ ts. old ++ ts) (sym (pairs_cons on l (drop (i + 1) ls) rs) ∙ ap (λ ts. pairs on ts rs) (sym (drop_next ls i l within at)))
    ∙ before

-- nothing was found, so nothing passes
pub none_found : {A X : Type 0} (f : A → X) (p : X → Bool) (rs : List X) (xs : List A) (b : Bool) → map f xs ≡ filter p rs → b ≡ (length xs == 0) → b ≡ not (list_any p rs)
none_found f p rs [] b h e = e ∙ sym (ap not (any_kept p rs ∙ ap has_some (sym h)))
none_found f p rs (x ∷ xs) b h e = e ∙ more (length xs) ∙ sym (ap not (any_kept p rs ∙ ap has_some (sym h)))
  where
    more : (n : ℕ) → (suc n == 0) ≡ false
    more n = ne_eqb (suc n) 0 (λ e. absurd (omega (arith, e)))

one_place : {A X : Type 0} (f : A → X) (xs : List A) (k : ℕ) (o : Option A) → slice_get xs k ≡ o → slice_get (map f xs) k ≡ option_map f o
one_place f xs k o h = slice_get-map f xs k ∙ ap (option_map f) h

-- the element at a place, if it passes
pub at_place_some : {A X : Type 0} (f : A → X) (p : X → Bool) (xs : List A) (k : ℕ) (a : A) → slice_get xs k ≡ Some a → filter p (at_places (map f xs) (k ∷ [])) ≡ filter p (f a ∷ [])
at_place_some f p xs k a h = ap (λ o. filter p (cons_option o [])) (one_place f xs k (Some a) h)

pub at_place_none : {A X : Type 0} (f : A → X) (p : X → Bool) (xs : List A) (k : ℕ) → slice_get xs k ≡ None → filter p (at_places (map f xs) (k ∷ [])) ≡ []
at_place_none f p xs k h = ap (λ o. filter p (cons_option o [])) (one_place f xs k None h)
