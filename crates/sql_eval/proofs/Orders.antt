-- A list that was sorted by keys is sorted by the orders that the keys are of.
use Rattle.std.proofs.Common.{◌≡◌, ◌+◌, ◌<◌, Bool, true, false, cond, not, ◌&&◌, List, [], ◌∷◌, map, get_or, refl, sym, subst, ap, ◌∙◌, arith}
use Rattle.std.specs.Prelude.{Option}
use Rattle.std.specs.Ordering.{is_lt, on, ordering_then}
use Rattle.std.specs.declared.cmp.Ordering.{Ordering}
use Rattle.std.specs.Cmp.Lexicographic.{slice_cmp}
use Rattle.std.specs.List.{All, filter}
use Rattle.std.specs.List.Sorted.{IsPermutation, IsSorted, IsStable, ties}
use Rattle.std.proofs.lemmas.List.{get_or-map, length-map}
use Rattle.std.proofs.lemmas.List.Elements.{All-head, All-map, All-tail}
use Rattle.std.proofs.lemmas.List.Sorted.{All-permutation, IsPermutation-map}
use Rattle.jr_value.specs.declared.value.Property.{Property}
use Rattle.sql_query.specs.declared.query.Direction.{Direction}
use Rattle.sql_query.specs.declared.query.Direction.TheVariants.{Ascending, Descending}
use Rattle.sql_query.specs.declared.query.Order.{Order}
use Rattle.sql_eval.specs.declared.key.Ranked.{Ranked}
use Rattle.sql_eval.specs.Conditions.{Tuple, operand_of}
use Rattle.sql_eval.specs.Keys.{order_cmp, key_in, key_of, ranked_cmp, ranked_of}
use Rattle.sql_eval.specs.Rows.{IsStablySorted, by_orders}
use Rattle.sql_values.specs.Values.{directed, missing_first}

-- lists compare by what a function makes of their elements as the lists of these do
pub mapped_cmp : {X Y : Type 0} (f : X → Y) (R : Y → Y → Ordering) (xs ys : List X) → slice_cmp (on f R) xs ys ≡ slice_cmp R (map f xs) (map f ys)
mapped_cmp f R [] [] = refl
mapped_cmp f R [] (y ∷ ys) = refl
mapped_cmp f R (x ∷ xs) [] = refl
mapped_cmp f R (x ∷ xs) (y ∷ ys) = ap (ordering_then (R (f x) (f y))) (mapped_cmp f R xs ys)

-- keys compare as the orders that they are of
keys_in : (way : Direction) (a b : Option Property) → order_cmp (key_in way a) (key_in way b) ≡ directed way missing_first a b
keys_in Ascending a b = refl
keys_in Descending a b = refl

keys_cmp : (orders : List Order) (t u : Tuple) → slice_cmp order_cmp (map (key_of t) orders) (map (key_of u) orders) ≡ by_orders orders t u
keys_cmp [] t u = refl
keys_cmp (o ∷ os) t u = λ i. ordering_then (keys_in o.direction (operand_of t o.operand) (operand_of u o.operand) i) (keys_cmp os t u i)

module _ {X Y : Type 0} (f : X → Y) (g : Y → X) (back : (x : X) → g (f x) ≡ x) where
  maps_back : (xs : List X) → map g (map f xs) ≡ xs
  maps_back [] = refl
  maps_back (x ∷ xs) = λ i. back x i ∷ maps_back xs i

  again : (ys : List Y) → All (λ y. f (g y) ≡ y) ys → map f (map g ys) ≡ ys
  again [] all = refl
  again (y ∷ ys) all = λ i. All-head (λ y. f (g y) ≡ y) y ys all i ∷ again ys (All-tail (λ y. f (g y) ≡ y) y ys all) i

  -- what only moves values of f has values of f
  moved : (xs : List X) (ys : List Y) → IsPermutation (map f xs) ys → map f (map g ys) ≡ ys
  moved xs ys p = again ys (All-permutation (λ y. f (g y) ≡ y) (map f xs) ys p (All-map (λ y. f (g y) ≡ y) f xs (λ k d h. ap f (back (get_or xs k d)))))

  moved_back : (xs : List X) (ys : List Y) → IsPermutation (map f xs) ys → IsPermutation xs (map g ys)
  moved_back xs ys p = subst (λ zs. IsPermutation zs (map g ys)) (maps_back xs) (IsPermutation-map g (map f xs) ys p)

  choose : (b : Bool) (x : X) (us : List Y) (vs : List X) → us ≡ map f vs → cond b (f x ∷ us) us ≡ map f (cond b (x ∷ vs) vs)
  choose true x us vs h = ap (λ r. f x ∷ r) h
  choose false x us vs h = h

  filter-map : (p : Y → Bool) (xs : List X) → filter p (map f xs) ≡ map f (filter (λ x. p (f x)) xs)
  filter-map p [] = refl
  filter-map p (x ∷ xs) = choose (p (f x)) x (filter p (map f xs)) (filter (λ z. p (f z)) xs) (filter-map p xs)

  module _ (R : Y → Y → Ordering) (S : X → X → Ordering) (same : (x y : X) → R (f x) (f y) ≡ S x y) where
    sorted_map : (xs : List X) → IsSorted R (map f xs) → IsSorted S xs
    sorted_map xs h k d low high =
        ap is_lt (sym (same (get_or xs (k + 1) d) (get_or xs k d)))
        ∙ (λ i. is_lt (R (sym (get_or-map f xs (k + 1) d (f d) high) i) (sym (get_or-map f xs k d (f d) (omega arith)) i)))
        ∙ h k (f d) low (subst (λ n. k + 1 < n) (sym (length-map xs f)) high)

    ties_same : (x y : X) → ties (λ a b. is_lt (R a b)) (f x) (f y) ≡ ties (λ a b. is_lt (S a b)) x y
    ties_same x y = λ i. not (is_lt (same x y i)) && not (is_lt (same y x i))

    stable_map : (xs ys : List X) → IsStable R (map f xs) (map f ys) → IsStable S xs ys
    stable_map xs ys h x =
        sym (only ys) ∙ ap (map g) (h (f x)) ∙ only xs
      where
        only : (zs : List X) → map g (filter (ties (λ a b. is_lt (R a b)) (f x)) (map f zs)) ≡ filter (ties (λ a b. is_lt (S a b)) x) zs
        only zs =
            ap (map g) (filter-map (ties (λ a b. is_lt (R a b)) (f x)) zs)
            ∙ maps_back (filter (λ y. ties (λ a b. is_lt (R a b)) (f x) (f y)) zs)
            ∙ (λ i. filter (λ y. ties_same x y i) zs)

    sorted_back : (xs : List X) (ys : List Y) → IsPermutation (map f xs) ys → IsSorted R ys → IsStable R (map f xs) ys → IsStablySorted S xs (map g ys)
    sorted_back xs ys p sorted stable =
        let is = sym (moved xs ys p) in
        record {
          elements = moved_back xs ys p;
          sorted = sorted_map (map g ys) (subst (IsSorted R) is sorted);
          stable = stable_map xs (map g ys) (subst (IsStable R (map f xs)) is stable);
        }

-- tuples with their keys in order are tuples in order
pub in_order : (orders : List Order) (tuples : List Tuple) (ranked sorted : List Ranked) (result : List Tuple) → ranked ≡ map (ranked_of orders) tuples → IsPermutation ranked sorted → IsSorted ranked_cmp sorted → IsStable ranked_cmp ranked sorted → result ≡ map (λ r. r.tuple) sorted → IsStablySorted (by_orders orders) tuples result
in_order orders tuples ranked sorted result made p s t is =
    subst (IsStablySorted (by_orders orders) tuples) (sym is)
    (sorted_back (ranked_of orders) (λ (r : Ranked). r.tuple) (λ t. refl) ranked_cmp (by_orders orders) (keys_cmp orders) tuples sorted
    (subst (λ zs. IsPermutation zs sorted) made p) s (subst (λ zs. IsStable ranked_cmp zs sorted) made t))
