-- What is found by binary search in entries that are sorted by their keys.
use Rattle.std.proofs.Common.{◌≡◌, ℕ, suc, zero, ◌+◌, ◌-◌, ◌<◌, ◌≤◌, Bool, true, false, cond, List, [], ◌∷◌, map, length, get_or, take, drop, refl, sym, ap, ◌∙◌, subst, arith}
use Rattle.std.specs.List.{Contains, filter, slice_range}
use Rattle.std.specs.List.Sorted.{IsPartitionPoint, IsPartitionedBy, IsSorted}
use Rattle.std.specs.Ordering.{is_eq, is_le, is_lt, ordering_index}
use Rattle.std.specs.declared.cmp.Ordering.{Ordering}
use Rattle.std.specs.declared.cmp.Ordering.TheVariants.{Less, Equal, Greater}
use Rattle.std.proofs.lemmas.Bool.{false≢true, false_from_ne_true}
use Rattle.std.proofs.lemmas.List.Elements.{Contains-append_right, Contains-get_or}
use Rattle.std.proofs.lemmas.List.Sorted.{searchable_from_sorted}
use Rattle.sql_plan.specs.Index.{Sought, by_key, is_same_key, key_cmp, placed_key, sought}
use Rattle.sql_plan.specs.declared.index.Entry.{Entry}
use Rattle.sql_plan.proofs.Meets.{key_total, same_back}
use Rattle.sql_plan.proofs.Seen.{filter-map}

lower_is_lt : (o p : Ordering) → ordering_index o ≤ ordering_index p → is_lt p ≡ true → is_lt o ≡ true
lower_is_lt Less p h l = refl
lower_is_lt Equal Less h l = absurd (omega (arith, h))
lower_is_lt Equal Equal h l = l
lower_is_lt Equal Greater h l = l
lower_is_lt Greater Less h l = absurd (omega (arith, h))
lower_is_lt Greater Equal h l = l
lower_is_lt Greater Greater h l = l

lower_is_le : (o p : Ordering) → ordering_index o ≤ ordering_index p → is_le p ≡ true → is_le o ≡ true
lower_is_le Less p h l = refl
lower_is_le Equal p h l = refl
lower_is_le Greater Less h l = absurd (omega (arith, h))
lower_is_le Greater Equal h l = absurd (omega (arith, h))
lower_is_le Greater Greater h l = l

pub below_parted : (es : List Entry) (q : Sought) → IsSorted by_key es → IsPartitionedBy (λ e. is_lt (key_cmp (sought e.key) q)) es
below_parted es q up i j d le within h = lower_is_lt _ _ (searchable_from_sorted key_total (λ (e : Entry). sought e.key) es q up i j d le within) h

pub upto_parted : (es : List Entry) (q : Sought) → IsSorted by_key es → IsPartitionedBy (λ e. is_le (key_cmp (sought e.key) q)) es
upto_parted es q up i j d le within h = lower_is_le _ _ (searchable_from_sorted key_total (λ (e : Entry). sought e.key) es q up i j d le within) h

-- what a map has comes from an element
pub contains_map_back : {X Y : Type 0} (f : X → Y) (xs : List X) (y : Y) → Contains (map f xs) y → (x : X) × Contains xs x × (f x ≡ y)
contains_map_back f [] y c = absurd (omega (arith, c.1))
contains_map_back f (x ∷ xs) y (zero, within, is) = (x, Contains-get_or (x ∷ xs) 0 x (omega arith), is)
contains_map_back f (x ∷ xs) y (suc k, within, is) =
    let rest = contains_map_back f xs y (k, omega (arith, within), is) in
    (rest.0, Contains-append_right (x ∷ []) xs rest.0 rest.1, rest.2)

exactly : (o : Ordering) → is_eq o ≡ true → o ≡ Equal
exactly Less h = absurd (false≢true h)
exactly Equal h = refl
exactly Greater h = absurd (false≢true h)

none_left : {X : Type 0} (a : ℕ) → drop {A = X} a [] ≡ []
none_left zero = refl
none_left (suc a) = refl

none_taken : {X : Type 0} (n : ℕ) → take {A = X} n [] ≡ []
none_taken zero = refl
none_taken (suc n) = refl

-- the elements from a place on, so many, are just those that pass
middle : {X : Type 0} (p : X → Bool) (xs : List X) (a n : ℕ)
    → ((k : ℕ) (d : X) → k < length xs → k < a → p (get_or xs k d) ≡ false)
    → ((k : ℕ) (d : X) → k < length xs → a ≤ k → k < a + n → p (get_or xs k d) ≡ true)
    → ((k : ℕ) (d : X) → k < length xs → a + n ≤ k → p (get_or xs k d) ≡ false)
    → filter p xs ≡ take n (drop a xs)
middle p [] a n low mid high = sym (ap (take n) (none_left a) ∙ none_taken n)
middle p (x ∷ xs) zero zero low mid high =
    let rest = middle p xs zero zero
    (λ k d within h. absurd (omega (arith, h)))
    (λ k d within from to. absurd (omega (arith, to)))
    (λ k d within h. high (suc k) d (omega (arith, within)) (omega arith))
    in
    ap (λ b. cond b (x ∷ filter p xs) (filter p xs)) (high 0 x (omega arith) (omega arith)) ∙ rest
middle p (x ∷ xs) zero (suc n) low mid high =
    let rest = middle p xs zero n
    (λ k d within h. absurd (omega (arith, h)))
    (λ k d within from to. mid (suc k) d (omega (arith, within)) (omega arith) (omega (arith, to)))
    (λ k d within h. high (suc k) d (omega (arith, within)) (omega (arith, h)))
    in
    ap (λ b. cond b (x ∷ filter p xs) (filter p xs)) (mid 0 x (omega arith) (omega arith) (omega arith)) ∙ ap (λ ys. x ∷ ys) rest
middle p (x ∷ xs) (suc a) n low mid high =
    let rest = middle p xs a n
    (λ k d within h. low (suc k) d (omega (arith, within)) (omega (arith, h)))
    (λ k d within from to. mid (suc k) d (omega (arith, within)) (omega (arith, from)) (omega (arith, to)))
    (λ k d within h. high (suc k) d (omega (arith, within)) (omega (arith, h)))
    in
    ap (λ b. cond b (x ∷ filter p xs) (filter p xs)) (low 0 x (omega arith) (omega arith)) ∙ rest

-- ---- a key is the same where it is neither before nor behind

lower_differs : (s q : Sought) → is_lt (key_cmp s q) ≡ true → is_same_key q s ≡ false
lower_differs s q h = false_from_ne_true _ (λ t. false≢true (sym (ap is_lt (exactly _ (same_back q s t))) ∙ h))

higher_differs : (s q : Sought) → is_le (key_cmp s q) ≡ false → is_same_key q s ≡ false
higher_differs s q h = false_from_ne_true _ (λ t. false≢true (sym h ∙ ap is_le (exactly _ (same_back q s t))))

between_same : (s q : Sought) → is_lt (key_cmp s q) ≡ false → is_le (key_cmp s q) ≡ true → is_same_key q s ≡ true
between_same s q low high = same_back s q (by (key_cmp s q) low high)
  where
    by : (o : Ordering) → is_lt o ≡ false → is_le o ≡ true → is_eq o ≡ true
    by Less a b = absurd (false≢true (sym a))
    by Equal a b = refl
    by Greater a b = absurd (false≢true b)

-- the entries between the two points are just those of the key, in their order
found : (es : List Entry) (q : Sought) (a b : ℕ) → IsPartitionPoint (λ e. is_lt (key_cmp (sought e.key) q) ≡ true) (λ e. is_lt (key_cmp (sought e.key) q) ≡ false) es a → IsPartitionPoint (λ e. is_le (key_cmp (sought e.key) q) ≡ true) (λ e. is_le (key_cmp (sought e.key) q) ≡ false) es b
    → map placed_key (take (b - a) (drop a es)) ≡ filter (λ e. is_same_key q e.0) (map placed_key es)
found es q a b below upto =
    sym (filter-map placed_key (λ e. is_same_key q e.0) es
    ∙ ap (map placed_key) (middle (λ e. is_same_key q (sought e.key)) es a (b - a)
    (λ k d within h. lower_differs _ q (below.0 k d (omega arith) h))
    (λ k d within from to. between_same _ q (below.1 k d from within) (upto.0 k d (omega arith) (omega (arith, from, to))))
    (λ k d within h. higher_differs _ q (upto.1 k d (omega (arith, h)) within))))

-- the same of copies of the entries, as the code has them
pub between : (es xs ys zs : List Entry) (q : Sought) (a b : ℕ) (view : List (Sought × ℕ)) → xs ≡ es → ys ≡ es → zs ≡ es → map placed_key es ≡ view → IsSorted by_key es
    → (IsPartitionedBy (λ e. is_lt (key_cmp (sought e.key) q)) xs → IsPartitionPoint (λ e. is_lt (key_cmp (sought e.key) q) ≡ true) (λ e. is_lt (key_cmp (sought e.key) q) ≡ false) xs a)
    → (IsPartitionedBy (λ e. is_le (key_cmp (sought e.key) q)) ys → IsPartitionPoint (λ e. is_le (key_cmp (sought e.key) q) ≡ true) (λ e. is_le (key_cmp (sought e.key) q) ≡ false) ys b)
    → map placed_key (slice_range zs a b) ≡ filter (λ e. is_same_key q e.0) view
between es xs ys zs q a b view ex ey ez is up low high =
    let below = subst (λ ws. IsPartitionPoint (λ e. is_lt (key_cmp (sought e.key) q) ≡ true) (λ e. is_lt (key_cmp (sought e.key) q) ≡ false) ws a) ex (low (subst (IsPartitionedBy (λ e. is_lt (key_cmp (sought e.key) q))) (sym ex) (below_parted es q up))) in
    let upto = subst (λ ws. IsPartitionPoint (λ e. is_le (key_cmp (sought e.key) q) ≡ true) (λ e. is_le (key_cmp (sought e.key) q) ≡ false) ws b) ey (high (subst (IsPartitionedBy (λ e. is_le (key_cmp (sought e.key) q))) (sym ey) (upto_parted es q up))) in
    ap (λ ws. map placed_key (slice_range ws a b)) ez ∙ found es q a b below upto ∙ ap (filter (λ e. is_same_key q e.0)) is

-- where the second point lies before the first, there is none of the key
pub none_between : (es : List Entry) (a b : ℕ) (rest : List (Sought × ℕ)) → b < a → map placed_key (slice_range es a b) ≡ rest → [] ≡ rest
none_between es a b rest h is = let none : b - a ≡ 0 = omega (arith, h) in sym (ap (λ n. map placed_key (take n (drop a es))) none) ∙ is
