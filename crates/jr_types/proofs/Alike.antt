-- Lists in which each test finds the same first element.
use Rattle.std.proofs.Common.{◌≡◌, ℕ, Bool, true, false, cond, not, ◌&&◌, ◌||◌, Option, None, Some, List, [], ◌∷◌, ◌++◌, map, refl, sym, ap, ◌∙◌, is_some}
use Rattle.std.specs.Prelude.{slice_get}
use Rattle.std.specs.Option.{option_and_then, option_map_or, option_or}
use Rattle.std.specs.List.{cons_option, filter, filter_map, find, flat_map, list_any}
use Rattle.std.proofs.lemmas.List.Folds.{find-append}
use Rattle.std.proofs.lemmas.Option.{none-some}
use Rattle.jr_items.specs.Items.{first_of, is_empty}
use Rattle.jr_types.specs.Types.{either_of}
use Rattle.jr_types.specs.declared.TypeDef.{TypeDef}
use Rattle.jr_types.specs.Registered.{IsAlike, types_at}

pub any_finds : {X : Type 0} (p : X → Bool) (xs : List X) → list_any p xs ≡ is_some (find p xs)
any_finds p [] = refl
any_finds p (x ∷ xs) = by (p x) (any_finds p xs)
  where
    by : (b : Bool) → list_any p xs ≡ is_some (find p xs) → (b || list_any p xs) ≡ is_some (cond b (Some x) (find p xs))
    by true h = refl
    by false h = h

pub any-alike : {X : Type 0} (p : X → Bool) (xs ys : List X) → IsAlike xs ys → list_any p xs ≡ list_any p ys
any-alike p xs ys h = any_finds p xs ∙ (ap is_some (h p) ∙ sym (any_finds p ys))

-- a test of the types at some places
pub any_at : (p : TypeDef → Bool) (types : List TypeDef) (places : List ℕ) → list_any (λ k. option_map_or p (slice_get types k) false) places ≡ list_any p (types_at types places)
any_at p types [] = refl
any_at p types (k ∷ places) = by (slice_get types k) (any_at p types places)
  where
    by : (o : Option TypeDef) → list_any (λ k. option_map_or p (slice_get types k) false) places ≡ list_any p (types_at types places)
        → (option_map_or p o false || list_any (λ k. option_map_or p (slice_get types k) false) places) ≡ list_any p (cons_option o (types_at types places))
    by None h = h
    by (Some d) h = ap (λ b. p d || b) h

-- one behind another
pub append-alike : {X : Type 0} (xs ys us vs : List X) → IsAlike xs ys → IsAlike us vs → IsAlike (xs ++ us) (ys ++ vs)
append-alike xs ys us vs h k test = find-append test xs us ∙ (ap (λ o. option_or o (find test us)) (h test) ∙ (ap (option_or (find test ys)) (k test) ∙ sym (find-append test ys vs)))

pub any_line : (p : TypeDef → Bool) (types : List TypeDef) (places : List ℕ) (ds : List TypeDef) → IsAlike (types_at types places) ds
    → list_any (λ k. option_map_or p (slice_get types k) false) places ≡ list_any p ds
any_line p types places ds h = any_at p types places ∙ any-alike p (types_at types places) ds h

-- a test of what is seen of the elements
pub any_seen : {X Y : Type 0} (p : Y → Bool) (f : X → Y) (xs : List X) → list_any (λ x. p (f x)) xs ≡ list_any p (map f xs)
any_seen p f [] = refl
any_seen p f (x ∷ xs) = ap (λ b. p (f x) || b) (any_seen p f xs)

-- those that pass a test
filter_step : {X : Type 0} (test : X → Bool) (x : X) (kept : List X) (o : Option X) → find test kept ≡ o → (b : Bool)
    → find test (cond b (x ∷ kept) kept) ≡ cond (b && test x) (Some x) o
filter_step test x kept o h true = ap (λ p. cond (test x) (Some x) p) h
filter_step test x kept o h false = h

find-filter : {X : Type 0} (p test : X → Bool) (xs : List X) → find test (filter p xs) ≡ find (λ x. p x && test x) xs
find-filter p test [] = refl
find-filter p test (x ∷ xs) = filter_step test x (filter p xs) (find (λ x. p x && test x) xs) (find-filter p test xs) (p x)

pub filter-alike : {X : Type 0} (p : X → Bool) (xs ys : List X) → IsAlike xs ys → IsAlike (filter p xs) (filter p ys)
filter-alike p xs ys h test = find-filter p test xs ∙ (h (λ x. p x && test x) ∙ sym (find-filter p test ys))

-- what the elements give, one behind another
given_step : {X Y : Type 0} (g : X → Option Y) (x : X) (o r : Option Y) (more : Option X) → g x ≡ o → r ≡ option_and_then g more
    → option_or o r ≡ option_and_then g (cond (is_some o) (Some x) more)
given_step g x None r more e h = h
given_step g x (Some y) r more e h = sym e

find-flat : {X Y : Type 0} (f : X → List Y) (test : Y → Bool) (xs : List X) → find test (flat_map f xs) ≡ option_and_then (λ x. find test (f x)) (find (λ x. is_some (find test (f x))) xs)
find-flat f test [] = refl
find-flat f test (x ∷ xs) = find-append test (f x) (flat_map f xs)
    ∙ given_step (λ x. find test (f x)) x (find test (f x)) (find test (flat_map f xs)) (find (λ x. is_some (find test (f x))) xs) refl (find-flat f test xs)

pub flat-alike : {X Y : Type 0} (f : X → List Y) (xs ys : List X) → IsAlike xs ys → IsAlike (flat_map f xs) (flat_map f ys)
flat-alike f xs ys h test = find-flat f test xs ∙ (ap (option_and_then (λ x. find test (f x))) (h (λ x. is_some (find test (f x)))) ∙ sym (find-flat f test ys))

-- the first of two lists that has elements
pub either-alike : {X : Type 0} (xs ys us vs : List X) → IsAlike xs ys → IsAlike us vs → IsAlike (either_of xs us) (either_of ys vs)
either-alike [] [] us vs h k = k
either-alike (x ∷ xs) (y ∷ ys) us vs h k = h
either-alike [] (y ∷ ys) us vs h k = absurd (none-some y (h (λ z. true)))
either-alike (x ∷ xs) [] us vs h k = absurd (none-some x (sym (h (λ z. true))))

-- the first element
first_found : {X : Type 0} (xs : List X) → first_of xs ≡ find (λ x. true) xs
first_found [] = refl
first_found (x ∷ xs) = refl

pub first-alike : {X : Type 0} (xs ys : List X) → IsAlike xs ys → first_of xs ≡ first_of ys
first-alike xs ys h = first_found xs ∙ (h (λ x. true) ∙ sym (first_found ys))

empty_found : {X : Type 0} (xs : List X) → is_empty xs ≡ not (is_some (first_of xs))
empty_found [] = refl
empty_found (x ∷ xs) = refl

pub empty-alike : {X : Type 0} (xs ys : List X) → IsAlike xs ys → is_empty xs ≡ is_empty ys
empty-alike xs ys h = empty_found xs ∙ (ap (λ o. not (is_some o)) (first-alike xs ys h) ∙ sym (empty_found ys))

first_step : {X : Type 0} (x : X) (kept : List X) (o : Option X) → first_of kept ≡ o → (b : Bool) → first_of (cond b (x ∷ kept) kept) ≡ cond b (Some x) o
first_step x kept o h true = refl
first_step x kept o h false = h

-- the first that passes a test
pub first-filter : {X : Type 0} (p : X → Bool) (xs : List X) → first_of (filter p xs) ≡ find p xs
first-filter p [] = refl
first-filter p (x ∷ xs) = first_step x (filter p xs) (find p xs) (first-filter p xs) (p x)

told_step : {X Y : Type 0} (g : X → Option Y) (x : X) (o : Option Y) (told : List Y) (more : Option X) → g x ≡ o → first_of told ≡ option_and_then g more
    → first_of (cons_option o told) ≡ option_and_then g (cond (is_some o) (Some x) more)
told_step g x None told more e h = h
told_step g x (Some y) told more e h = sym e

-- the first that an element gives
pub first-told : {X Y : Type 0} (g : X → Option Y) (xs : List X) → first_of (filter_map g xs) ≡ option_and_then g (find (λ x. is_some (g x)) xs)
first-told g [] = refl
first-told g (x ∷ xs) = told_step g x (g x) (filter_map g xs) (find (λ x. is_some (g x)) xs) refl (first-told g xs)
