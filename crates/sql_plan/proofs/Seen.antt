-- Joins seen through what is asked in the end: what is asked early of one selector changes nothing.
use Rattle.std.proofs.Common.{◌≡◌, ℕ, suc, zero, ◌+◌, ◌<◌, ◌≤◌, Bool, true, false, cond, ◌&&◌, ◌||◌, not, List, [], ◌∷◌, ◌++◌, map, length, refl, sym, ap, ◌∙◌, subst, arith}
use Rattle.std.specs.Prelude.{Option, Some, None, is_some, option_map, ◌==◌}
use Rattle.std.specs.List.{AllByRecursion, filter, flat_map, list_all, list_any, repeat, zip}
use Rattle.std.specs.Option.{option_map_or}
use Rattle.std.proofs.lemmas.Bool.{eqb-true, false≢true, false_from_ne_true, and_parts, and_from}
use Rattle.std.proofs.lemmas.List.{length-append}
use Rattle.std.proofs.lemmas.List.Elements.{filter-append}
use Rattle.jr_path.specs.declared.name.Name.{Name}
use Rattle.jr_tree.specs.Trees.{Nodes}
use Rattle.sql_query.specs.declared.query.Condition.{Condition}
use Rattle.sql_query.specs.declared.query.Condition.TheVariants as condition
use Rattle.sql_query.specs.declared.query.Join.{Join}
use Rattle.sql_query.specs.declared.query.JoinKind.{JoinKind}
use Rattle.sql_query.specs.declared.query.JoinKind.TheVariants.{Inner, LeftOuter, RightOuter}
use Rattle.sql_query.specs.declared.query.On.{On}
use Rattle.sql_query.specs.declared.query.Operand.{Operand}
use Rattle.sql_query.specs.declared.query.Operand.TheVariants as operand
use Rattle.sql_query.specs.declared.query.PropertyOf.{PropertyOf}
use Rattle.sql_eval.specs.Conditions.{Spot, Tuple, holds, operand_of, property_in, tuple_property, spot_of}
use Rattle.sql_eval.specs.Joins.{is_lonely_spot, is_lonely_tuple, joined_tuples, joined_all, joins, lonely, lonely_spots, lonely_tuples, nodes_of_type, pairs, tuples_of, with_spot}
use Rattle.sql_eval.specs.Conditions.{is_child, is_descendant, is_same_node, node_name, path_passes}
use Rattle.sql_eval.specs.Rows.{that_pass}
use Rattle.sql_values.specs.Texts.{lengths_of, local_part}
use Rattle.sql_values.specs.Values.{some_compares}
use Rattle.jr_value.specs.declared.value.Value.TheVariants as value
use Rattle.jr_value.specs.declared.value.Property.TheVariants.{Single}
use Rattle.sql_plan.specs.Early.{alone, asked_early, asked_in, asks_only, early_nodes, is_right_outer, joined_early, kind_is, looks_only, only_asked, passes, tuples_early}
use Rattle.sql_plan.proofs.Meets.{own_spot}

-- ---- a condition that asks of one selector

module _ (s : ℕ) (t u : Tuple) (same : spot_of t s ≡ spot_of u s) where
  same_spot : (k : ℕ) → (k == s) ≡ true → spot_of t k ≡ spot_of u k
  same_spot k h = let e : k ≡ s = eqb-true k s h in ap (spot_of t) e ∙ same ∙ ap (spot_of u) (sym e)

  same_property : (p : PropertyOf) → (p.selector == s) ≡ true → tuple_property t p ≡ tuple_property u p
  same_property p h = ap (λ o. property_in o p.name) (same_spot p.selector h)

  same_operand : (o : Operand) → looks_only s o ≡ true → operand_of t o ≡ operand_of u o
  same_operand (operand.Property p) h = same_property p h
  same_operand (operand.Length p) h = ap (option_map lengths_of) (same_property p h)
  same_operand (operand.Name k) h = ap (option_map (λ e. Single (value.Str (node_name e.0)))) (same_spot k h)
  same_operand (operand.LocalName k) h = ap (option_map (λ e. Single (value.Str (local_part (node_name e.0))))) (same_spot k h)
  same_operand (operand.Lower' b o) h = rw (same_operand o h) refl
  same_operand (operand.Upper' b o) h = rw (same_operand o h) refl

  same_holds : (c : Condition) → asks_only s c ≡ true → holds t c ≡ holds u c
  same_holds (condition.Not' b c) h = ap not (same_holds c h)
  same_holds (condition.And' b c d e) h = let parts = and_parts _ _ h in λ i. same_holds c parts.0 i && same_holds e parts.1 i
  same_holds (condition.Or' b c d e) h = let parts = and_parts _ _ h in λ i. same_holds c parts.0 i || same_holds e parts.1 i
  same_holds (condition.Has p) h = ap is_some (same_property p h)
  same_holds (condition.Compare o operator x) h = ap (λ v. some_compares operator v x) (same_operand o h)
  same_holds (condition.Same k q) h = ap (path_passes (λ p. is_same_node p q)) (same_spot k h)
  same_holds (condition.Child k q) h = ap (path_passes (λ p. is_child p q)) (same_spot k h)
  same_holds (condition.Descendant k q) h = ap (path_passes (λ p. is_descendant p q)) (same_spot k h)

  all_same : (parts : List Condition) → AllByRecursion (λ d. asks_only s d ≡ true) parts → list_all (holds t) parts ≡ list_all (holds u) parts
  all_same [] only = refl
  all_same (d ∷ parts) only = λ i. same_holds d only.0 i && all_same parts only.1 i

-- ---- the parts of a condition

all_append : {X : Type 0} (p : X → Bool) (xs ys : List X) → list_all p xs ≡ true → list_all p ys ≡ true → list_all p (xs ++ ys) ≡ true
all_append p [] ys a b = b
all_append p (x ∷ xs) ys a b = let parts = and_parts _ _ a in and_from _ _ parts.0 (all_append p xs ys parts.1 b)

each_append : {X : Type 0} (P : X → Type 0) (xs ys : List X) → AllByRecursion P xs → AllByRecursion P ys → AllByRecursion P (xs ++ ys)
each_append P [] ys a b = b
each_append P (x ∷ xs) ys a b = (a.0, each_append P xs ys a.1 b)

module _ (s : ℕ) where
  one_holds : (t : Tuple) (c : Condition) → holds t c ≡ true → list_all (holds t) (only_asked s c) ≡ true
  one_holds t c h = by (asks_only s c)
    where
      by : (b : Bool) → list_all (holds t) (cond b (c ∷ []) []) ≡ true
      by true = and_from _ _ h refl
      by false = refl

  parts_hold : (t : Tuple) (c : Condition) → holds t c ≡ true → list_all (holds t) (asked_in s c) ≡ true
  parts_hold t (condition.And' b c d e) h = let parts = and_parts _ _ h in all_append (holds t) (asked_in s c) (asked_in s e) (parts_hold t c parts.0) (parts_hold t e parts.1)
  parts_hold t (condition.Not' b c) h = one_holds t (condition.Not' b c) h
  parts_hold t (condition.Or' b c d e) h = one_holds t (condition.Or' b c d e) h
  parts_hold t (condition.Has p) h = one_holds t (condition.Has p) h
  parts_hold t (condition.Compare o operator x) h = one_holds t (condition.Compare o operator x) h
  parts_hold t (condition.Same k q) h = one_holds t (condition.Same k q) h
  parts_hold t (condition.Child k q) h = one_holds t (condition.Child k q) h
  parts_hold t (condition.Descendant k q) h = one_holds t (condition.Descendant k q) h

  one_only : (c : Condition) → AllByRecursion (λ d. asks_only s d ≡ true) (only_asked s c)
  one_only c = by (asks_only s c) refl
    where
      by : (b : Bool) → asks_only s c ≡ b → AllByRecursion (λ d. asks_only s d ≡ true) (cond b (c ∷ []) [])
      by true e = (e, tt)
      by false e = tt

  parts_only : (c : Condition) → AllByRecursion (λ d. asks_only s d ≡ true) (asked_in s c)
  parts_only (condition.And' b c d e) = each_append _ (asked_in s c) (asked_in s e) (parts_only c) (parts_only e)
  parts_only (condition.Not' b c) = one_only (condition.Not' b c)
  parts_only (condition.Or' b c d e) = one_only (condition.Or' b c d e)
  parts_only (condition.Has p) = one_only (condition.Has p)
  parts_only (condition.Compare o operator x) = one_only (condition.Compare o operator x)
  parts_only (condition.Same k q) = one_only (condition.Same k q)
  parts_only (condition.Child k q) = one_only (condition.Child k q)
  parts_only (condition.Descendant k q) = one_only (condition.Descendant k q)

-- what is asked in the end
abbrev pub hold : Option Condition → Tuple → Bool
hold asks t = option_map_or (holds t) asks true

asked_hold : (asks : Option Condition) (s : ℕ) (outer : Bool) (later : List Join) (t : Tuple) → hold asks t ≡ true → list_all (holds t) (asked_early asks s outer later) ≡ true
asked_hold asks s outer later t h = by (outer || list_any is_right_outer later) (of asks h)
  where
    of : (asks : Option Condition) → hold asks t ≡ true → list_all (holds t) (option_map_or (asked_in s) asks []) ≡ true
    of None h = refl
    of (Some c) h = parts_hold s t c h

    by : (b : Bool) → list_all (holds t) (option_map_or (asked_in s) asks []) ≡ true → list_all (holds t) (cond b [] (option_map_or (asked_in s) asks [])) ≡ true
    by true e = refl
    by false e = e

pub asked_only : (asks : Option Condition) (s : ℕ) (outer : Bool) (later : List Join) → AllByRecursion (λ d. asks_only s d ≡ true) (asked_early asks s outer later)
asked_only asks s outer later = by (outer || list_any is_right_outer later) (of asks)
  where
    of : (asks : Option Condition) → AllByRecursion (λ d. asks_only s d ≡ true) (option_map_or (asked_in s) asks [])
    of None = tt
    of (Some c) = parts_only s c

    by : (b : Bool) → AllByRecursion (λ d. asks_only s d ≡ true) (option_map_or (asked_in s) asks []) → AllByRecursion (λ d. asks_only s d ≡ true) (cond b [] (option_map_or (asked_in s) asks []))
    by true e = tt
    by false e = e

-- ---- filters

pub each : {X : Type 0} {P : X → Type 0} → ((x : X) → P x) → (xs : List X) → AllByRecursion P xs
each h [] = tt
each h (x ∷ xs) = (h x, each h xs)

weaker : {X : Type 0} {P Q : X → Type 0} → ((x : X) → P x → Q x) → (xs : List X) → AllByRecursion P xs → AllByRecursion Q xs
weaker h [] all = tt
weaker h (x ∷ xs) all = (h x all.0, weaker h xs all.1)

pub skip : {X : Type 0} (g : X → Bool) (y : X) (ys : List X) → g y ≡ false → filter g (y ∷ ys) ≡ filter g ys
skip g y ys e = ap (λ b. cond b (y ∷ filter g ys) (filter g ys)) e

take_true : {X : Type 0} (g : X → Bool) (y : X) (ys : List X) → g y ≡ true → filter g (y ∷ ys) ≡ y ∷ filter g ys
take_true g y ys e = ap (λ b. cond b (y ∷ filter g ys) (filter g ys)) e

filter_all : {X : Type 0} (g : X → Bool) (xs : List X) → AllByRecursion (λ x. g x ≡ true) xs → filter g xs ≡ xs
filter_all g [] all = refl
filter_all g (x ∷ xs) all = take_true g x xs all.0 ∙ ap (λ r. x ∷ r) (filter_all g xs all.1)

filter_none : {X : Type 0} (g : X → Bool) (xs : List X) → AllByRecursion (λ x. g x ≡ false) xs → filter g xs ≡ []
filter_none g [] all = refl
filter_none g (x ∷ xs) all = skip g x xs all.0 ∙ filter_none g xs all.1

module _ {X Y : Type 0} (f : X → Y) where
  pub filter-map : (p : Y → Bool) (xs : List X) → filter p (map f xs) ≡ map f (filter (λ x. p (f x)) xs)
  filter-map p [] = refl
  filter-map p (x ∷ xs) = by (p (f x)) (filter-map p xs)
    where
      by : (b : Bool) → filter p (map f xs) ≡ map f (filter (λ x. p (f x)) xs) → cond b (f x ∷ filter p (map f xs)) (filter p (map f xs)) ≡ map f (cond b (x ∷ filter (λ x. p (f x)) xs) (filter (λ x. p (f x)) xs))
      by true e = ap (λ r. f x ∷ r) e
      by false e = e

  pub each_map : (P : Y → Type 0) (xs : List X) → AllByRecursion (λ x. P (f x)) xs → AllByRecursion P (map f xs)
  each_map P [] all = tt
  each_map P (x ∷ xs) all = (all.0, each_map P xs all.1)

  module _ (lone q : X → Bool) (g : Y → Bool) where
    -- what a filter drops makes nothing that passes
    thinned : (xs : List X) → AllByRecursion (λ x. g (f x) ≡ true → q x ≡ true) xs → filter g (map f (filter lone (filter q xs))) ≡ filter g (map f (filter lone xs))
    thinned [] all = refl
    thinned (x ∷ xs) all = by (q x) refl all.0 (thinned xs all.1)
      where
        both : (c : Bool) (us vs : List X) → filter g (map f us) ≡ filter g (map f vs) → filter g (map f (cond c (x ∷ us) us)) ≡ filter g (map f (cond c (x ∷ vs) vs))
        both true us vs e = ap (λ r. cond (g (f x)) (f x ∷ r) r) e
        both false us vs e = e

        dropped : (c : Bool) (us : List X) → g (f x) ≡ false → filter g (map f us) ≡ filter g (map f (cond c (x ∷ us) us))
        dropped true us e = sym (skip g (f x) (map f us) e)
        dropped false us e = refl

        by : (a : Bool) → q x ≡ a → (g (f x) ≡ true → q x ≡ true) → filter g (map f (filter lone (filter q xs))) ≡ filter g (map f (filter lone xs))
            → filter g (map f (filter lone (cond a (x ∷ filter q xs) (filter q xs)))) ≡ filter g (map f (cond (lone x) (x ∷ filter lone xs) (filter lone xs)))
        by true e k h = both (lone x) (filter lone (filter q xs)) (filter lone xs) h
        by false e k h = h ∙ dropped (lone x) (filter lone xs) (false_from_ne_true _ (λ t. false≢true (sym e ∙ k t)))

-- ---- joins

abbrev pub Sized : ℕ → List Tuple → Type 0
Sized n ls = AllByRecursion (λ l. length l ≡ n) ls

pub pairs_cons : (on : On) (l : Tuple) (ls : List Tuple) (rs : List Spot) → pairs on (l ∷ ls) rs ≡ map (with_spot l) (filter (λ r. joins on (with_spot l r)) rs) ++ pairs on ls rs
pairs_cons on l ls rs =
    filter-append (joins on) (map (with_spot l) rs) (flat_map (λ t. map (with_spot t) rs) ls)
    ∙ ap (λ ts. ts ++ pairs on ls rs) (filter-map (with_spot l) (joins on) rs)

each_filter : {X : Type 0} (P : X → Type 0) (p : X → Bool) (xs : List X) → AllByRecursion P xs → AllByRecursion P (filter p xs)
each_filter P p [] all = tt
each_filter P p (x ∷ xs) all = by (p x) (each_filter P p xs all.1)
  where
    by : (b : Bool) → AllByRecursion P (filter p xs) → AllByRecursion P (cond b (x ∷ filter p xs) (filter p xs))
    by true rest = (all.0, rest)
    by false rest = rest

longer : (l : Tuple) (x : Option Spot) → length (l ++ x ∷ []) ≡ length l + 1
longer l x = length-append l (x ∷ [])

sized_pairs : (on : On) (n : ℕ) (ls : List Tuple) (rs : List Spot) → Sized n ls → Sized (n + 1) (pairs on ls rs)
sized_pairs on n [] rs all = tt
sized_pairs on n (l ∷ ls) rs all =
    subst (Sized (n + 1)) (sym (pairs_cons on l ls rs))
    (each_append _ (map (with_spot l) (filter (λ r. joins on (with_spot l r)) rs)) (pairs on ls rs)
    (each_map (with_spot l) _ (filter (λ r. joins on (with_spot l r)) rs) (each (λ r. longer l (Some r) ∙ ap (λ k. k + 1) all.0) _))
    (sized_pairs on n ls rs all.1))

abbrev pub nones : ℕ → List (Option Spot)
nones n = repeat n (None ∷ [])

pub missing : (n : ℕ) → length (nones n) ≡ n
missing zero = refl
missing (suc n) = ap suc (missing n)

length_alone : (n : ℕ) (r : Spot) → length (alone n r) ≡ n + 1
length_alone n r = longer (nones n) (Some r) ∙ ap (λ k. k + 1) (missing n)

sized_lonely : (kind : JoinKind) (on : On) (n : ℕ) (ls : List Tuple) (rs : List Spot) → Sized n ls → Sized (n + 1) (lonely kind on n ls rs)
sized_lonely Inner on n ls rs all = tt
sized_lonely LeftOuter on n ls rs all =
    each_map (λ l. l ++ None ∷ []) _ (filter (is_lonely_tuple on rs) ls) (weaker (λ l e. longer l None ∙ ap (λ k. k + 1) e) _ (each_filter _ (is_lonely_tuple on rs) ls all))
sized_lonely RightOuter on n ls rs all = each_map (alone n) _ (filter (is_lonely_spot on ls) rs) (each (λ r. length_alone n r) _)

pub sized_joined : (j : Join) (n : ℕ) (ls : List Tuple) (rs : List Spot) → Sized n ls → Sized (n + 1) (joined_tuples j n ls rs)
sized_joined j n ls rs all = each_append _ (pairs j.on ls rs) (lonely j.kind j.on n ls rs) (sized_pairs j.on n ls rs all) (sized_lonely j.kind j.on n ls rs all)

module _ (n : ℕ) (g g' : Tuple → Bool) (local : (l : Tuple) (x : Option Spot) → length l ≡ n → g' (l ++ x ∷ []) ≡ true → g l ≡ true) where
  left_pairs : (on : On) (ls : List Tuple) (rs : List Spot) → Sized n ls → filter g' (pairs on (filter g ls) rs) ≡ filter g' (pairs on ls rs)
  left_pairs on [] rs all = refl
  left_pairs on (l ∷ ls) rs all = by (g l) refl (left_pairs on ls rs all.1)
    where
      front : List Tuple
      front = map (with_spot l) (filter (λ r. joins on (with_spot l r)) rs)

      by : (b : Bool) → g l ≡ b → filter g' (pairs on (filter g ls) rs) ≡ filter g' (pairs on ls rs) → filter g' (pairs on (cond b (l ∷ filter g ls) (filter g ls)) rs) ≡ filter g' (pairs on (l ∷ ls) rs)
      by true e h =
          ap (filter g') (pairs_cons on l (filter g ls) rs)
          ∙ filter-append g' front (pairs on (filter g ls) rs)
          ∙ ap (λ ts. filter g' front ++ ts) h
          ∙ sym (ap (filter g') (pairs_cons on l ls rs) ∙ filter-append g' front (pairs on ls rs))
      by false e h =
          let none : filter g' front ≡ [] = filter_none g' front (each_map (with_spot l) _ _ (each (λ r. false_from_ne_true _ (λ t. false≢true (sym e ∙ local l (Some r) all.0 t))) _)) in
          h ∙ sym (ap (filter g') (pairs_cons on l ls rs) ∙ filter-append g' front (pairs on ls rs) ∙ ap (λ ts. ts ++ filter g' (pairs on ls rs)) none)

  module _ (q : Spot → Bool) (node : (l : Tuple) (r : Spot) → length l ≡ n → g' (with_spot l r) ≡ true → q r ≡ true) where
    right_pairs : (on : On) (ls : List Tuple) (rs : List Spot) → Sized n ls → filter g' (pairs on ls (filter q rs)) ≡ filter g' (pairs on ls rs)
    right_pairs on [] rs all = refl
    right_pairs on (l ∷ ls) rs all =
        ap (filter g') (pairs_cons on l ls (filter q rs))
        ∙ filter-append g' _ (pairs on ls (filter q rs))
        ∙ (λ i. thinned (with_spot l) (λ r. joins on (with_spot l r)) q g' rs (each (λ r. node l r all.0) rs) i ++ right_pairs on ls rs all.1 i)
        ∙ sym (ap (filter g') (pairs_cons on l ls rs) ∙ filter-append g' _ (pairs on ls rs))

    module _ (lone : (r : Spot) → g' (alone n r) ≡ true → q r ≡ true) where
      seen_pairs : (on : On) (ls ls' : List Tuple) (rs : List Spot) → Sized n ls → Sized n ls' → filter g ls' ≡ filter g ls → filter g' (pairs on ls' (filter q rs)) ≡ filter g' (pairs on ls rs)
      seen_pairs on ls ls' rs all all' same =
          right_pairs on ls' rs all'
          ∙ sym (left_pairs on ls' rs all')
          ∙ ap (λ ts. filter g' (pairs on ts rs)) same
          ∙ left_pairs on ls rs all

      seen_lonely : (kind : JoinKind) (on : On) (ls ls' : List Tuple) (rs : List Spot) → Sized n ls → Sized n ls' → filter g ls' ≡ filter g ls
          → (kind_is LeftOuter kind ≡ true → (r : Spot) → q r ≡ true) → (kind_is RightOuter kind ≡ true → (l : Tuple) → g l ≡ true)
          → filter g' (lonely kind on n ls' (filter q rs)) ≡ filter g' (lonely kind on n ls rs)
      seen_lonely Inner on ls ls' rs all all' same left right = refl
      seen_lonely LeftOuter on ls ls' rs all all' same left right =
          let thin : (ts : List Tuple) → Sized n ts → filter g' (lonely_tuples on (filter g ts) rs) ≡ filter g' (lonely_tuples on ts rs) =
          λ ts sized. thinned (λ l. l ++ None ∷ []) (is_lonely_tuple on rs) g g' ts (weaker (λ l e. local l None e) ts sized)
          in
          ap (λ ss. filter g' (lonely_tuples on ls' ss)) (filter_all q rs (each (left refl) rs))
          ∙ sym (thin ls' all')
          ∙ ap (λ ts. filter g' (lonely_tuples on ts rs)) same
          ∙ thin ls all
      seen_lonely RightOuter on ls ls' rs all all' same left right =
          let one : ls' ≡ ls = sym (filter_all g ls' (each (right refl) ls')) ∙ same ∙ filter_all g ls (each (right refl) ls) in
          ap (λ ts. filter g' (lonely_spots on n ts (filter q rs))) one
          ∙ thinned (alone n) (is_lonely_spot on ls) q g' rs (each lone rs)

      seen : (j : Join) (ls ls' : List Tuple) (rs : List Spot) → Sized n ls → Sized n ls' → filter g ls' ≡ filter g ls
          → (kind_is LeftOuter j.kind ≡ true → (r : Spot) → q r ≡ true) → (kind_is RightOuter j.kind ≡ true → (l : Tuple) → g l ≡ true)
          → filter g' (joined_tuples j n ls' (filter q rs)) ≡ filter g' (joined_tuples j n ls rs)
      seen j ls ls' rs all all' same left right =
          filter-append g' (pairs j.on ls' (filter q rs)) (lonely j.kind j.on n ls' (filter q rs))
          ∙ (λ i. seen_pairs j.on ls ls' rs all all' same i ++ seen_lonely j.kind j.on ls ls' rs all all' same left right i)
          ∙ sym (filter-append g' (pairs j.on ls rs) (lonely j.kind j.on n ls rs))

-- ---- all joins

refine : {X : Type 0} (g h : X → Bool) → ((x : X) → h x ≡ true → g x ≡ true) → (xs : List X) → filter h (filter g xs) ≡ filter h xs
refine g h k [] = refl
refine g h k (x ∷ xs) = by (g x) refl (refine g h k xs)
  where
    by : (b : Bool) → g x ≡ b → filter h (filter g xs) ≡ filter h xs → filter h (cond b (x ∷ filter g xs) (filter g xs)) ≡ filter h (x ∷ xs)
    by true e rest = ap (λ r. cond (h x) (x ∷ r) r) rest
    by false e rest = rest ∙ sym (skip h x xs (false_from_ne_true _ (λ t. false≢true (sym e ∙ k x t))))

spot_before : (l : Tuple) (x : Option Spot) (k : ℕ) → k < length l → spot_of (l ++ x ∷ []) k ≡ spot_of l k
spot_before [] x k h = absurd (omega (arith, h))
spot_before (s ∷ l) x zero h = refl
spot_before (s ∷ l) x (suc k) h = spot_before l x k (omega (arith, h))

pub spot_behind : (l : Tuple) (r : Spot) (n : ℕ) → length l ≡ n → spot_of (l ++ Some r ∷ []) n ≡ Some r
spot_behind l r n e = ap (spot_of (l ++ Some r ∷ [])) (sym e) ∙ own_spot l r

or_true : (b : Bool) → (b || true) ≡ true
or_true true = refl
or_true false = refl

or_left : (b c : Bool) → b ≡ true → (b || c) ≡ true
or_left b c e = ap (λ d. d || c) e

asked_none : (asks : Option Condition) (s : ℕ) (outer : Bool) (later : List Join) → (outer || list_any is_right_outer later) ≡ true → asked_early asks s outer later ≡ []
asked_none asks s outer later e = ap (λ b. cond b [] (option_map_or (asked_in s) asks [])) e

module _ (asks : Option Condition) (tree : Nodes) where
  early_joins : (js : List Join) (sets : List (List Name)) (n : ℕ) (ls ls' : List Tuple) (g : Tuple → Bool)
      → ((l : Tuple) (x : Option Spot) → n ≤ length l → g (l ++ x ∷ []) ≡ g l)
      → ((t : Tuple) → hold asks t ≡ true → g t ≡ true)
      → (list_any is_right_outer js ≡ true → (l : Tuple) → g l ≡ true)
      → Sized n ls → Sized n ls' → filter g ls' ≡ filter g ls
      → filter (hold asks) (joined_early asks tree n ls' js sets) ≡ filter (hold asks) (joined_all tree n ls (zip js sets))
  early_joins [] sets n ls ls' g local needs right all all' same = sym (refine g (hold asks) needs ls') ∙ ap (filter (hold asks)) same ∙ refine g (hold asks) needs ls
  early_joins (j ∷ js) [] n ls ls' g local needs right all all' same = sym (refine g (hold asks) needs ls') ∙ ap (filter (hold asks)) same ∙ refine g (hold asks) needs ls
  early_joins (j ∷ js) (set ∷ sets) n ls ls' g local needs right all all' same =
      let parts : List Condition = asked_early asks n (kind_is LeftOuter j.kind) js in
      let only : AllByRecursion (λ d. asks_only n d ≡ true) parts = asked_only asks n (kind_is LeftOuter j.kind) js in
      let nodes : List Spot = nodes_of_type tree set in
      let next : Tuple → Bool = λ t. g t && list_all (holds t) parts in
      early_joins js sets (n + 1) (joined_tuples j n ls nodes) (joined_tuples j n ls' (early_nodes tree set parts n)) next
      (λ l x h. λ i. local l x (omega (arith, h)) i && all_same n (l ++ x ∷ []) l (spot_before l x n (omega (arith, h))) parts only i)
      (λ t h. and_from _ _ (needs t h) (asked_hold asks n (kind_is LeftOuter j.kind) js t h))
      (λ e l. and_from _ _ (right (ap (λ b. is_right_outer j || b) e ∙ or_true (is_right_outer j)) l)
      (ap (list_all (holds l)) (asked_none asks n (kind_is LeftOuter j.kind) js (ap (λ b. kind_is LeftOuter j.kind || b) e ∙ or_true (kind_is LeftOuter j.kind)))))
      (sized_joined j n ls nodes all) (sized_joined j n ls' (early_nodes tree set parts n) all')
      (seen n g next
      (λ l x e h. sym (local l x (omega (arith, e))) ∙ (and_parts _ _ h).0)
      (passes parts n)
      (λ l r e h. all_same n (alone n r) (with_spot l r) (spot_behind (nones n) r n (missing n) ∙ sym (spot_behind l r n e)) parts only ∙ (and_parts _ _ h).1)
      (λ r h. (and_parts _ _ h).1)
      j ls ls' nodes all all' same
      (λ e r. ap (list_all (holds (alone n r))) (asked_none asks n (kind_is LeftOuter j.kind) js (or_left _ _ e)))
      (λ e l. right (or_left _ _ e) l))

  early_tuples : (js : List Join) (sets : List (List Name)) → filter (hold asks) (tuples_early asks tree js sets) ≡ filter (hold asks) (tuples_of tree js sets)
  early_tuples js [] = refl
  early_tuples js (set ∷ sets) =
      let parts : List Condition = asked_early asks 0 false js in
      let only : AllByRecursion (λ d. asks_only 0 d ≡ true) parts = asked_only asks 0 false js in
      let nodes : List Spot = nodes_of_type tree set in
      let single : Spot → Tuple = λ e. Some e ∷ [] in
      early_joins js sets 1 (map single nodes) (map single (early_nodes tree set parts 0)) (λ t. list_all (holds t) parts)
      (λ l x h. all_same 0 (l ++ x ∷ []) l (spot_before l x 0 (omega (arith, h))) parts only)
      (λ t h. asked_hold asks 0 false js t h)
      (λ e l. ap (list_all (holds l)) (asked_none asks 0 false js e))
      (each_map single _ nodes (each (λ r. refl) nodes)) (each_map single _ (early_nodes tree set parts 0) (each (λ r. refl) _))
      (filter-map single (λ t. list_all (holds t) parts) (early_nodes tree set parts 0)
      ∙ ap (map single) (refine (passes parts 0) (passes parts 0) (λ r h. h) nodes)
      ∙ sym (filter-map single (λ t. list_all (holds t) parts) nodes))

  pass_is : (ts : List Tuple) → that_pass asks ts ≡ filter (hold asks) ts
  pass_is ts = by asks
    where
      by : (asks : Option Condition) → that_pass asks ts ≡ filter (hold asks) ts
      by None = sym (filter_all (λ t. true) ts (each (λ t. refl) ts))
      by (Some c) = refl

  -- what passes in the end is the same
  pub early_found : (js : List Join) (sets : List (List Name)) → that_pass asks (tuples_early asks tree js sets) ≡ that_pass asks (tuples_of tree js sets)
  early_found js sets = pass_is (tuples_early asks tree js sets) ∙ early_tuples js sets ∙ sym (pass_is (tuples_of tree js sets))
