-- What is asked early, one node or one join more.
use Rattle.std.proofs.Common.{◌≡◌, ℕ, suc, zero, ◌+◌, ◌-◌, ◌<◌, ◌≤◌, Bool, true, false, cond, ◌&&◌, List, [], ◌∷◌, ◌++◌, map, length, get_or, take, drop, refl, sym, ap, ◌∙◌, subst, arith}
use Rattle.std.specs.Prelude.{Option, Some, None, ◌==◌}
use Rattle.std.specs.List.{AllByRecursion, filter, list_all}
use Rattle.std.specs.Option.{option_map_or}
use Rattle.std.specs.Ordering.{is_eq, is_lt, eq_by_cmp, ordering_reverse}
use Rattle.std.specs.Cmp.Lexicographic.{nat_list_cmp_total}
use Rattle.std.specs.declared.cmp.Ordering.{Ordering}
use Rattle.std.specs.declared.cmp.Ordering.TheVariants.{Less, Equal, Greater}
use Rattle.std.proofs.lemmas.Bool.{eqb-true, false≢true, and_parts, and_from}
use Rattle.std.proofs.lemmas.List.{map-append, take_all, take_more}
use Rattle.std.proofs.lemmas.List.Elements.{filter-append}
use Rattle.jr_path.specs.Names.{is_under, name_cmp, path_cmp}
use Rattle.jr_path.specs.declared.name.Name.{Name}
use Rattle.jr_path.specs.declared.path.Path.{Path}
use Rattle.jr_path.proofs.Maps.{path_exact}
use Rattle.jr_tree.specs.Trees.{Nodes}
use Rattle.sql_query.specs.declared.query.Condition.{Condition}
use Rattle.sql_query.specs.declared.query.Condition.TheVariants as condition
use Rattle.sql_query.specs.declared.query.Join.{Join}
use Rattle.sql_query.specs.declared.query.JoinKind.TheVariants.{LeftOuter}
use Rattle.sql_eval.specs.Conditions.{Spot, Tuple, holds, is_child, is_descendant, is_same_node, path_passes, spot_of}
use Rattle.sql_eval.specs.Joins.{is_among_types, joined_tuples, nodes_of_type, tuples_of}
use Rattle.sql_eval.specs.Rows.{that_pass}
use Rattle.sql_eval.proofs.Places.{first_and_rest}
use Rattle.sql_plan.specs.Early.{alone, asked_early, asks_only, early_nodes, is_within, joined_early, kind_is, passes, tuples_early}
use Rattle.sql_plan.proofs.Seen.{Sized, each, each_map, early_found, missing, nones, spot_behind}

module _ (set : List Name) (parts : List Condition) (s : ℕ) where
  early_append : (xs ys : List Spot) → early_nodes (xs ++ ys) set parts s ≡ early_nodes xs set parts s ++ early_nodes ys set parts s
  early_append xs ys = ap (filter (passes parts s)) (filter-append (λ e. is_among_types set e.1) xs ys) ∙ filter-append (passes parts s) (nodes_of_type xs set) (nodes_of_type ys set)

  pub early_more : {A : Type 0} (f : A → Spot) (xs : List A) (i : ℕ) (x : A) (old new : List Spot) → i < length xs → x ≡ get_or xs i x → new ≡ old ++ early_nodes (f x ∷ []) set parts s → old ≡ early_nodes (map f (take i xs)) set parts s
      → new ≡ early_nodes (map f (take (i + 1) xs)) set parts s
  early_more f xs i x old new within at made before =
      made
      ∙ ap (λ es. es ++ early_nodes (f x ∷ []) set parts s) before
      ∙ sym (early_append (map f (take i xs)) (f x ∷ []))
      ∙ ap (λ es. early_nodes es set parts s) (sym (map-append f (take i xs) (x ∷ [])) ∙ ap (map f) (ap (λ y. take i xs ++ y ∷ []) at ∙ sym (take_more xs i x within)))

  -- ---- what a part asks of a path

  name_itself : (n : Name) → eq_by_cmp name_cmp n n ≡ true
  name_itself n = by (name_cmp n n) (nat_list_cmp_total.antisymm n n)
    where
      by : (o : Ordering) → o ≡ ordering_reverse o → is_eq o ≡ true
      by Less h = absurd (false≢true (sym (ap is_lt h)))
      by Equal h = refl
      by Greater h = absurd (false≢true (ap is_lt h))

  under_front : (p : Path) (n : ℕ) → is_under p (take n p) ≡ true
  under_front p zero = front p
    where
      front : (p : Path) → is_under p [] ≡ true
      front [] = refl
      front (n ∷ p) = refl
  under_front [] (suc n) = refl
  under_front (x ∷ p) (suc n) = and_from _ _ (name_itself x) (under_front p n)

  same_under : (p q : Path) → is_same_node p q ≡ true → is_under p q ≡ true
  same_under p q h =
      let is : p ≡ q = path_exact p q (exactly _ h) in
      ap (is_under p) (sym is ∙ sym (take_all (length p) p (omega arith))) ∙ under_front p (length p)
    where
      exactly : (o : Ordering) → is_eq o ≡ true → o ≡ Equal
      exactly Less e = absurd (false≢true e)
      exactly Equal e = refl
      exactly Greater e = absurd (false≢true e)

  child_under : (p q : Path) → is_child p q ≡ true → is_under p q ≡ true
  child_under p q h = by (length p == 0) h
    where
      exactly : (o : Ordering) → is_eq o ≡ true → o ≡ Equal
      exactly Less e = absurd (false≢true e)
      exactly Equal e = refl
      exactly Greater e = absurd (false≢true e)

      by : (b : Bool) → option_map_or (eq_by_cmp path_cmp q) (cond b None (Some (take (length p - 1) p))) false ≡ true → is_under p q ≡ true
      by true e = absurd (false≢true e)
      by false e = ap (is_under p) (path_exact q (take (length p - 1) p) (exactly _ e)) ∙ under_front p (length p - 1)

  passed : (e : Spot) (k : ℕ) (f : Path → Bool) → (k == s) ≡ true → path_passes f (spot_of (alone s e) k) ≡ true → f e.0 ≡ true
  passed e k f is h = sym (ap (path_passes f) (ap (spot_of (alone s e)) (eqb-true k s is) ∙ spot_behind (nones s) e s (missing s))) ∙ h

  part_within : (e : Spot) (c : Condition) → asks_only s c ≡ true → holds (alone s e) c ≡ true → is_within e.0 c ≡ true
  part_within e (condition.Same k q) only h = same_under e.0 q (passed e k (λ p. is_same_node p q) only h)
  part_within e (condition.Child k q) only h = child_under e.0 q (passed e k (λ p. is_child p q) only h)
  part_within e (condition.Descendant k q) only h = (and_parts _ _ (passed e k (λ p. is_descendant p q) only h)).0
  part_within e (condition.Not' b c) only h = refl
  part_within e (condition.And' b c d f) only h = refl
  part_within e (condition.Or' b c d f) only h = refl
  part_within e (condition.Has p) only h = refl
  part_within e (condition.Compare o operator x) only h = refl

  all_within : (e : Spot) (cs : List Condition) → AllByRecursion (λ c. asks_only s c ≡ true) cs → list_all (holds (alone s e)) cs ≡ true → list_all (is_within e.0) cs ≡ true
  all_within e [] only h = refl
  all_within e (c ∷ cs) only h = let halves = and_parts _ _ h in and_from _ _ (part_within e c only.0 halves.0) (all_within e cs only.1 halves.1)

  both : (xs : List Spot) → early_nodes xs set parts s ≡ filter (λ e. is_among_types set e.1 && passes parts s e) xs
  both [] = refl
  both (e ∷ xs) = by (is_among_types set e.1) (both xs)
    where
      by : (b : Bool) → early_nodes xs set parts s ≡ filter (λ e. is_among_types set e.1 && passes parts s e) xs
          → filter (passes parts s) (cond b (e ∷ nodes_of_type xs set) (nodes_of_type xs set)) ≡ cond (b && passes parts s e) (e ∷ filter (λ e. is_among_types set e.1 && passes parts s e) xs) (filter (λ e. is_among_types set e.1 && passes parts s e) xs)
      by true h = ap (λ r. cond (passes parts s e) (e ∷ r) r) h
      by false h = h

  -- a range that has all nodes that its parts ask for has those that pass
  pub early_range : AllByRecursion (λ c. asks_only s c ≡ true) parts → (xs ys : List Spot) → ((f : Spot → Bool) → ((e : Spot) → f e ≡ true → list_all (is_within e.0) parts ≡ true) → filter f xs ≡ filter f ys) → early_nodes xs set parts s ≡ early_nodes ys set parts s
  early_range only xs ys same =
      both xs ∙ same (λ e. is_among_types set e.1 && passes parts s e) (λ e h. all_within e parts only (and_parts _ _ h).1) ∙ sym (both ys)

-- ---- joins

pub begins_sized : (ts : List Tuple) (es : List Spot) → ts ≡ map (λ e. Some e ∷ []) es → Sized 1 ts
begins_sized ts es made = subst (Sized 1) (sym made) (each_map (λ e. Some e ∷ []) _ es (each (λ e. refl) es))

module _ {V : Type 0} (items : V → List Name) (asks : Option Condition) (nodes : Nodes) where
  pub begins : (js : List Join) (sets : List V) (first : V) (ts : List Tuple) (set : List Name) → 1 ≤ length sets → first ≡ get_or sets 0 first → set ≡ items first → ts ≡ map (λ e. Some e ∷ []) (early_nodes nodes set (asked_early asks 0 false js) 0)
      → joined_early asks nodes 1 ts js (map items (take (length sets - 1) (drop 1 sets))) ≡ tuples_early asks nodes js (map items sets)
  begins js sets first ts set some is at made =
      ap (λ us. joined_early asks nodes 1 us js (map items (take (length sets - 1) (drop 1 sets)))) (made ∙ ap (λ ns. map (λ e. Some e ∷ []) (early_nodes nodes ns (asked_early asks 0 false js) 0)) at)
      ∙ sym (ap (λ ss. tuples_early asks nodes js (map items ss)) (first_and_rest sets first some is))

  pub goes_on : (n : ℕ) (js : List Join) (sets : List V) (j : Join) (set : V) (ts us total : List Tuple) → 1 ≤ length js → j ≡ get_or js 0 j → 1 ≤ length sets → set ≡ get_or sets 0 set
      → us ≡ joined_tuples j n ts (early_nodes nodes (items set) (asked_early asks n (kind_is LeftOuter j.kind) (take (length js - 1) (drop 1 js))) n)
      → joined_early asks nodes n ts js (map items sets) ≡ total
      → joined_early asks nodes (n + 1) us (take (length js - 1) (drop 1 js)) (map items (take (length sets - 1) (drop 1 sets))) ≡ total
  goes_on n js sets j set ts us total some_j is_j some_set is_set made before =
      ap (λ vs. joined_early asks nodes (n + 1) vs (take (length js - 1) (drop 1 js)) (map items (take (length sets - 1) (drop 1 sets)))) made
      ∙ (λ i. joined_early asks nodes n ts (sym (first_and_rest js j some_j is_j) i) (map items (sym (first_and_rest sets set some_set is_set) i)))
      ∙ before

pub found_is : (asks own : Option Condition) (tree nodes : Nodes) (js own_js : List Join) (sets : List (List Name)) (ts all : List Tuple) → own ≡ asks → nodes ≡ tree → own_js ≡ js → all ≡ tuples_early own nodes own_js sets → ts ≡ that_pass asks all → ts ≡ that_pass asks (tuples_of tree js sets)
found_is asks own tree nodes js own_js sets ts all a b c made is =
    is ∙ ap (that_pass asks) (made ∙ (λ i. tuples_early (a i) (b i) (c i) sets)) ∙ early_found asks tree js sets
