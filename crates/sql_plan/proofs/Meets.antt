-- A tuple and a node that are as a join condition asks have a key in common.
use Rattle.std.proofs.Common.{◌≡◌, ℕ, suc, zero, Bool, true, false, cond, not, List, [], ◌∷◌, ◌++◌, map, length, refl, sym, ap, ◌∙◌, subst, nat_eq, arith}
use Rattle.std.specs.Prelude.{Option, Some, None}
use Rattle.std.specs.List.{Any, Contains, list_any}
use Rattle.std.specs.Cmp.{IsTotalOrder, on_total, then_total}
use Rattle.std.specs.Cmp.Lexicographic.{nat_list_cmp_total, options_total}
use Rattle.std.specs.Option.{option_map_or}
use Rattle.std.specs.Ordering.{is_eq, is_lt, eq_by_cmp, ordering_reverse, ordering_then}
use Rattle.std.specs.declared.cmp.Ordering.{Ordering}
use Rattle.std.specs.declared.cmp.Ordering.TheVariants.{Less, Equal, Greater}
use Rattle.std.proofs.lemmas.Bool.{eqb-true, eqb-false, false≢true, and_parts}
use Rattle.std.proofs.lemmas.List.Elements.{Contains-append_right, Contains-get_or}
use Rattle.std.proofs.lemmas.List.Folds.{Any-from_list_any}
use Rattle.jr_path.specs.Names.{name_cmp, path_cmp, parent_of, is_under}
use Rattle.jr_path.specs.declared.path.Path.{Path as PathOf}
use Rattle.jr_path.proofs.Maps.{name_exact, path_exact, path_total}
use Rattle.jr_value.specs.declared.value.Value.{Value as ValueOf}
use Rattle.jr_value.specs.declared.value.Value.TheVariants as value
use Rattle.sql_query.specs.declared.query.On.{On}
use Rattle.sql_query.specs.declared.query.On.TheVariants as join_on
use Rattle.sql_query.specs.declared.query.PropertyOf.{PropertyOf}
use Rattle.sql_query.specs.declared.query.Operator.TheVariants as op
use Rattle.sql_eval.specs.Conditions.{Spot, Tuple, is_child, is_descendant, is_same_node, property_in, tuple_property, spot_of}
use Rattle.sql_eval.specs.Joins.{joins, paths_pass, with_spot}
use Rattle.sql_eval.specs.Keys.{kinds_first_total}
use Rattle.sql_values.specs.Values.{compares, some_equal, values_in}
use Rattle.sql_plan.specs.Index.{Sought, Any as AnyKey, Value, Path, is_same_key, key_cmp, path_in, sought_value}
use Rattle.sql_plan.specs.Links.{Equal as EqualBy, Paths, paths_above, chosen, equal_link, keys_of_node, keys_of_tuple, link_of, paths_link, reached, reached_by, values_sought}
use Rattle.sql_plan.specs.declared.link.Reach.{Reach}
use Rattle.sql_plan.specs.declared.link.Reach.TheVariants.{Itself, Parent, Above}

pub key_total : IsTotalOrder key_cmp
key_total = then_total (on_total sought_value (options_total kinds_first_total)) (on_total path_in (options_total path_total))

-- a key of the first list and one of the second are the same
pub record Common (ks ms : List Sought) : Type 0 where
  pub k : Sought
  pub m : Sought
  pub in_ks : Contains ks k
  pub in_ms : Contains ms m
  pub same : is_same_key k m ≡ true

exactly : (o : Ordering) → is_eq o ≡ true → o ≡ Equal
exactly Less h = absurd (false≢true h)
exactly Equal h = refl
exactly Greater h = absurd (false≢true h)

back_equal : (o : Ordering) → is_eq o ≡ true → is_eq (ordering_reverse o) ≡ true
back_equal Less h = h
back_equal Equal h = refl
back_equal Greater h = h

pub same_back : (k m : Sought) → is_same_key k m ≡ true → is_same_key m k ≡ true
same_back k m h = ap is_eq (key_total.antisymm m k) ∙ back_equal (key_cmp k m) h

pub common_back : (ks ms : List Sought) → Common ks ms → Common ms ks
common_back ks ms c = record { k = c.m; m = c.k; in_ks = c.in_ms; in_ms = c.in_ks; same = same_back c.k c.m c.same }

pub contains_map : {X Y : Type 0} (f : X → Y) (xs : List X) (x : X) → Contains xs x → Contains (map f xs) (f x)
contains_map f [] x c = absurd (omega (arith, c.1))
contains_map f (y ∷ ys) x (zero, within, is) = (zero, omega arith, ap f is)
contains_map f (y ∷ ys) x (suc k, within, is) =
    let rest : Contains (map f ys) (f x) = contains_map f ys x (k, omega (arith, within), is) in
    Contains-append_right (f y ∷ []) (map f ys) (f x) rest

here : {X : Type 0} (x : X) (xs : List X) → Contains (x ∷ xs) x
here x xs = Contains-get_or (x ∷ xs) 0 x (omega arith)

-- ---- values

value_here : (o : Ordering) → is_eq o ≡ true → is_eq (ordering_then o Equal) ≡ true
value_here Less h = h
value_here Equal h = h
value_here Greater h = h

value_same : (x y : ValueOf) → compares op.Equal x y ≡ true → is_same_key (Value x) (Value y) ≡ true
value_same (value.Str a) (value.Str b) h = value_here (name_cmp a b) h
value_same (value.Binary a) (value.Binary b) h = value_here (name_cmp a b) h
value_same (value.Name a) (value.Name b) h = value_here (name_cmp a b) h
value_same (value.Uri a) (value.Uri b) h = value_here (name_cmp a b) h
value_same (value.Path a) (value.Path b) h = value_here _ h
value_same (value.Long a) (value.Long b) h = value_here _ h
value_same (value.Date a) (value.Date b) h = value_here _ h
value_same (value.Boolean a) (value.Boolean b) h = value_here _ h
value_same (value.Reference a) (value.Reference b) h = value_here _ h
value_same (value.WeakReference a) (value.WeakReference b) h = value_here _ h
value_same _ _ h = absurd (false≢true h)

values_meet : (xs ys : List ValueOf) → list_any (λ y. list_any (λ x. compares op.Equal x y) xs) ys ≡ true → Common (values_sought xs) (values_sought ys)
values_meet xs ys h =
    let one : Any (λ y. list_any (λ x. compares op.Equal x y) xs ≡ true) ys = Any-from_list_any _ ys h in
    let two : Any (λ x. compares op.Equal x one.1 ≡ true) xs = Any-from_list_any _ xs one.4 in
    record {
      k = Value two.1;
      m = Value one.1;
      in_ks = contains_map Value xs two.1 (two.0, two.2, two.3);
      in_ms = contains_map Value ys one.1 (one.0, one.2, one.3);
      same = value_same two.1 one.1 two.4;
    }

-- ---- paths

path_itself : (p : PathOf) → is_same_key (Path p) (Path p) ≡ true
path_itself p = ap is_eq (itself (key_cmp (Path p) (Path p)) (key_total.antisymm (Path p) (Path p)))
  where
    itself : (o : Ordering) → o ≡ ordering_reverse o → o ≡ Equal
    itself Less h = absurd (false≢true (sym (ap is_lt h)))
    itself Equal h = refl
    itself Greater h = absurd (false≢true (ap is_lt h))

paths_meet : (ks ms : List Sought) (p : PathOf) → Contains ks (Path p) → Contains ms (Path p) → Common ks ms
paths_meet ks ms p a b = record { k = Path p; m = Path p; in_ks = a; in_ms = b; same = path_itself p }

above_has : (p q : PathOf) → is_under p q ≡ true → is_same_node p q ≡ false → Contains (paths_above p) q
above_has [] [] u n = absurd (false≢true (sym n))
above_has [] (m ∷ q) u n = absurd (false≢true u)
above_has (n ∷ p) [] u s = here [] (map (λ q. n ∷ q) (paths_above p))
above_has (n ∷ p) (m ∷ q) u s =
    let parts : (eq_by_cmp name_cmp m n ≡ true) × (is_under p q ≡ true) = and_parts _ _ u in
    let name : n ≡ m = sym (name_exact m n (exactly _ parts.0)) in
    let back : is_eq (name_cmp n m) ≡ true = ap is_eq (nat_list_cmp_total.antisymm n m) ∙ back_equal (name_cmp m n) parts.0 in
    let other : is_same_node p q ≡ false = rest (name_cmp n m) back s in
    Contains-append_right ([] ∷ []) (map (λ r. n ∷ r) (paths_above p)) (m ∷ q)
    (subst (λ k. Contains (map (λ r. n ∷ r) (paths_above p)) (k ∷ q)) name (contains_map (λ r. n ∷ r) (paths_above p) q (above_has p q parts.1 other)))
  where
    rest : (o : Ordering) → is_eq o ≡ true → is_eq (ordering_then o (path_cmp p q)) ≡ false → is_eq (path_cmp p q) ≡ false
    rest Less e h = absurd (false≢true e)
    rest Equal e h = h
    rest Greater e h = absurd (false≢true e)

same_reached : (p q : PathOf) → is_same_node p q ≡ true → Contains (reached Itself p) (Path q)
same_reached p q h = subst (λ r. Contains (reached Itself p) (Path r)) (path_exact p q (exactly _ h)) (here (Path p) [])

child_reached : (p q : PathOf) → is_child p q ≡ true → Contains (reached Parent p) (Path q)
child_reached p q h = by (parent_of p) h
  where
    by : (o : Option PathOf) → option_map_or (eq_by_cmp path_cmp q) o false ≡ true → Contains (option_map_or (λ r. Path r ∷ []) o []) (Path q)
    by None e = absurd (false≢true e)
    by (Some r) e = subst (λ s. Contains (Path r ∷ []) (Path s)) (sym (path_exact q r (exactly _ e))) (here (Path r) [])

descendant_reached : (p q : PathOf) → is_descendant p q ≡ true → Contains (reached Above p) (Path q)
descendant_reached p q h =
    let parts : (is_under p q ≡ true) × (not (is_same_node p q) ≡ true) = and_parts _ _ h in
    contains_map Path (paths_above p) q (above_has p q parts.0 (unsame (is_same_node p q) parts.1))
  where
    unsame : (b : Bool) → not b ≡ true → b ≡ false
    unsame true e = sym e
    unsame false e = refl

-- ---- the selectors of a tuple with one more node

pub own_spot : (l : Tuple) (r : Spot) → spot_of (l ++ Some r ∷ []) (length l) ≡ Some r
own_spot [] r = refl
own_spot (s ∷ l) r = own_spot l r

other_spot : (l : Tuple) (r : Spot) (k : ℕ) → (k ≡ length l → ⊥) → spot_of (l ++ Some r ∷ []) k ≡ spot_of l k
other_spot [] r zero ne = absurd (ne refl)
other_spot [] r (suc k) ne = refl
other_spot (s ∷ l) r zero ne = refl
other_spot (s ∷ l) r (suc k) ne = other_spot l r k (λ e. ne (ap suc e))

spot_at : (l : Tuple) (r : Spot) (k : ℕ) (b : Bool) → nat_eq k (length l) ≡ b → spot_of (l ++ Some r ∷ []) k ≡ cond b (Some r) (spot_of l k)
spot_at l r k true e = ap (spot_of (l ++ Some r ∷ [])) (eqb-true k (length l) e) ∙ own_spot l r
spot_at l r k false e = other_spot l r k (eqb-false k (length l) e)

-- ---- joins

any_meets : Common (AnyKey ∷ []) (AnyKey ∷ [])
any_meets = record { k = AnyKey; m = AnyKey; in_ks = here AnyKey []; in_ms = here AnyKey []; same = refl }

equal_meets : (p q : PropertyOf) (l : Tuple) (r : Spot) → some_equal (tuple_property (with_spot l r) p) (tuple_property (with_spot l r) q) ≡ true → Common (keys_of_tuple (equal_link p q (length l)) l) (keys_of_node (equal_link p q (length l)) r)
equal_meets p q l r h = by (nat_eq p.selector (length l)) (nat_eq q.selector (length l)) refl refl
  where
    both : (s u : Option Spot) → spot_of (with_spot l r) p.selector ≡ s → spot_of (with_spot l r) q.selector ≡ u → Common (values_sought (values_in (property_in s p.name))) (values_sought (values_in (property_in u q.name)))
    both s u es eu = values_meet _ _ (sym (λ i. some_equal (property_in (es i) p.name) (property_in (eu i) q.name)) ∙ h)

    by : (b c : Bool) → nat_eq p.selector (length l) ≡ b → nat_eq q.selector (length l) ≡ c
        → Common (keys_of_tuple (chosen b c (EqualBy q p.name) (EqualBy p q.name)) l) (keys_of_node (chosen b c (EqualBy q p.name) (EqualBy p q.name)) r)
    by true true eb ec = any_meets
    by true false eb ec = common_back _ _ (both (Some r) (spot_of l q.selector) (spot_at l r p.selector true eb) (spot_at l r q.selector false ec))
    by false true eb ec = both (spot_of l p.selector) (Some r) (spot_at l r p.selector false eb) (spot_at l r q.selector true ec)
    by false false eb ec = any_meets

module _ (f : PathOf → PathOf → Bool) (reach : Reach) (reaches : (p q : PathOf) → f p q ≡ true → Contains (reached reach p) (Path q)) where
  two_meet : (s u : Option Spot) → paths_pass f s u ≡ true → Common (reached_by reach s) (reached_by Itself u)
  two_meet None None h = absurd (false≢true h)
  two_meet (Some e) None h = absurd (false≢true h)
  two_meet None (Some g) h = absurd (false≢true h)
  two_meet (Some e) (Some g) h = paths_meet (reached reach e.0) (reached Itself g.0) g.0 (reaches e.0 g.0 h) (here (Path g.0) [])

  path_meets : (a b : ℕ) (l : Tuple) (r : Spot) → paths_pass f (spot_of (with_spot l r) a) (spot_of (with_spot l r) b) ≡ true → Common (keys_of_tuple (paths_link a b reach (length l)) l) (keys_of_node (paths_link a b reach (length l)) r)
  path_meets a b l r h = by (nat_eq a (length l)) (nat_eq b (length l)) refl refl
    where
      both : (s u : Option Spot) → spot_of (with_spot l r) a ≡ s → spot_of (with_spot l r) b ≡ u → Common (reached_by reach s) (reached_by Itself u)
      both s u es eu = two_meet s u (sym (λ i. paths_pass f (es i) (eu i)) ∙ h)

      by : (c d : Bool) → nat_eq a (length l) ≡ c → nat_eq b (length l) ≡ d
          → Common (keys_of_tuple (chosen c d (Paths b Itself reach) (Paths a reach Itself)) l) (keys_of_node (chosen c d (Paths b Itself reach) (Paths a reach Itself)) r)
      by true true ec ed = any_meets
      by true false ec ed = common_back _ _ (both (Some r) (spot_of l b) (spot_at l r a true ec) (spot_at l r b false ed))
      by false true ec ed = both (spot_of l a) (Some r) (spot_at l r a false ec) (spot_at l r b true ed)
      by false false ec ed = any_meets

-- what is joined has a key in common
pub meets : (on : On) (l : Tuple) (r : Spot) → joins on (with_spot l r) ≡ true → Common (keys_of_tuple (link_of on (length l)) l) (keys_of_node (link_of on (length l)) r)
meets (join_on.Equal p q) l r h = equal_meets p q l r h
meets (join_on.Same a b) l r h = path_meets is_same_node Itself same_reached a b l r h
meets (join_on.Child a b) l r h = path_meets is_child Parent child_reached a b l r h
meets (join_on.Descendant a b) l r h = path_meets is_descendant Above descendant_reached a b l r h
