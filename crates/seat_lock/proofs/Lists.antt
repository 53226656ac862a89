-- Lists of views, lists that begin one list, and what a list of parts contains.
use Rattle.std.proofs.Common.{Bool, if◌then◌else◌, nat_le, true, false, not, cond, append_assoc, ◌+◌, ◌==◌, ◌||◌, ◌⊎◌, inl, inr, ◌≡◌, ◌≢◌, ℕ, zero, suc, ◌<◌, ◌≤◌, List, [], ◌∷◌, ◌++◌, length, set, refl, sym, ap, ◌∙◌, subst, ⊎_elim, arith, append-nil, map, filter, Contains}
use Rattle.std.proofs.lemmas.Bool.Decides.{nat_tests}
use mathlib.Core.Option.{some, some-injective, some-ne-none}
use mathlib.Core.List.{IsPrefix}
use mathlib.Core.Logic.{dite}
use native.Mathlib.Decide.{ℕ_discrete}
use lib.ListN.{get_elem?}
use Rattle.atomic_table.proofs.Lists.{at_set, set_else, at_longer}
use Rattle.seat_lock.specs.Rule.{total}
use Rattle.seat_lock.specs.Views.{longer, shorter, is_one_of}

module _ {A : Type 0} where
  -- each view fits after one of them has changed
  pub each_set : (P : ℕ → A → Type 0) (vs : List A) (by : ℕ) (w : A) → ((j : ℕ) (u : A) → j ≢ by → get_elem? vs j ≡ some u → P j u) → P by w
      → (j : ℕ) (u : A) → get_elem? (set vs by w) j ≡ some u → P j u
  each_set P vs by w others mine j u e =
      ⊎_elim
      (λ (x : (j ≡ by) × (w ≡ u)). subst (λ (y : ℕ × A). P y.0 y.1) (λ i. (sym x.0 i, x.1 i)) mine)
      (λ (x : (j ≢ by) × (get_elem? vs j ≡ some u)). others j u x.0 x.1)
      (at_set vs by j w u e)

  pub set_at : (vs : List A) (i : ℕ) (w v : A) → get_elem? vs i ≡ some v → get_elem? (set vs i w) i ≡ some w
  set_at [] i w v e = absurd (some-ne-none v (sym e))
  set_at (x ∷ xs) zero w v e = refl
  set_at (x ∷ xs) (suc i) w v e = set_at xs i w v e

  -- a view of which this holds
  abbrev pub Somewhere : (A → Type 0) → List A → Type 0
  Somewhere P vs = (by : ℕ) × (u : A) × (get_elem? vs by ≡ some u) × P u

  pub somewhere_set : (P : A → Type 0) (vs : List A) (id : ℕ) (v w : A) → get_elem? vs id ≡ some v → (P v → P w) → Somewhere P vs → Somewhere P (set vs id w)
  somewhere_set P vs id v w at goes h =
      dite (ℕ_discrete h.0 id)
      (λ is. (id, w, set_at vs id w v at, goes (subst P (some-injective h.1 v (sym h.2 ∙ ap (get_elem? vs) is ∙ at)) h.3)))
      (λ not. (h.0, h.1, set_else vs id h.0 w not ∙ h.2, h.3))

  pub somewhere_longer : (P : A → Type 0) (vs ws : List A) → Somewhere P vs → Somewhere P (vs ++ ws)
  somewhere_longer P vs ws h = (h.0, h.1, at_longer vs ws h.0 h.1 h.2, h.3)

  pub same_total : (f : A → ℕ) (vs : List A) (i : ℕ) (v w : A) → get_elem? vs i ≡ some v → f w ≡ f v → total f (set vs i w) ≡ total f vs
  same_total f [] i v w e same = refl
  same_total f (x ∷ xs) zero v w e same = ap (λ n. n + total f xs) (same ∙ ap f (sym (some-injective x v e)))
  same_total f (x ∷ xs) (suc i) v w e same = ap (λ n. f x + n) (same_total f xs i v w e same)

  pub total_set : (f : A → ℕ) (vs : List A) (i : ℕ) (v w : A) → get_elem? vs i ≡ some v → total f (set vs i w) + f v ≡ total f vs + f w
  total_set f [] i v w e = absurd (some-ne-none v (sym e))
  total_set f (x ∷ xs) zero v w e = let same : f x ≡ f v = ap f (some-injective x v e) in omega arith
  total_set f (x ∷ xs) (suc i) v w e = let more = total_set f xs i v w e in omega arith

  pub total_end : (f : A → ℕ) (vs : List A) (w : A) → total f (vs ++ w ∷ []) ≡ total f vs + f w
  total_end f [] w = omega arith
  total_end f (x ∷ xs) w = let more = total_end f xs w in omega arith

  pub total_one : (f : A → ℕ) (vs : List A) (i : ℕ) (v : A) → get_elem? vs i ≡ some v → f v ≤ total f vs
  total_one f [] i v e = absurd (some-ne-none v (sym e))
  total_one f (x ∷ xs) zero v e = let same : f x ≡ f v = ap f (some-injective x v e) in omega arith
  total_one f (x ∷ xs) (suc i) v e = let less = total_one f xs i v e in omega arith

  pub total_two : (f : A → ℕ) (vs : List A) (i j : ℕ) (u v : A) → i ≢ j → get_elem? vs i ≡ some u → get_elem? vs j ≡ some v → f u + f v ≤ total f vs
  total_two f [] i j u v apart a b = absurd (some-ne-none u (sym a))
  total_two f (x ∷ xs) zero zero u v apart a b = absurd (apart refl)
  total_two f (x ∷ xs) zero (suc j) u v apart a b = let same : f x ≡ f u = ap f (some-injective x u a) in let less = total_one f xs j v b in omega arith
  total_two f (x ∷ xs) (suc i) zero u v apart a b = let same : f x ≡ f v = ap f (some-injective x v b) in let less = total_one f xs i u a in omega arith
  total_two f (x ∷ xs) (suc i) (suc j) u v apart a b = let less = total_two f xs i j u v (λ e. apart (ap suc e)) a b in omega arith

  pub at_end : (l : List A) (a b : A) (j : ℕ) → get_elem? (l ++ a ∷ []) j ≡ some b → (get_elem? l j ≡ some b) ⊎ ((j ≡ length l) × (a ≡ b))
  at_end [] a b zero e = inr (refl, some-injective a b e)
  at_end [] a b (suc j) e = absurd (some-ne-none b (sym e))
  at_end (x ∷ xs) a b zero e = inl e
  at_end (x ∷ xs) a b (suc j) e = ⊎_elim (λ old. inl old) (λ (t : (j ≡ length xs) × (a ≡ b)). inr (ap suc t.0, t.1)) (at_end xs a b j e)

  pub within : (l : List A) (j : ℕ) (b : A) → get_elem? l j ≡ some b → j < length l
  within [] j b e = absurd (some-ne-none b (sym e))
  within (x ∷ xs) zero b e = omega arith
  within (x ∷ xs) (suc j) b e = let less = within xs j b e in omega arith

  -- beginnings of lists
  pub prefix_same : (xs : List A) → IsPrefix xs xs
  prefix_same xs = ([], append-nil xs)

  pub prefix_trans : (xs ys zs : List A) → IsPrefix xs ys → IsPrefix ys zs → IsPrefix xs zs
  prefix_trans xs ys zs p q = (p.0 ++ q.0, sym (append_assoc xs p.0 q.0) ∙ ap (λ l. l ++ q.0) p.1 ∙ q.1)

  pub prefix_length : (xs ys : List A) → IsPrefix xs ys → length xs ≤ length ys
  prefix_length [] ys p = omega arith
  prefix_length (x ∷ xs) [] p = absurd (cc)
  prefix_length (x ∷ xs) (y ∷ ys) p = let rest : xs ++ p.0 ≡ ys = cc in let less = prefix_length xs ys (p.0, rest) in omega arith

  -- of two beginnings of one list, the shorter begins the longer
  pub prefix_below : (xs ys zs : List A) → IsPrefix xs zs → IsPrefix ys zs → length xs ≤ length ys → IsPrefix xs ys
  prefix_below [] ys zs p q less = (ys, refl)
  prefix_below (x ∷ xs) [] zs p q less = absurd (omega arith)
  prefix_below (x ∷ xs) (y ∷ ys) [] p q less = absurd (cc)
  prefix_below (x ∷ xs) (y ∷ ys) (z ∷ zs) p q less =
      let left : xs ++ p.0 ≡ zs = cc in
      let right : ys ++ q.0 ≡ zs = cc in
      let head : x ≡ y = cc in
      let rest = prefix_below xs ys zs (p.0, left) (q.0, right) (omega arith) in
      (rest.0, (λ i. head i ∷ rest.1 i))

  -- the whole list is the only beginning that is as long
  pub prefix_whole : (xs zs : List A) → IsPrefix xs zs → length zs ≤ length xs → xs ≡ zs
  prefix_whole [] [] p less = refl
  prefix_whole [] (z ∷ zs) p less = absurd (omega arith)
  prefix_whole (x ∷ xs) [] p less = absurd (cc)
  prefix_whole (x ∷ xs) (z ∷ zs) p less =
      let left : xs ++ p.0 ≡ zs = cc in
      let head : x ≡ z = cc in
      let rest = prefix_whole xs zs (p.0, left) (omega arith) in
      (λ i. head i ∷ rest i)

  -- both begin the longer
  pub record Longer (xs ys zs long short : List A) : Type 0 where
    pub whole : IsPrefix long zs
    pub first : IsPrefix xs long
    pub second : IsPrefix ys long
    pub below : IsPrefix short long

  longer_if : (xs ys zs : List A) (b : Bool) → nat_le (length ys) (length xs) ≡ b → IsPrefix xs zs → IsPrefix ys zs → Longer xs ys zs (if b then xs else ys) (if b then ys else xs)
  longer_if xs ys zs true is p q =
      let less : length ys ≤ length xs = grind (arith, nat_tests) in
      let begins = prefix_below ys xs zs q p less in
      record { whole = p; first = prefix_same xs; second = begins; below = begins }
  longer_if xs ys zs false is p q =
      let less : length xs ≤ length ys = grind (arith, nat_tests) in
      let begins = prefix_below xs ys zs p q less in
      record { whole = q; first = begins; second = prefix_same ys; below = begins }

  pub longer_is : (xs ys zs : List A) → IsPrefix xs zs → IsPrefix ys zs → Longer xs ys zs (longer xs ys) (shorter xs ys)
  longer_is xs ys zs p q = longer_if xs ys zs (nat_le (length ys) (length xs)) refl p q

  -- what a list contains
  pub contains_more : (x y : A) (xs : List A) → Contains xs y → Contains (x ∷ xs) y
  contains_more x y xs h = (suc h.0, (let less = h.1 in omega arith), h.2)

  pub contains_none : (y : A) → Contains [] y → ⊥
  contains_none y h = let less = h.1 in absurd (omega arith)

  pub contains_cons : (x y : A) (xs : List A) (k : ℕ) → k < length (x ∷ xs) → lib.ListN.get_or (x ∷ xs) k y ≡ y → (x ≡ y) ⊎ Contains xs y
  contains_cons x y xs zero less e = inl e
  contains_cons x y xs (suc k) less e = inr (k, omega arith, e)

  contains_kept : (p : A → Bool) (b : Bool) (x y : A) (xs : List A) → p x ≡ b → (Contains (filter p xs) y → (p y ≡ true) × Contains xs y) → Contains (cond b (x ∷ filter p xs) (filter p xs)) y → (p y ≡ true) × Contains (x ∷ xs) y
  contains_kept p true x y xs is rest h =
      ⊎_elim
      (λ (same : x ≡ y). (subst (λ z. p z ≡ true) same is, (0, omega arith, same)))
      (λ (more : Contains (filter p xs) y). let t = rest more in (t.0, contains_more x y xs t.1))
      (contains_cons x y (filter p xs) h.0 h.1 h.2)
  contains_kept p false x y xs is rest h = let t = rest h in (t.0, contains_more x y xs t.1)

  pub contains_filter : (p : A → Bool) (xs : List A) (y : A) → Contains (filter p xs) y → (p y ≡ true) × Contains xs y
  contains_filter p [] y h = absurd (contains_none y h)
  contains_filter p (x ∷ xs) y h = contains_kept p (p x) x y xs refl (contains_filter p xs y) h

-- a list that is filtered contains what passes
contains_kept_too : {A : Type 0} (p : A → Bool) (b : Bool) (x y : A) (xs : List A) → p x ≡ b → p y ≡ true → (Contains xs y → Contains (filter p xs) y) → Contains (x ∷ xs) y → Contains (cond b (x ∷ filter p xs) (filter p xs)) y
contains_kept_too p true x y xs is pass rest h =
    ⊎_elim
    (λ (same : x ≡ y). (0, omega arith, same))
    (λ (more : Contains xs y). contains_more x y (filter p xs) (rest more))
    (contains_cons x y xs h.0 h.1 h.2)
contains_kept_too p false x y xs is pass rest h =
    ⊎_elim
    (λ (same : x ≡ y). let clash : true ≡ false = sym pass ∙ ap p (sym same) ∙ is in absurd (cc))
    (λ (more : Contains xs y). rest more)
    (contains_cons x y xs h.0 h.1 h.2)

pub contains_filter_too : {A : Type 0} (p : A → Bool) (xs : List A) (y : A) → p y ≡ true → Contains xs y → Contains (filter p xs) y
contains_filter_too p [] y pass h = absurd (contains_none y h)
contains_filter_too p (x ∷ xs) y pass h = contains_kept_too p (p x) x y xs refl pass (contains_filter_too p xs y pass) h

pub contains_map_too : {A B : Type 0} (f : A → B) (xs : List A) (x : A) → Contains xs x → Contains (map f xs) (f x)
contains_map_too f [] x h = absurd (contains_none x h)
contains_map_too f (y ∷ xs) x h =
    ⊎_elim
    (λ (same : y ≡ x). (0, omega arith, ap f same))
    (λ (more : Contains xs x). contains_more (f y) (f x) (map f xs) (contains_map_too f xs x more))
    (contains_cons y x xs h.0 h.1 h.2)

-- of an author whose part is g of it
pub contains_told : {P : Type 0} (g : ℕ → P) (names : List ℕ) (a : ℕ) (q : P) → Contains {X = ℕ × P} (map (λ n. (n, g n)) names) (a, q) → Contains names a × (q ≡ g a)
contains_told g [] a q h = absurd (contains_none (a, q) h)
contains_told g (n ∷ names) a q h =
    ⊎_elim
    (λ (same : (n, g n) ≡ (a, q)). ((0, omega arith, ap (λ p. p.0) same), sym (ap (λ p. p.1) same) ∙ ap g (ap (λ p. p.0) same)))
    (λ (more : Contains (map (λ n. (n, g n)) names) (a, q)). let t = contains_told g names a q more in (contains_more n a names t.0, t.1))
    (contains_cons (n, g n) (a, q) (map (λ n. (n, g n)) names) h.0 h.1 h.2)

pub contains_retold : {P : Type 0} (g : ℕ → P) (ys : List (ℕ × P)) (a : ℕ) (q : P) → Contains {X = ℕ × P} (map (λ y. (y.0, g y.0)) ys) (a, q) → (q ≡ g a) × ((p : P) × Contains ys (a, p))
contains_retold g [] a q h = absurd (contains_none (a, q) h)
contains_retold g (y ∷ ys) a q h =
    ⊎_elim
    (λ (same : (y.0, g y.0) ≡ (a, q)).
    let name : y.0 ≡ a = ap (λ p. p.0) same in
    (sym (ap (λ p. p.1) same) ∙ ap g name, (y.1, (0, omega arith, (λ i. (name i, y.1))))))
    (λ (more : Contains (map (λ y. (y.0, g y.0)) ys) (a, q)).
    let t = contains_retold g ys a q more in
    (t.0, (t.1.0, contains_more y (a, t.1.0) ys t.1.1)))
    (contains_cons (y.0, g y.0) (a, q) (map (λ y. (y.0, g y.0)) ys) h.0 h.1 h.2)

pub contains_told_too : {P : Type 0} (g : ℕ → P) (names : List ℕ) (a : ℕ) (q : P) → Contains names a → q ≡ g a → Contains {X = ℕ × P} (map (λ n. (n, g n)) names) (a, q)
contains_told_too {P} g names a q h is = subst (λ p. Contains {X = ℕ × P} (map (λ n. (n, g n)) names) (a, p)) (sym is) (contains_map_too (λ n. (n, g n)) names a h)

pub contains_retold_too : {P : Type 0} (g : ℕ → P) (ys : List (ℕ × P)) (a : ℕ) (p q : P) → Contains {X = ℕ × P} ys (a, p) → q ≡ g a → Contains {X = ℕ × P} (map (λ y. (y.0, g y.0)) ys) (a, q)
contains_retold_too {P} g ys a p q h is = subst (λ z. Contains {X = ℕ × P} (map (λ y. (y.0, g y.0)) ys) (a, z)) (sym is) (contains_map_too (λ y. (y.0, g y.0)) ys (a, p) h)

one_of_or : (b : Bool) (n : ℕ) (names : List ℕ) (a : ℕ) → (n == a) ≡ b → (is_one_of names a ≡ true → Contains names a) → (b || is_one_of names a) ≡ true → Contains (n ∷ names) a
one_of_or true n names a is rest e = (0, omega arith, grind (arith, nat_tests))
one_of_or false n names a is rest e = contains_more n a names (rest e)

-- a name that the test finds is in the list
pub one_of : (names : List ℕ) (a : ℕ) → is_one_of names a ≡ true → Contains names a
one_of [] a e = absurd (cc)
one_of (n ∷ names) a e = one_of_or (n == a) n names a refl (one_of names a) e

is_one_or : (b : Bool) (n : ℕ) (names : List ℕ) (a : ℕ) → (n == a) ≡ b → (Contains names a → is_one_of names a ≡ true) → Contains (n ∷ names) a → (b || is_one_of names a) ≡ true
is_one_or true n names a is rest h = refl
is_one_or false n names a is rest h =
    ⊎_elim
    (λ (same : n ≡ a). let hit : (n == a) ≡ true = grind (arith, nat_tests) in let clash : true ≡ false = sym hit ∙ is in absurd (cc))
    (λ (more : Contains names a). rest more)
    (contains_cons n a names h.0 h.1 h.2)

pub is_one : (names : List ℕ) (a : ℕ) → Contains names a → is_one_of names a ≡ true
is_one [] a h = absurd (contains_none a h)
is_one (n ∷ names) a h = is_one_or (n == a) n names a refl (is_one names a) h

is_none_if : (b : Bool) (names : List ℕ) (a : ℕ) → is_one_of names a ≡ b → (Contains names a → ⊥) → not b ≡ true
is_none_if true names a is none = absurd (none (one_of names a is))
is_none_if false names a is none = refl

pub is_none : (names : List ℕ) (a : ℕ) → (Contains names a → ⊥) → not (is_one_of names a) ≡ true
is_none names a none = is_none_if (is_one_of names a) names a refl none
