-- The first of some marks depends on which they are alone.
use Rattle.std.proofs.Common.{◌≡◌, Bool, true, false, cond, ◌⊎◌, inl, inr, Some, None, Option, List, [], ◌∷◌, refl, sym, ap, subst, ◌∙◌, filter, option_map, is_some}
use Rattle.std.specs.List.{list_any}
use Rattle.std.specs.Option.{unwrap_or}
use Rattle.std.specs.Ordering.{is_lt, ordering_reverse}
use Rattle.std.specs.declared.cmp.Ordering.{Ordering}
use Rattle.std.specs.declared.cmp.Ordering.TheVariants.{Less, Equal, Greater}
use Rattle.std.proofs.lemmas.Cmp.{nat_list_cmp_total}
use mathlib.Core.Bool.{false≢true}
use Rattle.jr_path.specs.Names.{name_cmp}
use Rattle.jr_path.specs.declared.name.Name.{Name}
use Rattle.jr_path.specs.declared.path.Path.{Path}
use Rattle.jr_path.specs.declared.path.Item.{Item}
use Rattle.jr_path.proofs.Maps.{name_exact}
use Rattle.oak_clash.specs.declared.mark.Mark.{Mark}
use Rattle.oak_clash.specs.declared.mark.Mark.TheVariants.{Exists, Guard, Touch, Prop}
use Rattle.oak_clash.specs.Clashes.{clash, first_mark, is_earlier, earlier_of, marked_item}
use Rattle.oak_commit.specs.Clashing.{met_among}
use Rattle.core_clash.specs.Views.{In}
use Rattle.core_clash.proofs.Basics.{test, not_both, any_from, any_of}

-- the same members
pub record Same {X : Type 0} (xs ys : List X) : Type 0 where
  pub to : (x : X) → In x xs → In x ys
  pub from : (x : X) → In x ys → In x xs

pub In-filter : {X : Type 0} (f : X → Bool) (x : X) (xs : List X) → In x xs → f x ≡ true → In x (filter f xs)
In-filter f x [] h t = absurd h
In-filter f x (y ∷ xs) h t = by (In-filter f x xs) (f y) refl h
  where
    by : (In x xs → f x ≡ true → In x (filter f xs)) → (b : Bool) → f y ≡ b → In x (y ∷ xs) → In x (cond b (y ∷ filter f xs) (filter f xs))
    by rest true e (inl k) = inl k
    by rest true e (inr h) = inr (rest h t)
    by rest false e (inl k) = not_both (f y) (subst (λ z. f z ≡ true) k t) e
    by rest false e (inr h) = rest h t

pub In-from_filter : {X : Type 0} (f : X → Bool) (x : X) (xs : List X) → In x (filter f xs) → In x xs × (f x ≡ true)
In-from_filter f x [] h = absurd h
In-from_filter f x (y ∷ xs) h = by (In-from_filter f x xs) (f y) refl h
  where
    by : (In x (filter f xs) → In x xs × (f x ≡ true)) → (b : Bool) → f y ≡ b → In x (cond b (y ∷ filter f xs) (filter f xs)) → In x (y ∷ xs) × (f x ≡ true)
    by rest true e (inl k) = (inl k, subst (λ z. f z ≡ true) (sym k) e)
    by rest true e (inr h) = let r = rest h in (inr r.0, r.1)
    by rest false e h = let r = rest h in (inr r.0, r.1)

pub both_same : (a b : Bool) → (a ≡ true → b ≡ true) → (b ≡ true → a ≡ true) → a ≡ b
both_same true b f g = sym (f refl)
both_same false true f g = g refl
both_same false false f g = refl

any_same : {X : Type 0} (f : X → Bool) (xs ys : List X) → Same xs ys → list_any f xs ≡ list_any f ys
any_same f xs ys s = both_same (list_any f xs) (list_any f ys)
    (λ h. let r = any_from f xs h in any_of f r.0 ys (s.to r.0 r.1) r.2)
    (λ h. let r = any_from f ys h in any_of f r.0 xs (s.from r.0 r.1) r.2)

not_less : (o : Ordering) → is_lt o ≡ false → is_lt (ordering_reverse o) ≡ false → o ≡ Equal
not_less Less h k = absurd (false≢true (sym h))
not_less Equal h k = refl
not_less Greater h k = absurd (false≢true (sym k))

-- two marks of which neither is earlier are one
one_mark : (a b : Mark) → is_earlier a b ≡ false → is_earlier b a ≡ false → a ≡ b
one_mark Exists Exists h k = refl
one_mark Exists Guard h k = absurd (false≢true (sym h))
one_mark Exists Touch h k = absurd (false≢true (sym h))
one_mark Exists (Prop n) h k = absurd (false≢true (sym h))
one_mark Guard Exists h k = absurd (false≢true (sym k))
one_mark Guard Guard h k = refl
one_mark Guard Touch h k = absurd (false≢true (sym h))
one_mark Guard (Prop n) h k = absurd (false≢true (sym h))
one_mark Touch Exists h k = absurd (false≢true (sym k))
one_mark Touch Guard h k = absurd (false≢true (sym k))
one_mark Touch Touch h k = refl
one_mark Touch (Prop n) h k = absurd (false≢true (sym h))
one_mark (Prop m) Exists h k = absurd (false≢true (sym k))
one_mark (Prop m) Guard h k = absurd (false≢true (sym k))
one_mark (Prop m) Touch h k = absurd (false≢true (sym k))
one_mark (Prop m) (Prop n) h k = ap (λ (x : Name). Prop x) (name_exact m n (not_less (name_cmp m n) h (subst (λ (o : Ordering). is_lt o ≡ false) (nat_list_cmp_total.antisymm n m) k)))

less_is : (o : Ordering) → is_lt o ≡ true → o ≡ Less
less_is Less h = refl
less_is Equal h = absurd (false≢true h)
less_is Greater h = absurd (false≢true h)

-- a name that isn't below n, which isn't below m
names_chain : (x n m : Name) → is_lt (name_cmp x n) ≡ false → is_lt (name_cmp n m) ≡ false → is_lt (name_cmp x m) ≡ false
names_chain x n m h k = by (name_cmp n x) refl (test (is_lt (name_cmp x m)))
  where
    by : (o : Ordering) → name_cmp n x ≡ o → (is_lt (name_cmp x m) ≡ true) ⊎ (is_lt (name_cmp x m) ≡ false) → is_lt (name_cmp x m) ≡ false
    by o e (inr f) = f
    by Less e (inl t) = not_both (is_lt (name_cmp n m)) (ap (λ (o : Ordering). is_lt o) (nat_list_cmp_total.trans n x m e (less_is (name_cmp x m) t))) k
    by Equal e (inl t) = not_both (is_lt (name_cmp n m)) (ap (λ (o : Ordering). is_lt o) (nat_list_cmp_total.congr n x m e) ∙ t) k
    by Greater e (inl t) = not_both (is_lt (name_cmp x n)) (ap (λ (o : Ordering). is_lt o) (nat_list_cmp_total.antisymm x n ∙ ap (λ (o : Ordering). ordering_reverse o) e)) h

chain : (x n m : Mark) → is_earlier x n ≡ false → is_earlier n m ≡ false → is_earlier x m ≡ false
chain Exists n Exists h k = refl
chain Exists Exists Guard h k = k
chain Exists Exists Touch h k = k
chain Exists Exists (Prop c) h k = k
chain Exists Guard m h k = absurd (false≢true (sym h))
chain Exists Touch m h k = absurd (false≢true (sym h))
chain Exists (Prop b) m h k = absurd (false≢true (sym h))
chain Guard n Exists h k = refl
chain Guard n Guard h k = refl
chain Guard Exists Touch h k = k
chain Guard Guard Touch h k = k
chain Guard Touch Touch h k = h
chain Guard (Prop b) Touch h k = h
chain Guard Exists (Prop c) h k = k
chain Guard Guard (Prop c) h k = k
chain Guard Touch (Prop c) h k = k
chain Guard (Prop b) (Prop c) h k = h
chain Touch n Exists h k = refl
chain Touch n Guard h k = refl
chain Touch n Touch h k = refl
chain Touch Exists (Prop c) h k = k
chain Touch Guard (Prop c) h k = k
chain Touch Touch (Prop c) h k = k
chain Touch (Prop b) (Prop c) h k = h
chain (Prop a) n Exists h k = refl
chain (Prop a) n Guard h k = refl
chain (Prop a) n Touch h k = refl
chain (Prop a) Exists (Prop c) h k = absurd (false≢true (sym k))
chain (Prop a) Guard (Prop c) h k = absurd (false≢true (sym k))
chain (Prop a) Touch (Prop c) h k = absurd (false≢true (sym k))
chain (Prop a) (Prop b) (Prop c) h k = names_chain a b c h k

-- of two marks one isn't earlier than the other
not_earlier : (a b : Mark) → is_earlier a b ≡ true → is_earlier b a ≡ false
not_earlier Exists Exists h = refl
not_earlier Exists Guard h = refl
not_earlier Exists Touch h = refl
not_earlier Exists (Prop n) h = refl
not_earlier Guard Exists h = absurd (false≢true h)
not_earlier Guard Guard h = refl
not_earlier Guard Touch h = refl
not_earlier Guard (Prop n) h = refl
not_earlier Touch Exists h = absurd (false≢true h)
not_earlier Touch Guard h = absurd (false≢true h)
not_earlier Touch Touch h = refl
not_earlier Touch (Prop n) h = refl
not_earlier (Prop m) Exists h = absurd (false≢true h)
not_earlier (Prop m) Guard h = absurd (false≢true h)
not_earlier (Prop m) Touch h = absurd (false≢true h)
not_earlier (Prop m) (Prop n) h = ap (λ (o : Ordering). is_lt o) (nat_list_cmp_total.antisymm n m ∙ ap (λ (o : Ordering). ordering_reverse o) (less_is (name_cmp m n) h))

self : (x : Mark) → is_earlier x x ≡ false
self x = by (test (is_earlier x x))
  where
    by : (is_earlier x x ≡ true) ⊎ (is_earlier x x ≡ false) → is_earlier x x ≡ false
    by (inl t) = not_earlier x x t
    by (inr f) = f

-- m is among the marks, and none of them is earlier
pub record IsFirst (m : Mark) (xs : List Mark) : Type 0 where
  pub among : In m xs
  pub first : (x : Mark) → In x xs → is_earlier x m ≡ false

abbrev pub First : List Mark → Option Mark → Type 0
First xs None = (x : Mark) → In x xs → ⊥
First xs (Some m) = IsFirst m xs

pub first_is : (xs : List Mark) → First xs (first_mark xs)
first_is [] = λ x h. h
first_is (k ∷ ks) = by (first_mark ks) (first_is ks)
  where
    by : (o : Option Mark) → First ks o → First (k ∷ ks) (Some (earlier_of k o))
    by None none = record { among = inl refl; first = first }
      where
        first : (x : Mark) → In x (k ∷ ks) → is_earlier x k ≡ false
        first x (inl e) = subst (λ (y : Mark). is_earlier y k ≡ false) (sym e) (self k)
        first x (inr h) = absurd (none x h)
    by (Some n) it = either (is_earlier n k) refl
      where
        either : (b : Bool) → is_earlier n k ≡ b → IsFirst (cond b n k) (k ∷ ks)
        either true t = record { among = inr it.among; first = first }
          where
            first : (x : Mark) → In x (k ∷ ks) → is_earlier x n ≡ false
            first x (inl e) = subst (λ (y : Mark). is_earlier y n ≡ false) (sym e) (not_earlier n k t)
            first x (inr h) = it.first x h
        either false f = record { among = inl refl; first = first }
          where
            first : (x : Mark) → In x (k ∷ ks) → is_earlier x k ≡ false
            first x (inl e) = subst (λ (y : Mark). is_earlier y k ≡ false) (sym e) (self k)
            first x (inr h) = chain x n k (it.first x h) f

first_same : (xs ys : List Mark) → Same xs ys → first_mark xs ≡ first_mark ys
first_same xs ys s = by (first_mark xs) (first_mark ys) (first_is xs) (first_is ys)
  where
    by : (a b : Option Mark) → First xs a → First ys b → a ≡ b
    by None None f g = refl
    by None (Some n) f g = absurd (f n (s.from n g.among))
    by (Some m) None f g = absurd (g m (s.to m f.among))
    by (Some m) (Some n) f g = ap (λ (x : Mark). Some x) (one_mark m n (g.first m (s.to m f.among)) (f.first n (s.from n g.among)))

filter_same : (f g : Mark → Bool) (xs ys : List Mark) → ((m : Mark) → f m ≡ g m) → Same xs ys → Same (filter f xs) (filter g ys)
filter_same f g xs ys e s = record {
  to = λ x h. let k = In-from_filter f x xs h in In-filter g x ys (s.to x k.0) (sym (e x) ∙ k.1);
  from = λ x h. let k = In-from_filter g x ys h in In-filter f x xs (s.from x k.0) (e x ∙ k.1);
}

-- what is met depends on the marks alone
pub met_same : (p : Path) (ms ns os qs : List Mark) → Same ms ns → Same os qs → met_among p ms os ≡ met_among p ns qs
met_same p ms ns os qs s t = ap (λ (x : Option Mark). option_map (marked_item p) x) (first_same _ _ (filter_same (λ m. list_any (clash m) os) (λ m. list_any (clash m) qs) ms ns (λ m. any_same (clash m) os qs t) s))

-- who is met has a mark, and is at that path
pub met_is : (p : Path) (ms os : List Mark) (item : Item) → met_among p ms os ≡ Some item → (item.path ≡ p) × ((m : Mark) × In m ms)
met_is p ms os item h = by (first_mark (filter (λ m. list_any (clash m) os) ms)) (first_is (filter (λ m. list_any (clash m) os) ms)) h
  where
    at_path : (m : Mark) → (marked_item p m).path ≡ p
    at_path Exists = refl
    at_path Guard = refl
    at_path Touch = refl
    at_path (Prop n) = refl

    by : (x : Option Mark) → First (filter (λ m. list_any (clash m) os) ms) x → option_map (marked_item p) x ≡ Some item → (item.path ≡ p) × ((m : Mark) × In m ms)
    by None f e = absurd (false≢true (ap (λ (y : Option Item). is_some y) e))
    by (Some m) f e = (ap (λ (y : Option Item). (unwrap_or y (marked_item p m)).path) (sym e) ∙ at_path m, (m, (In-from_filter (λ m. list_any (clash m) os) m ms f.among).0))

-- a mark that clashes is met
pub met_some : (p : Path) (ms os : List Mark) (m n : Mark) → In m ms → In n os → clash m n ≡ true → (item : Item) × (met_among p ms os ≡ Some item)
met_some p ms os m n h k c = by (first_mark (filter (λ m. list_any (clash m) os) ms)) (first_is (filter (λ m. list_any (clash m) os) ms))
  where
    by : (x : Option Mark) → First (filter (λ m. list_any (clash m) os) ms) x → (item : Item) × (option_map (marked_item p) x ≡ Some item)
    by None f = absurd (f m (In-filter (λ m. list_any (clash m) os) m ms h (any_of (clash m) n os k c)))
    by (Some x) f = (marked_item p x, refl)

-- who is met clashes
pub met_clash : (p : Path) (ms os : List Mark) (item : Item) → met_among p ms os ≡ Some item → (m : Mark) × In m ms × (list_any (clash m) os ≡ true)
met_clash p ms os item h = by (first_mark (filter (λ m. list_any (clash m) os) ms)) (first_is (filter (λ m. list_any (clash m) os) ms)) h
  where
    by : (x : Option Mark) → First (filter (λ m. list_any (clash m) os) ms) x → option_map (marked_item p) x ≡ Some item → (m : Mark) × In m ms × (list_any (clash m) os ≡ true)
    by None f e = absurd (false≢true (ap (λ (y : Option Item). is_some y) e))
    by (Some m) f e = let k = In-from_filter (λ m. list_any (clash m) os) m ms f.among in (m, k.0, k.1)
