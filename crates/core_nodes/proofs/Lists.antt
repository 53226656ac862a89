-- Lists of revisions, and of them as a memory keeps them.
use Rattle.std.proofs.Common.{◌≡◌, ℕ, zero, suc, ◌<◌, Bool, true, false, cond, not, ◌||◌, ◌⊎◌, inl, inr, List, [], ◌∷◌, ◌++◌, length, get_or, map, filter, reverse, refl, sym, ap, subst, ◌∙◌, arith}
use Rattle.std.specs.Prelude.{Contains}
use Rattle.std.proofs.lemmas.Bool.{both_ways}
use mathlib.Core.List.{reverse-cons}
use Rattle.jr_rev.specs.declared.revision.Revision.{Revision}
use Rattle.jr_rev.specs.Revisions.{is_same}
use Rattle.oak_machine.specs.declared.event.Event.TheVariants as event
use Rattle.oak_machine.specs.History.{Past}
use Rattle.oak_machine.specs.Commits.{is_ended}
use Rattle.oak_node.specs.declared.drawn.Drawn.{Drawn}
use Rattle.oak_node.specs.Memory.{revisions_in}
use Rattle.oak_node.specs.Heads.{flying_in, with_end}
use Rattle.core_heads.specs.Sound.{IsIn}
use Rattle.core_nodes.specs.Nodes.{as_drawn}

-- ---- members

pub in_front : (xs ys : List Revision) (q : Revision) → IsIn q xs → IsIn q (xs ++ ys)
in_front [] ys q h = absurd h
in_front (x ∷ xs) ys q (inl e) = inl e
in_front (x ∷ xs) ys q (inr i) = inr (in_front xs ys q i)

pub in_back : (xs ys : List Revision) (q : Revision) → IsIn q ys → IsIn q (xs ++ ys)
in_back [] ys q h = h
in_back (x ∷ xs) ys q h = inr (in_back xs ys q h)

pub in_either : (xs ys : List Revision) (q : Revision) → IsIn q (xs ++ ys) → IsIn q xs ⊎ IsIn q ys
in_either [] ys q h = inr h
in_either (x ∷ xs) ys q (inl e) = inl (inl e)
in_either (x ∷ xs) ys q (inr i) = by (in_either xs ys q i)
  where
    by : IsIn q xs ⊎ IsIn q ys → IsIn q (x ∷ xs) ⊎ IsIn q ys
    by (inl h) = inl (inr h)
    by (inr h) = inr h

pub in_reverse : (xs : List Revision) (q : Revision) → IsIn q xs → IsIn q (reverse xs)
in_reverse [] q h = absurd h
in_reverse (x ∷ xs) q (inl e) = subst (λ (l : List Revision). IsIn q l) (sym (reverse-cons x xs)) (in_back (reverse xs) (x ∷ []) q (inl e))
in_reverse (x ∷ xs) q (inr i) = subst (λ (l : List Revision). IsIn q l) (sym (reverse-cons x xs)) (in_front (reverse xs) (x ∷ []) q (in_reverse xs q i))

pub reverse_in : (xs : List Revision) (q : Revision) → IsIn q (reverse xs) → IsIn q xs
reverse_in [] q h = absurd h
reverse_in (x ∷ xs) q h = by (λ i. reverse_in xs q i) (in_either (reverse xs) (x ∷ []) q (subst (λ (l : List Revision). IsIn q l) (reverse-cons x xs) h))
  where
    by : (IsIn q (reverse xs) → IsIn q xs) → IsIn q (reverse xs) ⊎ IsIn q (x ∷ []) → IsIn q (x ∷ xs)
    by back (inl i) = inr (back i)
    by back (inr (inl e)) = inl e
    by back (inr (inr n)) = absurd n

-- ---- filters

pub same_filter : (f g : Revision → Bool) (rs : List Revision) → ((q : Revision) → IsIn q rs → f q ≡ g q) → filter f rs ≡ filter g rs
same_filter f g [] h = refl
same_filter f g (r ∷ rs) h = ap (λ b. cond b (r ∷ filter f rs) (filter f rs)) (h r (inl refl)) ∙ ap (λ (qs : List Revision). cond (g r) (r ∷ qs) qs) (same_filter f g rs (λ q i. h q (inr i)))

-- a filter behind a weaker one
pub filter_twice : (f g : Revision → Bool) (rs : List Revision) → ((q : Revision) → g q ≡ true → f q ≡ true) → filter g (filter f rs) ≡ filter g rs
filter_twice f g [] h = refl
filter_twice f g (r ∷ rs) h = by (f r) refl (g r) refl (filter_twice f g rs h)
  where
    by : (a : Bool) → f r ≡ a → (b : Bool) → g r ≡ b → filter g (filter f rs) ≡ filter g rs → filter g (cond (f r) (r ∷ filter f rs) (filter f rs)) ≡ cond (g r) (r ∷ filter g rs) (filter g rs)
    by true e b k rest = ap (λ c. filter g (cond c (r ∷ filter f rs) (filter f rs))) e ∙ ap (λ (qs : List Revision). cond (g r) (r ∷ qs) qs) rest
    by false e true k rest = absurd (both_ways (f r) e (h r k))
    by false e false k rest = ap (λ c. filter g (cond c (r ∷ filter f rs) (filter f rs))) e ∙ (rest ∙ ap (λ c. cond c (r ∷ filter g rs) (filter g rs)) (sym k))

-- ---- as a memory keeps them

pub same_drawn : (past later : Past) (rs : List Revision) → ((q : Revision) → IsIn q rs → is_ended later q ≡ is_ended past q) → map (as_drawn later) rs ≡ map (as_drawn past) rs
same_drawn past later [] h = refl
same_drawn past later (r ∷ rs) h =
    ap (λ (b : Bool). record { revision = r; ended = b } ∷ map (as_drawn later) rs) (h r (inl refl))
    ∙ ap (λ (ds : List Drawn). as_drawn past r ∷ ds) (same_drawn past later rs (λ q i. h q (inr i)))

pub filter_drawn : (past : Past) (p : Revision → Bool) (rs : List Revision) → filter (λ d. p d.revision) (map (as_drawn past) rs) ≡ map (as_drawn past) (filter p rs)
filter_drawn past p [] = refl
filter_drawn past p (r ∷ rs) = by (p r) (filter_drawn past p rs)
  where
    by : (b : Bool) → filter (λ d. p d.revision) (map (as_drawn past) rs) ≡ map (as_drawn past) (filter p rs) → cond b (as_drawn past r ∷ filter (λ d. p d.revision) (map (as_drawn past) rs)) (filter (λ d. p d.revision) (map (as_drawn past) rs)) ≡ map (as_drawn past) (cond b (r ∷ filter p rs) (filter p rs))
    by true h = ap (λ (ds : List Drawn). as_drawn past r ∷ ds) h
    by false h = h

pub revisions_of_drawn : (past : Past) (rs : List Revision) → revisions_in (map (as_drawn past) rs) ≡ rs
revisions_of_drawn past [] = refl
revisions_of_drawn past (r ∷ rs) = ap (λ (qs : List Revision). r ∷ qs) (revisions_of_drawn past rs)

pub flying_of_drawn : (past : Past) (rs : List Revision) → flying_in (map (as_drawn past) rs) ≡ filter (λ q. not (is_ended past q)) rs
flying_of_drawn past [] = refl
flying_of_drawn past (r ∷ rs) = by (is_ended past r) (flying_of_drawn past rs)
  where
    by : (b : Bool) → flying_in (map (as_drawn past) rs) ≡ filter (λ q. not (is_ended past q)) rs → revisions_in (cond (not b) (as_drawn past r ∷ filter (λ d. not d.ended) (map (as_drawn past) rs)) (filter (λ d. not d.ended) (map (as_drawn past) rs))) ≡ cond (not b) (r ∷ filter (λ q. not (is_ended past q)) rs) (filter (λ q. not (is_ended past q)) rs)
    by true h = h
    by false h = ap (λ (qs : List Revision). r ∷ qs) h

-- one of them ends
pub ended_drawn : (past : Past) (r : Revision) (rs : List Revision) → with_end (map (as_drawn past) rs) r ≡ map (as_drawn (event.End r ∷ past)) rs
ended_drawn past r [] = refl
ended_drawn past r (q ∷ rs) = ap (λ (d : Drawn). d ∷ with_end (map (as_drawn past) rs) r) (by (is_same q r)) ∙ ap (λ (ds : List Drawn). as_drawn (event.End r ∷ past) q ∷ ds) (ended_drawn past r rs)
  where
    by : (b : Bool) → cond b (record { revision = q; ended = true }) (as_drawn past q) ≡ record { revision = q; ended = b || is_ended past q }
    by true = refl
    by false = refl

-- ---- members, by their places

pub drawn_has : (past : Past) (rs : List Revision) (q : Revision) → IsIn q rs → Contains (map (as_drawn past) rs) (as_drawn past q)
drawn_has past [] q h = absurd h
drawn_has past (r ∷ rs) q (inl e) = (0, omega arith, ap (as_drawn past) e)
drawn_has past (r ∷ rs) q (inr i) = let t = drawn_has past rs q i in (suc t.0, omega (arith, t.1), t.2)

pub has_drawn : (past : Past) (rs : List Revision) (d : Drawn) → Contains (map (as_drawn past) rs) d → IsIn d.revision rs × (is_ended past d.revision ≡ d.ended)
has_drawn past [] d there = absurd (omega (arith, there.1))
has_drawn past (r ∷ rs) d there = by there.0 there.1 there.2 (λ t. has_drawn past rs d t)
  where
    by : (j : ℕ) → j < suc (length (map (as_drawn past) rs)) → get_or (as_drawn past r ∷ map (as_drawn past) rs) j d ≡ d → (Contains (map (as_drawn past) rs) d → IsIn d.revision rs × (is_ended past d.revision ≡ d.ended)) → IsIn d.revision (r ∷ rs) × (is_ended past d.revision ≡ d.ended)
    by zero l is rest = (inl (ap (λ (x : Drawn). x.revision) is), ap (is_ended past) (sym (ap (λ (x : Drawn). x.revision) is)) ∙ ap (λ (x : Drawn). x.ended) is)
    by (suc j) l is rest = let p = rest (j, omega arith, is) in (inr p.0, p.1)
