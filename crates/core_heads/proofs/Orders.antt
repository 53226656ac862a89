-- The order of revisions, and the greatest of some.
use Rattle.std.proofs.Common.{◌≡◌, ℕ, ◌<◌, ◌≤◌, Bool, true, false, cond, ◌&&◌, ◌⊎◌, inl, inr, List, [], ◌∷◌, refl, sym, ap, subst, ◌∙◌, arith}
use Rattle.std.specs.Prelude.{◌==◌}
use Rattle.std.specs.List.{filter, fold, list_all}
use Rattle.std.specs.declared.cmp.Ordering.{Ordering}
use Rattle.std.specs.declared.cmp.Ordering.TheVariants.{Less, Equal, Greater}
use Rattle.std.specs.Ordering.{nat_cmp, ordering_then, is_lt, is_le, ordering_reverse, MatchOrdering}
use Rattle.std.proofs.lemmas.Cmp.{ranked}
use Rattle.std.proofs.lemmas.Bool.Decides.{nat_tests}
use mathlib.Core.Bool.{false≢true}
use Rattle.jr_rev.specs.declared.revision.Revision.{Revision}
use Rattle.jr_rev.specs.Revisions.{revision_cmp, is_before, is_at_most}
use Rattle.jr_rev.proofs.Order.{revision_total}
use Rattle.oak_machine.specs.Heads.{greater_of}
use Rattle.core_read.proofs.Latest.{at_most_trans, before_at_most, not_before, before_itself}
use Rattle.core_heads.specs.Sound.{IsIn}

pub test : (b : Bool) → (b ≡ true) ⊎ (b ≡ false)
test true = inl refl
test false = inr refl

pub not_both : {A : Type 0} (b : Bool) → b ≡ true → b ≡ false → A
not_both b t f = absurd (false≢true (sym f ∙ t))

pub and_true : (a b : Bool) → a ≡ true → b ≡ true → (a && b) ≡ true
and_true true b h k = k
and_true false b h k = absurd (false≢true h)

pub and_both : (a b : Bool) → (a && b) ≡ true → (a ≡ true) × (b ≡ true)
and_both true b h = (refl, h)
and_both false b h = absurd (false≢true h)

pub same_number : (a b : ℕ) → (a == b) ≡ true → a ≡ b
same_number a b h = grind (arith, nat_tests)

pub same_itself : (a : ℕ) → (a == a) ≡ true
same_itself a = grind (arith, nat_tests)

pub at_most_time : (o e : Revision) → is_at_most o e ≡ true → o.time ≤ e.time
at_most_time o e h = by (nat_cmp o.time e.time) (ranked o.time e.time _ refl) h
  where
    by : (c : Ordering) → MatchOrdering c (o.time < e.time) (o.time ≡ e.time) (e.time < o.time) → is_le (ordering_then c (ordering_then (nat_cmp o.counter e.counter) (nat_cmp o.cluster e.cluster))) ≡ true → o.time ≤ e.time
    by Less m k = omega arith
    by Equal m k = omega arith
    by Greater m k = absurd (false≢true k)

pub at_most_itself : (a : Revision) → is_at_most a a ≡ true
at_most_itself a = not_before a a (before_itself a)

later_not : (a b : Revision) → b.time < a.time → is_at_most a b ≡ false
later_not a b h = grind (arith, nat_tests)

-- what is later isn't at most
pub later_than : {A : Type 0} (a b : Revision) → b.time < a.time → is_at_most a b ≡ true → A
later_than a b h k = not_both (is_at_most a b) k (later_not a b h)

reversed : (o : Ordering) → is_lt o ≡ true → is_le (ordering_reverse o) ≡ false
reversed Less h = refl
reversed Equal h = absurd (false≢true h)
reversed Greater h = absurd (false≢true h)

turned : (o : Ordering) → is_le o ≡ false → is_le (ordering_reverse o) ≡ true
turned Less h = absurd (false≢true (sym h))
turned Equal h = absurd (false≢true (sym h))
turned Greater h = refl

pub not_at_most : (a b : Revision) → is_at_most a b ≡ false → is_at_most b a ≡ true
not_at_most a b h = ap is_le (revision_total.antisymm b a) ∙ turned (revision_cmp a b) h

-- what is before another isn't at or after it
pub before_not : {A : Type 0} (a b : Revision) → is_before a b ≡ true → is_at_most b a ≡ true → A
before_not a b h k = not_both (is_at_most b a) k (ap is_le (revision_total.antisymm b a) ∙ reversed (revision_cmp a b) h)

pub greater_left : (a b : Revision) → is_at_most a (greater_of a b) ≡ true
greater_left a b = by (is_before a b) refl
  where
    by : (t : Bool) → is_before a b ≡ t → is_at_most a (cond t b a) ≡ true
    by true h = before_at_most a b h
    by false h = at_most_itself a

pub greater_right : (a b : Revision) → is_at_most b (greater_of a b) ≡ true
greater_right a b = by (is_before a b) refl
  where
    by : (t : Bool) → is_before a b ≡ t → is_at_most b (cond t b a) ≡ true
    by true h = at_most_itself b
    by false h = not_before a b h

pub fold_first : (a : Revision) (rs : List Revision) → is_at_most a (fold greater_of a rs) ≡ true
fold_first a [] = at_most_itself a
fold_first a (r ∷ rs) = at_most_trans a (greater_of a r) _ (greater_left a r) (fold_first (greater_of a r) rs)

pub fold_each : (a : Revision) (rs : List Revision) (q : Revision) → IsIn q rs → is_at_most q (fold greater_of a rs) ≡ true
fold_each a [] q h = absurd h
fold_each a (r ∷ rs) q (inl e) = at_most_trans q (greater_of a r) _ (subst (λ (x : Revision). is_at_most x (greater_of a r) ≡ true) e (greater_right a r)) (fold_first (greater_of a r) rs)
fold_each a (r ∷ rs) q (inr h) = fold_each (greater_of a r) rs q h

-- what holds of the first and of each holds of the greatest
pub fold_has : (P : Revision → Type 0) (a : Revision) (rs : List Revision) → P a → ((q : Revision) → IsIn q rs → P q) → P (fold greater_of a rs)
fold_has P a [] h f = h
fold_has P a (r ∷ rs) h f = fold_has P (greater_of a r) rs (one (is_before a r)) (λ q i. f q (inr i))
  where
    one : (t : Bool) → P (cond t r a)
    one true = f r (inl refl)
    one false = h

pub filter_in : (f : Revision → Bool) (rs : List Revision) (q : Revision) → IsIn q (filter f rs) → IsIn q rs × (f q ≡ true)
filter_in f [] q h = absurd h
filter_in f (r ∷ rs) q h = by (λ i. filter_in f rs q i) (f r) refl h
  where
    by : (IsIn q (filter f rs) → IsIn q rs × (f q ≡ true)) → (t : Bool) → f r ≡ t → IsIn q (cond t (r ∷ filter f rs) (filter f rs)) → IsIn q (r ∷ rs) × (f q ≡ true)
    by rest true k (inl e) = (inl e, subst (λ (x : Revision). f x ≡ true) e k)
    by rest true k (inr i) = let p = rest i in (inr p.0, p.1)
    by rest false k i = let p = rest i in (inr p.0, p.1)

pub in_filter : (f : Revision → Bool) (rs : List Revision) (q : Revision) → IsIn q rs → f q ≡ true → IsIn q (filter f rs)
in_filter f [] q h t = absurd h
in_filter f (r ∷ rs) q h t = by (λ i. in_filter f rs q i t) (f r) refl h
  where
    by : (IsIn q rs → IsIn q (filter f rs)) → (b : Bool) → f r ≡ b → IsIn q (r ∷ rs) → IsIn q (cond b (r ∷ filter f rs) (filter f rs))
    by rest true k (inl e) = inl e
    by rest true k (inr i) = inr (rest i)
    by rest false k (inl e) = not_both (f q) t (subst (λ (x : Revision). f x ≡ false) e k)
    by rest false k (inr i) = rest i

pub all_in : (f : Revision → Bool) (rs : List Revision) → list_all f rs ≡ true → (q : Revision) → IsIn q rs → f q ≡ true
all_in f [] h q i = absurd i
all_in f (r ∷ rs) h q (inl e) = subst (λ (x : Revision). f x ≡ true) e (and_both (f r) _ h).0
all_in f (r ∷ rs) h q (inr i) = all_in f rs (and_both (f r) _ h).1 q i

pub in_all : (f : Revision → Bool) (rs : List Revision) → ((q : Revision) → IsIn q rs → f q ≡ true) → list_all f rs ≡ true
in_all f [] h = refl
in_all f (r ∷ rs) h = and_true (f r) _ (h r (inl refl)) (in_all f rs (λ q i. h q (inr i)))
