-- Numbers in a row, and the greater of two.
use Rattle.std.proofs.Common.{◌≡◌, ◌≢◌, ◌<◌, ◌==◌, ℕ, suc, ◌+◌, ◌-◌, cond, max, fold, ◌∷◌, sym, ap, ◌∙◌, arith}
use Rattle.std.specs.List.{range_with_len}
use Rattle.std.specs.Ordering.{nat_cmp, ord_max}
use Rattle.std.proofs.lemmas.Bool.Decides.{nat_tests}

-- the numbers that are left, the first of them before the others
pub range_more : (m n : ℕ) → m < n → range_with_len m (n - m) ≡ m ∷ range_with_len (m + 1) (n - (m + 1))
range_more m n less =
    let p : n - m ≡ suc (n - (m + 1)) = omega arith in
    ap (range_with_len m) p

pub greater_number : (a b : ℕ) → ord_max nat_cmp a b ≡ max a b
greater_number a b = grind (arith, nat_tests)

-- what the numbers that are left make of a value, one number further on
pub fold_further : {B : Type 0} (w : B → ℕ → B) (m n : ℕ) (s u g : B) → m < n → u ≡ w s m → fold w s (range_with_len m (n - m)) ≡ g → fold w u (range_with_len (m + 1) (n - (m + 1))) ≡ g
fold_further w m n s u g less now was = ap (λ x. fold w x (range_with_len (m + 1) (n - (m + 1)))) now ∙ (sym (ap (fold w s) (range_more m n less)) ∙ was)

-- a value that changes but for one number
pub unless_same : {B : Type 0} (m k : ℕ) (v w : B) → m ≢ k → w ≡ cond (m == k) v w
unless_same m k v w other = grind arith

pub where_same : {B : Type 0} (m k : ℕ) (v w : B) → m ≡ k → v ≡ cond (m == k) v w
where_same m k v w same = grind arith
