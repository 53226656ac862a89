-- The node above a path is under another path where the path itself is, and is longer.
use Rattle.std.proofs.Common.{◌≡◌, ◌-◌, ◌<◌, ◌≤◌, ◌≢◌, Bool, true, false, cond, ◌&&◌, nat_lt, eqb, List, ◌∷◌, [], length, take, Some, None, refl, sym, ap, ◌∙◌, arith, zero, suc, ℕ}
use Rattle.std.specs.Option.{option_map_or}
use Rattle.std.specs.Cmp.Lexicographic.{pointwise, lists_ties}
use Rattle.std.specs.Ordering.{eq_by_cmp}
use Rattle.std.proofs.lemmas.Bool.{false≢true, false_from_ne_true, ne_eqb, eqb-false, ltb-true, ltb-false}
use Rattle.std.proofs.lemmas.List.{length-take-le, take_all}
use Rattle.jr_path.specs.Names.{name_cmp, parent_of, is_under}
use Rattle.jr_path.specs.declared.path.Path.{Path}
use Rattle.jr_tree.proofs.Pointwise.{same_path}

and-true : (b : Bool) → b ≡ (b && true)
and-true true = refl
and-true false = refl

and-false : (b : Bool) → false ≡ (b && false)
and-false true = refl
and-false false = refl

-- the first names of the first names
first_of : {X : Type 0} (m n : ℕ) (xs : List X) → m ≤ n → take m (take n xs) ≡ take m xs
first_of zero n xs h = refl
first_of (suc m) zero xs h = absurd (omega arith)
first_of (suc m) (suc n) [] h = refl
first_of (suc m) (suc n) (x ∷ xs) h = ap (λ rest. x ∷ rest) (first_of m n xs (omega arith))

-- nothing above a path is under a path that is as long
not_above : (p q : Path) → length p ≤ length q → (b : Bool) → eqb (length p) 0 ≡ b → option_map_or (λ r. is_under r q) (cond b None (Some (take (length p - 1) p))) false ≡ true → ⊥
not_above p q long true e h = false≢true h
not_above p q long false e h =
    let some : length p ≢ 0 = eqb-false (length p) 0 e in
    let above : Path = take (length p - 1) p in
    let short : length above ≡ length p - 1 = length-take-le (length p - 1) p (omega arith) in
    let whole : take (length q) above ≡ above = take_all (length q) above (omega arith) in
    let same : q ≡ take (length q) above = same_path q _ (sym (lists_ties name_cmp (λ x y. refl) q (take (length q) above)) ∙ h) in
    let alike : length q ≡ length p - 1 = ap length (same ∙ whole) ∙ short in
    omega arith

pub parent_under : (p q : Path) → option_map_or (λ r. is_under r q) (parent_of p) false ≡ (is_under p q && nat_lt (length q) (length p))
parent_under p q = by (nat_lt (length q) (length p)) refl
  where
    by : (b : Bool) → nat_lt (length q) (length p) ≡ b → option_map_or (λ r. is_under r q) (parent_of p) false ≡ (is_under p q && b)
    by true e =
        let shorter : length q < length p = ltb-true _ _ e in
        ap (λ b. option_map_or (λ r. is_under r q) (cond b None (Some (take (length p - 1) p))) false) (ne_eqb (length p) 0 (λ none. omega arith))
        ∙ (ap (pointwise (eq_by_cmp name_cmp) q) (first_of (length q) (length p - 1) p (omega arith)) ∙ and-true (is_under p q))
    by false e = false_from_ne_true _ (not_above p q (ltb-false _ _ e) (eqb (length p) 0) refl) ∙ and-false (is_under p q)
