-- Where a node of a tree stands, each one above it does.
use Rattle.std.proofs.Common.{◌≡◌, ℕ, zero, suc, ◌+◌, ◌-◌, Bool, true, false, cond, Some, None, [], ◌∷◌, ◌++◌, length, take, is_some, refl, sym, ap, ◌∙◌, subst, append-nil, arith}
use Rattle.std.specs.Ordering.{eq_by_cmp}
use Rattle.std.specs.Option.{option_map_or}
use Rattle.std.specs.List.{list_all}
use Rattle.std.proofs.lemmas.Bool.{ne_eqb}
use mathlib.Core.Bool.{false≢true}
use Rattle.jr_path.specs.Names.{parent_of, path_cmp}
use Rattle.jr_path.specs.declared.name.Name.{Name}
use Rattle.jr_path.specs.declared.path.Path.{Path}
use Rattle.jr_tree.specs.Trees.{IsTree, Nodes, has_parent, node_at}
use Rattle.jr_tree.proofs.Entries.{first, second}
use Rattle.jr_tree.proofs.Pointwise.{same_path}

at_path : (g : Path → Bool) (t : Nodes) → list_all (λ e. g e.0) t ≡ true → (q : Path) → is_some (node_at t q) ≡ true → g q ≡ true
at_path g [] h q is = absurd (false≢true is)
at_path g (e ∷ t) h q is =
    elim (eq_by_cmp path_cmp q e.0) as (λ b. eq_by_cmp path_cmp q e.0 ≡ b → is_some (cond b (Some e.1) (node_at t q)) ≡ true → g q ≡ true) [
      | true ↦ λ same k. ap g (same_path q e.0 same) ∙ first _ _ h
      | false ↦ λ same k. at_path g t (second _ _ h) q k
    ] refl is

take_behind : (p more : Path) (k : ℕ) → take (length p + k) (p ++ more) ≡ p ++ take k more
take_behind [] more k = let e : length {A = Name} [] + k ≡ k = omega arith in ap (λ m. take m more) e
take_behind (n ∷ p) more k =
    let e : length (n ∷ p) + k ≡ suc (length p + k) = omega arith in
    ap (λ m. take m (n ∷ (p ++ more))) e ∙ ap (λ (l : Path). n ∷ l) (take_behind p more k)

length_both : (p q : Path) → length (p ++ q) ≡ length p + length q
length_both [] q = let e : length {A = Name} [] + length q ≡ length q = omega arith in sym e
length_both (n ∷ p) q = let e : length (p ++ q) ≡ length p + length q = length_both p q in omega arith

length_taken : (p : Path) (k : ℕ) → length p ≡ suc k → length (take k p) ≡ k
length_taken [] k h = absurd (omega arith)
length_taken (n ∷ p) zero h = refl
length_taken (n ∷ p) (suc k) h = let e : length (take k p) ≡ k = length_taken p k (omega arith) in omega arith

parent_below : (p more : Path) (k : ℕ) → length more ≡ suc k → parent_of (p ++ more) ≡ Some (p ++ take k more)
parent_below p more k h =
    let e : length (p ++ more) ≡ length p + length more = length_both p more in
    let some : length (p ++ more) ≡ 0 → ⊥ = λ none. absurd (omega arith) in
    let less : length (p ++ more) - 1 ≡ length p + k = omega arith in
    ap (λ b. cond b None (Some (take (length (p ++ more) - 1) (p ++ more)))) (ne_eqb (length (p ++ more)) 0 some)
    ∙ (ap (λ n. Some (take n (p ++ more))) less ∙ ap (λ (q : Path). Some q) (take_behind p more k))

module _ (t : Nodes) (tree : IsTree t) (p : Path) where
  up : (k : ℕ) (more : Path) → length more ≡ k → is_some (node_at t (p ++ more)) ≡ true → is_some (node_at t p) ≡ true
  up zero [] h is = subst (λ (q : Path). is_some (node_at t q) ≡ true) (append-nil p) is
  up zero (n ∷ more) h is = absurd (omega arith)
  up (suc k) more h is =
      up k (take k more) (length_taken more k h)
      (sym (ap (λ o. option_map_or (λ q. is_some (node_at t q)) o true) (parent_below p more k h)) ∙ at_path (has_parent t) t tree.parents (p ++ more) is)

  pub above : (more : Path) → is_some (node_at t (p ++ more)) ≡ true → is_some (node_at t p) ≡ true
  above more is = up (length more) more refl is
