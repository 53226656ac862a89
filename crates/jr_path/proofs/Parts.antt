-- The parts of a path: the node above, the last name, and what it is at or below.
use Rattle.std.proofs.Common.{◌≡◌, ℕ, ◌-◌, true, false, List, Some, [], ◌∷◌, ◌++◌, drop, length, take, refl, sym, ap, ◌∙◌, arith}
use Rattle.std.specs.Prelude.{◌↔◌, IsTrue, slice_get}
use Rattle.std.specs.Cmp.Lexicographic.{pointwise}
use Rattle.std.specs.Ordering.{eq_by_cmp}
use Rattle.std.proofs.lemmas.Bool.{false≢true, ne_eqb, and_parts}
use Rattle.std.proofs.lemmas.Cmp.{nat_list_cmp_total}
use Rattle.std.proofs.lemmas.List.{length_push, take-append-drop}
use Rattle.jr_path.specs.Names.{is_under, last_name, name_cmp, parent_of}
use Rattle.jr_path.proofs.Maps.{name_exact}
use Rattle.jr_path.proofs.Orders.{tested}

take_front : (path : List (List ℕ)) (name : List ℕ) → take (length path) (path ++ name ∷ []) ≡ path
take_front [] name = refl
take_front (x ∷ xs) name = ap (λ ys. x ∷ ys) (take_front xs name)

get_last : (path : List (List ℕ)) (name : List ℕ) → slice_get (path ++ name ∷ []) (length path) ≡ Some name
get_last [] name = refl
get_last (x ∷ xs) name = get_last xs name

pub parent_of-child : (path : List (List ℕ)) (name : List ℕ) → parent_of (path ++ name ∷ []) ≡ Some path
parent_of-child path name =
    let size = length_push path name in
    let front : length (path ++ name ∷ []) - 1 ≡ length path = omega arith in
    rw (ne_eqb (length (path ++ name ∷ [])) 0 (λ e. omega arith), front, take_front path name) refl

pub last_name-child : (path : List (List ℕ)) (name : List ℕ) → last_name (path ++ name ∷ []) ≡ Some name
last_name-child path name =
    let size = length_push path name in
    let front : length (path ++ name ∷ []) - 1 ≡ length path = omega arith in
    rw front (get_last path name)

same_names : (xs ys : List (List ℕ)) → pointwise (eq_by_cmp name_cmp) xs ys ≡ true → ys ≡ xs
same_names [] [] h = refl
same_names [] (y ∷ ys) h = absurd (false≢true h)
same_names (x ∷ xs) [] h = absurd (false≢true h)
same_names (x ∷ xs) (y ∷ ys) h =
    let p = and_parts (eq_by_cmp name_cmp x y) (pointwise (eq_by_cmp name_cmp) xs ys) h in
    let first : x ≡ y = (tested nat_list_cmp_total name_exact x y).0 p.0 in
    let rest = same_names xs ys p.1 in
    cc

tests_same : (xs : List (List ℕ)) → pointwise (eq_by_cmp name_cmp) xs xs ≡ true
tests_same [] = refl
tests_same (x ∷ xs) = rw ((tested nat_list_cmp_total name_exact x x).1 refl) (tests_same xs)

take_all_of : (other more : List (List ℕ)) → take (length other) (other ++ more) ≡ other
take_all_of [] more = refl
take_all_of (x ∷ xs) more = ap (λ ys. x ∷ ys) (take_all_of xs more)

pub below_is_prefix : (path other : List (List ℕ)) → IsTrue (is_under path other) ↔ ((more : List (List ℕ)) × (path ≡ other ++ more))
below_is_prefix path other = (
  λ h. (drop (length other) path, sym (take-append-drop (length other) path) ∙ ap (λ xs. xs ++ drop (length other) path) (same_names other (take (length other) path) h)),
  λ p. rw (p.1, take_all_of other p.0) (tests_same other),
)
