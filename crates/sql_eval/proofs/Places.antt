-- One more selector is joined.
use Rattle.std.proofs.Common.{◌≡◌, ℕ, ◌+◌, ◌-◌, ◌≤◌, List, [], ◌∷◌, length, get_or, take, drop, sym, ap, ◌∙◌, arith}
use Rattle.std.specs.List.{zip}
use Rattle.std.proofs.lemmas.List.{take_all}
use Rattle.jr_path.specs.declared.name.Name.{Name}
use Rattle.jr_tree.specs.Trees.{Nodes}
use Rattle.sql_query.specs.declared.query.Join.{Join}
use Rattle.sql_eval.specs.Conditions.{Tuple}
use Rattle.sql_eval.specs.Joins.{joined_tuples, joined_all, nodes_of_type}

-- a list with a first element is this element and what is behind it
pub first_and_rest : {X : Type 0} (xs : List X) (x : X) → 1 ≤ length xs → x ≡ get_or xs 0 x → xs ≡ x ∷ take (length xs - 1) (drop 1 xs)
first_and_rest [] x h is = absurd (omega arith)
first_and_rest (y ∷ ys) x h is = λ i. sym is i ∷ sym (take_all (length (y ∷ ys) - 1) ys (omega arith)) i

pub one_more : (tree : Nodes) (n : ℕ) (ts us : List Tuple) (js rest : List Join) (j : Join) (sets others : List (List Name)) (set : List Name) (all : List Tuple) → js ≡ j ∷ rest → sets ≡ set ∷ others → us ≡ joined_tuples j n ts (nodes_of_type tree set) → joined_all tree n ts (zip js sets) ≡ all → joined_all tree (n + 1) us (zip rest others) ≡ all
one_more tree n ts us js rest j sets others set all p q h g =
    ap (λ vs. joined_all tree (n + 1) vs (zip rest others)) h ∙ (λ i. joined_all tree n ts (zip (sym p i) (sym q i))) ∙ g
