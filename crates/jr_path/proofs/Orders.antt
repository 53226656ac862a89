-- Only equal values tie in the orders, and the orders are total.
use Rattle.std.proofs.Common.{◌≡◌, Some, None, refl, sym, ap, ◌∙◌}
use Rattle.std.specs.Prelude.{◌↔◌, IsTrue}
use Rattle.std.specs.declared.cmp.Ordering.{Ordering}
use Rattle.std.specs.declared.cmp.Ordering.TheVariants.{Less, Equal, Greater}
use Rattle.std.specs.Option.{option_cmp}
use Rattle.std.specs.Ordering.{is_eq, nat_cmp, ordering_then}
use Rattle.std.specs.Cmp.{IsTotalOrder, nat_cmp_total, on_total, then_total}
use Rattle.std.specs.Cmp.Lexicographic.{options_total}
use Rattle.std.specs.FinMap.{IsAntisymmetric, nat_cmp-IsAntisymmetric}
use Rattle.std.proofs.lemmas.Cmp.{nat_list_cmp_total, tied_itself}
use Rattle.jr_path.specs.Ids.{id_cmp, depth_of, names_of, number_of, rank_of, text_of}
use Rattle.jr_path.specs.Names.{path_item_cmp, name_cmp, path_cmp}
use Rattle.jr_path.specs.declared.path.DocId.{DocId}
use Rattle.jr_path.specs.declared.path.DocId.TheVariants.{Node, Prev, Settings}
use Rattle.jr_path.proofs.Maps.{name_exact, path_exact, path_total}

both_tie : (a b : Ordering) → ordering_then a b ≡ Equal → (a ≡ Equal) × (b ≡ Equal)
both_tie Less b e = cc
both_tie Equal b e = (refl, e)
both_tie Greater b e = cc

tie_from_test : (o : Ordering) → IsTrue (is_eq o) → o ≡ Equal
tie_from_test Less e = cc
tie_from_test Equal e = refl
tie_from_test Greater e = cc

-- what a test of a tie says in an order in which only equal keys tie
pub tested : {K : Type 0} {R : K → K → Ordering} → IsTotalOrder R → IsAntisymmetric R → (a b : K) → IsTrue (is_eq (R a b)) ↔ (a ≡ b)
tested {R} total exact a b = (
  λ e. exact a b (tie_from_test (R a b) e),
  λ e. ap (λ x. is_eq (R a x)) (sym e) ∙ ap is_eq (tied_itself total a),
)

options_exact : {K : Type 0} {R : K → K → Ordering} → IsAntisymmetric R → IsAntisymmetric (option_cmp R)
options_exact exact None None e = refl
options_exact exact None (Some y) e = cc
options_exact exact (Some x) None e = cc
options_exact exact (Some x) (Some y) e = ap (λ z. Some z) (exact x y e)

pub item_total : IsTotalOrder path_item_cmp
item_total = then_total (on_total (λ i. i.path) path_total) (on_total (λ i. i.name) (options_total nat_list_cmp_total))

pub item_exact : IsAntisymmetric path_item_cmp
item_exact a b e =
    let ties = both_tie (path_cmp a.path b.path) (option_cmp name_cmp a.name b.name) e in
    let path : a.path ≡ b.path = path_exact a.path b.path ties.0 in
    let name : a.name ≡ b.name = options_exact name_exact a.name b.name ties.1 in
    ap (λ p. record { path = p; name = a.name }) path ∙ ap (λ n. record { path = b.path; name = n }) name

pub id_total : IsTotalOrder id_cmp
id_total = then_total (on_total rank_of nat_cmp_total) (then_total (on_total depth_of nat_cmp_total) (then_total (on_total text_of nat_list_cmp_total) (then_total (on_total names_of path_total) (on_total number_of nat_cmp_total))))

same_id : (a b : DocId) → rank_of a ≡ rank_of b → names_of a ≡ names_of b → number_of a ≡ number_of b → a ≡ b
same_id (Node p) (Node q) rank names number = ap (λ x. Node x) names
same_id (Prev m p) (Prev n q) rank names number = ap (λ x. Prev x p) number ∙ ap (λ x. Prev n x) names
same_id Settings Settings rank names number = refl
same_id (Node p) (Prev n q) rank names number = cc
same_id (Node p) Settings rank names number = cc
same_id (Prev m p) (Node q) rank names number = cc
same_id (Prev m p) Settings rank names number = cc
same_id Settings (Node q) rank names number = cc
same_id Settings (Prev n q) rank names number = cc

pub id_exact : IsAntisymmetric id_cmp
id_exact a b e =
    let first = both_tie (nat_cmp (rank_of a) (rank_of b)) _ e in
    let second = both_tie (nat_cmp (depth_of a) (depth_of b)) _ first.1 in
    let third = both_tie (name_cmp (text_of a) (text_of b)) _ second.1 in
    let fourth = both_tie (path_cmp (names_of a) (names_of b)) _ third.1 in
    same_id a b
    (nat_cmp-IsAntisymmetric (rank_of a) (rank_of b) first.0)
    (path_exact (names_of a) (names_of b) fourth.0)
    (nat_cmp-IsAntisymmetric (number_of a) (number_of b) fourth.1)
