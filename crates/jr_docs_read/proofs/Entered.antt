-- The members of a map's JSON come to the map.
use Rattle.std.proofs.Common.{◌≡◌, List, [], true, refl, sym, subst}
use Rattle.std.specs.Prelude.{ℕ}
use Rattle.std.proofs.lemmas.List.Elements.{recursion_from_All}
use Rattle.std.specs.declared.cmp.Ordering.{Ordering}
use Rattle.std.specs.Cmp.{IsTotalOrder}
use Rattle.std.specs.FinMap.{IsAntisymmetric}
use Rattle.serde_json.specs.Data.{Data, Members, no_members}
use Rattle.jr_docs.specs.Members.{members_of_map, put_all}
use Rattle.jr_docs_read.specs.Ranges.{IsMapOf}
use Rattle.jr_docs_read.proofs.Left.{Entered, IsEntered, Left, map_left}

module _ {K V : Type 0} (text : K → List ℕ) (shown : V → Data) (FitsKey : K → Type 0) (FitsValue : V → Type 0) (cmp : K → K → Ordering) where
  -- how the entries of a map stand in an object of their own
  abbrev pub of_map : Entered K V
  of_map = record { ours = λ _. true; text = text; shown = shown; Fits = λ e. FitsKey e.0 × FitsValue e.1; cmp = cmp }

  pub members_left : ((a b : K) → FitsKey a → FitsKey b → text a ≡ text b → a ≡ b) → IsTotalOrder cmp → IsAntisymmetric cmp → (es acc : List (K × V)) (ms : Members) → IsMapOf cmp FitsKey FitsValue es → put_all no_members (members_of_map text shown es) ≡ ms → acc ≡ [] → Left of_map ms acc es
  members_left one total exact es acc ms h is none =
      let holds : IsEntered of_map = record { mine = λ k. refl; one = λ a b f g same. one a.0 b.0 f.0 g.0 same; total = total; exact = exact } in
      subst (λ (ns : Members). Left of_map ns acc es) is
      (subst (λ (xs : List (K × V)). Left of_map (put_all no_members (members_of_map text shown es)) xs es) (sym none)
      (map_left of_map holds es no_members h.rise (recursion_from_All (λ e. FitsKey e.0 × FitsValue e.1) es h.each) tt))
