-- The first of several refusals.
use Rattle.std.proofs.Common.{◌≡◌, Option, None, Some, List, [], ◌∷◌, ◌++◌, refl, sym, ap, subst, ◌∙◌}
use Rattle.std.specs.Prelude.{IfErr, OnOk, Result}
use Rattle.std.specs.Option.{option_or}
use Rattle.jr_tree.specs.declared.shared.Refusal.{Refusal}
use Rattle.jr_items.specs.Items.{first_some}
use Rattle.jr_items.specs.Refusals.{IsTheRefusal}

-- the first of two lists together
pub first_some-append : {X : Type 0} → (xs ys : List (Option X)) → first_some (xs ++ ys) ≡ option_or (first_some xs) (first_some ys)
first_some-append [] ys = refl
first_some-append (None ∷ xs) ys = first_some-append xs ys
first_some-append (Some x ∷ xs) ys = refl

-- what must come of the first ones comes, whatever is asked behind them
pub ahead_due : (xs ys : List (Option Refusal)) (r : Refusal) → IsTheRefusal (first_some xs) r
    → IsTheRefusal (first_some (xs ++ ys)) r
ahead_due xs ys r due = λ m. first_some-append xs ys ∙ ap (λ o. option_or o (first_some ys)) (due m)

-- of one alone
first_alone : (o : Option Refusal) → o ≡ first_some (o ∷ [])
first_alone None = refl
first_alone (Some r) = refl

-- what is asked behind those that pass is what counts
behind : (xs : List (Option Refusal)) (o : Option Refusal) → first_some xs ≡ None
    → o ≡ first_some (xs ++ o ∷ [])
behind xs o h = first_alone o ∙ sym (first_some-append xs (o ∷ []) ∙ ap (λ x. option_or x (first_some (o ∷ []))) h)

pub behind_none : {T : Type 0} (result : Result T Refusal) (xs : List (Option Refusal))
    (o : Option Refusal) → first_some xs ≡ None → OnOk result (o ≡ None)
    → OnOk result (first_some (xs ++ o ∷ []) ≡ None)
behind_none result xs o h is = subst (λ x. OnOk result (x ≡ None)) (behind xs o h) is

pub behind_due : {T : Type 0} (result : Result T Refusal) (xs : List (Option Refusal))
    (o : Option Refusal) → first_some xs ≡ None → IfErr result (IsTheRefusal o)
    → IfErr result (IsTheRefusal (first_some (xs ++ o ∷ [])))
behind_due result xs o h is = subst (λ x. IfErr result (IsTheRefusal x)) (behind xs o h) is
