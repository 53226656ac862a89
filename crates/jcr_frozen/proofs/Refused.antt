-- The first of two refusals, in the order in which they are tried.
use Rattle.std.proofs.Common.{◌≡◌, Option, None, Some, [], ◌∷◌, refl, sym}
use Rattle.std.specs.Prelude.{IfErr, OnOk, Result, Ok, Err}
use Rattle.std.proofs.lemmas.Option.{none-some}
use Rattle.jr_tree.specs.declared.shared.Refusal.{Refusal}
use Rattle.jr_items.specs.Items.{first_some}
use Rattle.jr_items.specs.Refusals.{IsTheRefusal}

pub first_of_two : (a b : Option Refusal) (r : Refusal) → IsTheRefusal a r → IsTheRefusal (first_some (a ∷ b ∷ [])) r
first_of_two (Some x) b r due = due
first_of_two None b r due = λ m. absurd (none-some r (due m))

pub second_of_two : (a b : Option Refusal) (r : Refusal) → a ≡ None → IsTheRefusal b r → IsTheRefusal (first_some (a ∷ b ∷ [])) r
second_of_two None (Some x) r h due = due
second_of_two None None r h due = λ m. absurd (none-some r (due m))
second_of_two (Some x) b r h due = absurd (none-some x (sym h))

pub none_of_two : (a b : Option Refusal) → a ≡ None → b ≡ None → first_some (a ∷ b ∷ []) ≡ None
none_of_two None None h k = refl
none_of_two None (Some y) h k = k
none_of_two (Some x) b h k = h

-- the second comes or doesn't, where the first doesn't
pub second_result : {T : Type 0} (result : Result T Refusal) (a b : Option Refusal) → a ≡ None → IfErr result (IsTheRefusal b) → IfErr result (IsTheRefusal (first_some (a ∷ b ∷ [])))
second_result (Ok x) a b h due = due
second_result (Err r) a b h due = second_of_two a b r h due

pub second_none : {T : Type 0} (result : Result T Refusal) (a b : Option Refusal) → a ≡ None → OnOk result (b ≡ None) → OnOk result (first_some (a ∷ b ∷ []) ≡ None)
second_none (Ok x) a b h is = none_of_two a b h is
second_none (Err r) a b h is = is
