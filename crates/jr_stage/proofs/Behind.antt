-- What is kept of a commit behind the last event of a journal.
use Rattle.std.proofs.Common.{◌≡◌, ℕ, ◌-◌, suc, length, Some, None, Option, List, [], ◌∷◌, ◌++◌, refl, sym, ap, ◌∙◌, subst, arith}
use Rattle.std.specs.Prelude.{reverse, slice_get}
use Rattle.std.proofs.lemmas.List.{reverse-append}
use Rattle.std.proofs.lemmas.Option.{slice_get-get_or}
use Rattle.oak_machine.specs.declared.event.Event.{Event}
use Rattle.oak_machine.specs.declared.event.Journal.{Journal}
use Rattle.oak_machine.specs.History.{History, Past, history_of}
use Rattle.jr_stage.specs.declared.flight.Flight.{Flight}
use Rattle.jr_stage.specs.Flights.{flight_with}
use Rattle.jr_stage.specs.Stages.{flight_behind}
use Rattle.jr_stage.proofs.Flying.{none_is_some, some_is_some}

longer : {X : Type 0} (y : X) (l : List X) (x : X) → (front : List X) × (l ≡ front ++ x ∷ []) → (front : List X) × (y ∷ l ≡ front ++ x ∷ [])
longer y l x (front, is) = (y ∷ front, ap (λ m. y ∷ m) is)

-- what a list ends with
last_of : {X : Type 0} (xs : List X) (x : X) → slice_get xs (length xs - 1) ≡ Some x → (front : List X) × (xs ≡ front ++ x ∷ [])
last_of [] x h = none_is_some x h
last_of (y ∷ []) x h = ([], ap (λ z. z ∷ []) (some_is_some y x h))
last_of (y ∷ z ∷ ys) x h = longer y (z ∷ ys) x (last_of (z ∷ ys) x (subst (λ (k : ℕ). slice_get (y ∷ z ∷ ys) k ≡ Some x) shorter h))
  where
    shorter : length (y ∷ z ∷ ys) - 1 ≡ suc (length (z ∷ ys) - 1)
    shorter = omega arith

none_of : {X : Type 0} (xs : List X) → slice_get xs (length xs - 1) ≡ None → xs ≡ []
none_of [] h = refl
none_of (y ∷ ys) h = none_is_some _ (sym h ∙ slice_get-get_or (y ∷ ys) (length (y ∷ ys) - 1) y (omega arith))

module _ (j : Journal) (h : History) (is : history_of j ≡ h) (o : Option Flight) where
  pub behind_last : (e : Event) → slice_get j.events.list (length j.events.list - 1) ≡ Some e → flight_behind h.past o ≡ flight_with e o
  behind_last e last = by (last_of j.events.list e last)
    where
      by : (front : List Event) × (j.events.list ≡ front ++ e ∷ []) → flight_behind h.past o ≡ flight_with e o
      by (front, ends) = ap (λ (p : Past). flight_behind p o) (sym (ap (λ (x : History). x.past) is) ∙ (ap reverse ends ∙ reverse-append front (e ∷ [])))

  pub behind_none : slice_get j.events.list (length j.events.list - 1) ≡ None → flight_behind h.past o ≡ o
  behind_none last = ap (λ (p : Past). flight_behind p o) (sym (ap (λ (x : History). x.past) is) ∙ ap reverse (none_of j.events.list last))
