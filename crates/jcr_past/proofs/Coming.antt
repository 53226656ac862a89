-- What came since a command began, where the test is told of the event alone.
use Rattle.std.proofs.Common.{◌≡◌, ℕ, Bool, true, false, not, cond, ◌&&◌, ◌||◌, [], ◌∷◌, refl, ap}
use Rattle.std.specs.List.{list_any}
use Rattle.oak_machine.specs.declared.event.Event.{Event}
use Rattle.oak_machine.specs.History.{Past}
use Rattle.oak_machine.specs.Sessions.{since}
use Rattle.jcr_law.specs.Since.{came, is_beginning}

-- the events since that pass a test of the event alone
pub came_any : (s : ℕ) (test : Event → Bool) (past : Past)
    → came s (λ earlier e. test e) past ≡ list_any test (since past s)
came_any s test [] = refl
came_any s test (x ∷ past) = by (is_beginning s x) (came_any s test past)
  where
    by : (b : Bool) → came s (λ earlier e. test e) past ≡ list_any test (since past s)
        → (not b && (test x || came s (λ earlier e. test e) past))
        ≡ list_any test (cond b [] (x ∷ since past s))
    by true rest = refl
    by false rest = ap (λ (r : Bool). test x || r) rest
