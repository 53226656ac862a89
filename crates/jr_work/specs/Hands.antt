-- The commands that each worker has in hand.
use Rattle.std.specs.Prelude.{◌≡◌, ◌%◌, ◌==◌, ◌+◌, if◌then◌else◌, ℕ, drop, List, [], ◌∷◌, length, slice_get, Some}
use Rattle.jcr_trans.specs.declared.command.Command.{Command}
use Rattle.jcr_trans.specs.declared.command.SessionScript.{SessionScript}

-- the commands of a worker's sessions among these, which are numbered from s on
abbrev pub hand_from : (workers worker s : ℕ) → List SessionScript → List (List Command)
hand_from workers worker s [] = []
hand_from workers worker s (x ∷ xs) =
    if s % workers == worker
    then x.commands ∷ hand_from workers worker (s + 1) xs
    else hand_from workers worker (s + 1) xs

-- a number of workers have the commands of all these sessions in hand
pub record AreDealt (sessions : List SessionScript) (workers : ℕ)
    (hands : List (List (List Command)))
    : Type 0 where
  pub many : length hands ≡ workers
  pub each : (w : ℕ) (hand : List (List Command)) → slice_get hands w ≡ Some hand
      → hand ≡ hand_from workers w 0 sessions

-- in hand are the commands of a worker's sessions from session s on
abbrev pub AreInHandOf : List SessionScript → (workers worker s : ℕ) → List (List Command) → Type 0
AreInHandOf sessions workers worker s hand = hand ≡ hand_from workers worker s (drop s sessions)
