-- Calls on a world in which none but one session adds events.
use Rattle.std.specs.Prelude.{◌≡◌, ◌⊎◌, ◌==◌, ℕ, List, [], ◌∷◌, All, slice_set, IsFalse}
use Rattle.oak_port.specs.declared.task.StepOut.{StepOut}
use Rattle.oak_world.specs.Steps.{Plays, StepsIn}
use Rattle.oak_world.specs.Worlds.{ActorState, WorldOf}

-- session q goes on while s alone adds events: it makes a step, which adds none where q isn't s;
-- or, where it isn't s, no more than what it does, or what is kept for its reply, is another
abbrev pub GoesQuietly : {L : Type 0} → ℕ → ℕ → WorldOf L → WorldOf L → Type 0
GoesQuietly s q old new =
    ((o : StepOut) × StepsIn old q new o
    × (IsFalse (q == s) → new.history.past ≡ old.history.past))
    ⊎ (IsFalse (q == s) × (a : ActorState)
    × (new ≡ record old { actors = slice_set old.actors q a }))

-- the sessions of a list go on so, one after another
abbrev pub Quietly : {L : Type 0} → ℕ → WorldOf L → List ℕ → WorldOf L → Type 0
Quietly s old [] new = new ≡ old
Quietly {L} s old (q ∷ qs) new = (next : WorldOf L) × GoesQuietly s q old next
    × Quietly s next qs new

-- where one session alone takes its turns, nobody else adds an event
abbrev pub OwnTurnsAreQuiet : Type 0 → Type 0
OwnTurnsAreQuiet L = (s : ℕ) (old new : WorldOf L) (schedule : List ℕ)
    → All (λ q. q ≡ s) schedule → Plays old schedule new
    → (qs : List ℕ) × Quietly s old qs new
