-- Turns, one after another.
use Rattle.std.proofs.Common.{ℕ, ◌+◌, ◌<◌, List, [], ◌∷◌, ◌++◌, length, take, get_or, refl, sym, subst}
use Rattle.std.proofs.lemmas.List.{take_more}
use Rattle.oak_world.specs.Steps.{Plays, Turns}
use Rattle.oak_world.specs.Worlds.{WorldOf}

plays_more : {L : Type 0} (xs : List ℕ) (w v u : WorldOf L) (s : ℕ) → Plays w xs v → Turns v s u → Plays w (xs ++ s ∷ []) u
plays_more [] w v u s p t = (u, subst (λ (x : WorldOf _). Turns x s u) p t, refl)
plays_more (x ∷ xs) w v u s p t = (p.0, p.1, plays_more xs p.0 v u s p.2 t)

-- one more turn of a schedule
pub turn_more : {L : Type 0} (schedule : List ℕ) (i d : ℕ) (w v u : WorldOf L) → i < length schedule → Plays w (take i schedule) v → Turns v (get_or schedule i d) u → Plays w (take (i + 1) schedule) u
turn_more schedule i d w v u within so_far turn = subst (λ xs. Plays w xs u) (sym (take_more schedule i d within)) (plays_more (take i schedule) w v u (get_or schedule i d) so_far turn)
