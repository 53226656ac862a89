-- A script has no float, so the text that is written for it is the compact one.
use Rattle.std.proofs.Common.{◌≡◌, ℕ, zero, suc, ◌+◌, Bool, false, ◌||◌, List, ◌++◌, refl, ap, ◌∙◌}
use Rattle.serde_json.specs.Data.{Data}
use Rattle.serde_json.specs.View.{items_of}
use Rattle.serde_json.specs.Written.{has_float, items_have_float}
use Rattle.jr_gen.specs.declared.rounds.Round.{Round}
use Rattle.jr_gen.specs.declared.rounds.Round.TheVariants as round
use Rattle.jr_gen.specs.Draws.{next}
use Rattle.jr_gen.specs.Rounds.{round_at, after_round, after_rounds}
use Rattle.jr_gen.specs.Scripts.{round_command, rounds_data, session_data, sessions_data, turns_data, script_data}

none_of : (a b : Bool) → a ≡ false → b ≡ false → (a || b) ≡ false
none_of a b p q = ap (λ (x : Bool). x || b) p ∙ q

command_plain : (s : ℕ) (r : Round) → has_float (round_command s r) ≡ false
command_plain s (round.Set i w) = refl
command_plain s round.Save = refl
command_plain s (round.Get j i) = refl
command_plain s round.Refresh = refl

rounds_plain : (k s m x : ℕ) (more : List Data) → items_have_float (items_of more) ≡ false → items_have_float (items_of (rounds_data k s m x ++ more)) ≡ false
unfolding rounds_data
rounds_plain zero s m x more h = h
rounds_plain (suc k) s m x more h = none_of _ _ (command_plain s (round_at m x)) (rounds_plain k s m (after_round x) more h)

session_plain : (s m x : ℕ) → has_float (session_data s m x) ≡ false
session_plain s m x = none_of _ _ (rounds_plain 100 s m x _ refl) refl

sessions_plain : (k s m x : ℕ) → items_have_float (items_of (sessions_data k s m x)) ≡ false
unfolding sessions_data
sessions_plain zero s m x = refl
sessions_plain (suc k) s m x = none_of _ _ (session_plain s m x) (sessions_plain k (s + 1) m (after_rounds 100 x))

turns_plain : (k m x : ℕ) → items_have_float (items_of (turns_data k m x)) ≡ false
unfolding turns_data
turns_plain zero m x = refl
turns_plain (suc k) m x = turns_plain k m (next x)

pub script_plain : (seed m : ℕ) → has_float (script_data seed m) ≡ false
script_plain seed m = none_of _ _ (turns_plain _ m _) (none_of _ _ (sessions_plain m 0 m seed) refl)
