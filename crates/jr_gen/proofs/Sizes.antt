-- How many commands, sessions and turns there are.
use Rattle.std.proofs.Common.{◌≡◌, ◌<◌, ℕ, zero, suc, ◌+◌, ◌/◌, ◌^◌, All, length, refl, ap, arith, length-append}
use Rattle.std.proofs.Math.Nat.{mod-lt}
use Rattle.std.proofs.lemmas.List.Elements.{All-cons, All-nil}
use Rattle.jr_gen.specs.Draws.{draw, next, state_after}
use Rattle.jr_gen.specs.Rounds.{after_round, after_rounds}
use Rattle.jr_gen.specs.Scripts.{commands_data, ending, rounds_data, sessions_data, turns_data, IsTurn}

pub draw_below : (k n x : ℕ) → 0 < n → draw k n x < n
draw_below k n x some = mod-lt (state_after k x / 2 ^ 33) some

rounds_size : (k s m x : ℕ) → length (rounds_data k s m x) ≡ k
unfolding rounds_data
rounds_size zero s m x = refl
rounds_size (suc k) s m x = ap suc (rounds_size k s m (after_round x))

pub commands_size : (s m x : ℕ) → length (commands_data s m x) ≡ 104
commands_size s m x =
    omega (arith, length-append (rounds_data 100 s m x) ending, rounds_size 100 s m x)

pub sessions_size : (k s m x : ℕ) → length (sessions_data k s m x) ≡ k
unfolding sessions_data
sessions_size zero s m x = refl
sessions_size (suc k) s m x = ap suc (sessions_size k (s + 1) m (after_rounds 100 x))

pub turns_size : (k m x : ℕ) → length (turns_data k m x) ≡ k
unfolding turns_data
turns_size zero m x = refl
turns_size (suc k) m x = ap suc (turns_size k m (next x))

pub all_turns : (k m x : ℕ) → 0 < m → All (IsTurn m) (turns_data k m x)
unfolding turns_data
all_turns zero m x some = All-nil (IsTurn m)
all_turns (suc k) m x some =
    All-cons (IsTurn m) _ _ (draw 1 m x, draw_below 1 m x some, refl) (all_turns k m (next x) some)
