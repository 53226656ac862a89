-- What the rounds of a session do, chosen by draws.
use Rattle.std.specs.Prelude.{ℕ, zero, suc, ◌==◌, ◌||◌, if◌then◌else◌}
use Rattle.jr_gen.specs.declared.rounds.Round.{Round}
use Rattle.jr_gen.specs.declared.rounds.Round.TheVariants as round
use Rattle.jr_gen.specs.Draws.{draw, state_after}

-- the kind of the round that begins at state x: four are equally likely
abbrev pub round_kind : ℕ → ℕ
round_kind x = draw 1 4 x

-- the round of this kind that begins at state x; the script has m sessions
abbrev pub round_of : (kind : ℕ) → (m : ℕ) → ℕ → Round
round_of kind m x =
    if kind == 0 then round.Set (draw 2 8 x) (draw 3 1000 x)
    else if kind == 1 then round.Save
    else if kind == 2 then round.Get (draw 2 m x) (draw 3 8 x)
    else round.Refresh

-- the round that begins at state x
abbrev pub round_at : (m : ℕ) → ℕ → Round
round_at m x = round_of (round_kind x) m x

-- how many draws a round takes: its kind, and two more to set or to get a property
abbrev pub draws_taken : (kind : ℕ) → ℕ
draws_taken kind = if kind == 0 || kind == 2 then 3 else 1

-- the state that the round leaves which begins at state x
abbrev pub after_round : ℕ → ℕ
after_round x = state_after (draws_taken (round_kind x)) x

-- the state that k rounds leave
unfoldable pub after_rounds : (k : ℕ) → ℕ → ℕ
after_rounds zero x = x
after_rounds (suc k) x = after_rounds k (after_round x)
