-- What a session's commands make of themselves: dates, and identifiers up to the limit.
use Rattle.std.specs.Prelude.{ℕ, zero, suc, ◌-◌, ◌^◌, ℤ, pos, min, max, nat_lt, codes, Option}
use Rattle.std.specs.Option.{option_map_or}
use Rattle.jr_rev.specs.Vectors.{Entries, entry}
use Rattle.jr_tree.specs.declared.shared.Refusal.{Refusal}
use Rattle.jr_items.specs.Refusals.{over_limit, when}

-- the greatest time of the entries of the first cluster nodes, so many of them
abbrev pub latest_among : Entries → ℕ → ℕ
latest_among v zero = 0
latest_among v (suc k) = max (latest_among v k) (option_map_or (λ r. r.time) (entry v (suc k)) 0)

-- the greatest time of a vector, as a date
abbrev pub latest_date : Entries → ℤ
latest_date v = pos (min (latest_among v 8) (2 ^ 63 - 1))

-- a session draws at most 16,777,215 identifiers, so a count of more is refused
abbrev pub too_many_ids : (count : ℕ) → Option Refusal
too_many_ids count = when (nat_lt 16777215 count) (over_limit (codes "ids") 16777215)
