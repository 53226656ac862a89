-- The numbers that are drawn: those of a linear congruential generator modulo 2 ^ 64.
use Rattle.std.specs.Prelude.{ℕ, zero, suc, ◌+◌, ◌*◌, ◌/◌, ◌%◌, ◌^◌}

-- the state after one step
abbrev pub next : ℕ → ℕ
next x = (x * 6364136223846793005 + 1442695040888963407) % 2 ^ 64

-- the state after k steps
abbrev pub state_after : (k : ℕ) → ℕ → ℕ
state_after zero x = x
state_after (suc k) x = state_after k (next x)

-- what the k-th draw from state x on answers: a number below n, from the upper 31 bits of the state that it leaves
abbrev pub draw : (k : ℕ) → (n : ℕ) → ℕ → ℕ
draw k n x = state_after k x / 2 ^ 33 % n
