use Rattle.std.proofs.Common.{◌≡◌, ℕ, true, map, take}
use Rattle.std.specs.List.{Contains, list_any}
use Rattle.sql_plan.specs.Index.{Sought, is_same_key, sought}
use Rattle.sql_plan.proofs.index.Index.places.Given as goal

-- just the places of the keys so far
abbrev pub invariant-loop-key : goal.invariant-loop-key
invariant-loop-key l = record {
  all : (s : Sought) (n : ℕ) → Contains l.self (s, n) → list_any (λ k. is_same_key k s) (map sought (take l.key-index l.keys)) ≡ true → Contains l.places.items n;
  only : (n : ℕ) → Contains l.places.items n → (s : Sought) × Contains l.self (s, n) × (list_any (λ k. is_same_key k s) (map sought (take l.key-index l.keys)) ≡ true);
}
