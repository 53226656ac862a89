use Rattle.std.proofs.Common.{◌≡◌, [], replicate}
use Rattle.jr_work.proofs.hands.hands_of.Given as goal

-- the hands so far
abbrev pub invariant-loop : goal.invariant-loop
invariant-loop l = l.hands.items ≡ replicate l.counter []
