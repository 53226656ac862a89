use Rattle.std.proofs.Common.{◌≡◌, ◌+◌, All, vec_len}
use Rattle.seat_lock.specs.Passes.{IsOf, IsAtRest, weight_of}
use Rattle.seat_lock.proofs.tests.gather.Given as goal

abbrev pub invariant-passes : goal.invariant-passes
invariant-passes l = record {
  own : IsOf l.lock l.main;
  rest : IsAtRest l.main;
  each : All (λ p. IsOf l.lock p × IsAtRest p × (weight_of p ≡ 1)) l.passes.items;
  weight : weight_of l.main + vec_len l.passes ≡ weight_of l.initial.main + vec_len l.initial.passes;
}

abbrev pub decreases-passes : goal.decreases-passes
decreases-passes l = vec_len l.passes
