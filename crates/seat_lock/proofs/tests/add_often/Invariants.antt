use Rattle.std.proofs.Common.{◌≡◌}
use Rattle.seat_lock.specs.Passes.{IsOf, IsAtRest, HasAuthor, weight_of}
use Rattle.seat_lock.proofs.tests.add_often.Given as goal

abbrev pub invariant-loop : goal.invariant-loop
invariant-loop g l = record {
  own : IsOf l.lock l.pass;
  rest : IsAtRest l.pass;
  author : HasAuthor l.pass l.author;
  weight : weight_of l.pass ≡ weight_of l.initial.pass;
}
