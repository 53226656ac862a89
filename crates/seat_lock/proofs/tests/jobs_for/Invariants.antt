use Rattle.std.proofs.Common.{◌≡◌, ◌+◌, ◌<◌, ◌≤◌, ℕ, All, vec_len}
use Rattle.seat_lock.specs.Passes.{IsOf, IsAtRest, HasAuthor, weight_of}
use Rattle.seat_lock.proofs.tests.jobs_for.Given as goal

abbrev pub invariant-loop-author : goal.invariant-loop-author
invariant-loop-author l = record {
  own : IsOf l.lock l.main;
  rest : IsAtRest l.main;
  weight : weight_of l.main + l.author ≡ 1024;
  authors : (a : ℕ) → l.author ≤ a → a < 4 → HasAuthor l.main a;
  jobs : All (λ j. IsOf l.lock j.pass × HasAuthor j.pass j.author × IsAtRest j.pass × (weight_of j.pass ≡ 1)) l.jobs.items;
  count : vec_len l.jobs ≡ l.author;
}
