use Rattle.std.proofs.Common.{◌≡◌, rules, arith}
use Rattle.std.proofs.lemmas.List.Elements.{All-push}
use Rattle.seat_lock.specs.declared.tests.Job.{Job}
use Rattle.seat_lock.specs.Passes.{IsOf, IsAtRest, HasAuthor, weight_of}
use Rattle.seat_lock.proofs.tests.jobs_for.Goals as goal

pub loop-author-preserved : goal.loop-author-preserved
loop-author-preserved c =
    let Ready : Job → Type 0 = λ j. IsOf c.args.lock.now j.pass × HasAuthor j.pass j.author × IsAtRest j.pass × (weight_of j.pass ≡ 1) in
    record {
      own = search rules;
      rest = search rules;
      weight = search rules;
      authors = λ a from below. c.job_for-job.ensures.others a (λ same. absurd (omega arith)) (c.loop-author.invariant.authors a (omega arith) below);
      jobs = rw c.in_ok-push.ensures.items (All-push Ready c.loop-author.jobs.items c.job_for-job.result c.loop-author.invariant.jobs c.job_for-job.ensures.job);
      count = search rules;
    }
