use Rattle.std.proofs.Common.{arith}
use Rattle.seat_lock.proofs.tests.passes_take_turns.Goals as goal

pub add_once-requires-2-clause-author : goal.add_once-requires-2-clause-author
add_once-requires-2-clause-author g c =
    c.job_for-job.ensures.others 0 (λ same. absurd (omega arith)) (c.add_once.ensures.authors 0 (c.in_ok-lock.ensures.authors 0 (omega arith)))
