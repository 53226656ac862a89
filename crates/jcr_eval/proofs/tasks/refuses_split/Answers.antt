use Rattle.jcr_eval.proofs.Refusing.{refused_due}
use Rattle.jcr_eval.proofs.tasks.refuses_split.Goals as goal

pub returns-in-Err : goal.returns-in-Err
returns-in-Err c =
    refused_due c.args.text.now _ _ _ c.is_refusal.result
    (rw c.in-Err.is at c.check_split.ensures.err) c.is_refusal.ensures
