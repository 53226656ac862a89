use Rattle.jcr_eval.proofs.Refusing.{refused}
use Rattle.jcr_eval.proofs.tasks.is_no_checkpoint.Goals as goal

pub returns : goal.returns
returns c = refused c.args.text.now _ _ c.is_refusal.result
    (rw c.as_str.ensures at c.no_checkpoint-refusal.ensures) c.is_refusal.ensures
