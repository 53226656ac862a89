use Rattle.jcr_eval.proofs.Refusing.{refused}
use Rattle.jcr_eval.proofs.tasks.is_unsupported.Goals as goal

pub returns : goal.returns
returns c = refused c.args.text.now _ _ c.is_refusal.result c.unsupported-refusal.ensures
    c.is_refusal.ensures
