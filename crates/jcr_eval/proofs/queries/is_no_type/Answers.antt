use Rattle.jcr_eval.proofs.Refusing.{refused}
use Rattle.jcr_eval.proofs.queries.is_no_type.Goals as goal

pub returns : goal.returns
returns c = refused c.args.text.now _ _ c.is_refusal.result c.no_type-refusal.ensures
    c.is_refusal.ensures
