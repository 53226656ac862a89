use Rattle.jcr_eval.proofs.QueryCauses.{none_said, type_said}
use Rattle.jcr_eval.proofs.queries.answers_query.Goals as goal

pub returns-in-Some : goal.returns-in-Some
returns-in-Some c =
    type_said c.args.types.now c.args.base.now c.args.query.now c.args.text.now _
    c.is_no_type.result (rw c.in-Some.is at c.unknown_selector.ensures) c.is_no_type.ensures

pub returns-in-None : goal.returns-in-None
returns-in-None c =
    none_said c.args.types.now c.args.base.now c.args.query.now c.args.text.now c.shows_rows.result
    (rw c.in-None.is at c.unknown_selector.ensures) c.shows_rows.ensures
