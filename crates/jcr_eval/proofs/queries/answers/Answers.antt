use Rattle.jcr_eval.proofs.QueryCauses.{query_read}
use Rattle.jcr_eval.proofs.queries.answers.Goals as goal

pub returns-in-Ok : goal.returns-in-Ok
returns-in-Ok c =
    query_read c.args.types.now c.args.base.now c.args.query.now c.args.vars.now c.args.text.now
    c.parse.result c.in-Ok.query c.answers_query.result c.in-Ok.is
    (rw (c.as_str.ensures, c.as_slice.ensures.value, c.in_ok-vars.ensures) at c.parse.ensures)
    c.answers_query.ensures
