use Rattle.jcr_eval.proofs.QueryCauses.{rows_said}
use Rattle.jcr_eval.proofs.queries.shows_rows.Goals as goal

pub returns : goal.returns
returns c = rows_said c.args.types.now c.args.base.now c.args.query.now c.args.text.now _
    c.is_rows_text.result c.rows_are_one.ensures c.in_ok-rows.ensures
    (rw c.as_slice.ensures.value at c.is_rows_text.ensures)
