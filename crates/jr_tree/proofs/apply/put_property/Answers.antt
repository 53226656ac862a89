use Rattle.std.proofs.lemmas.Result.{err_from_is_err_and}
use Rattle.jr_tree.proofs.PutBack.{written_back}
use Rattle.jr_tree.proofs.apply.put_property.Goals as goal

pub returns-in_err-put-clause-err : goal.returns-in_err-put-clause-err
returns-in_err-put-clause-err c =
    let p = err_from_is_err_and c.from_residual.result c.from_residual.ensures.1 in
    rw p.1 (written_back _ _ _ _ _ _ c.inner_mut.ensures.shows c.in-Some.ensures.value c.in_err-put.ensures.err (c.get_mut.follows.holds _).0)
