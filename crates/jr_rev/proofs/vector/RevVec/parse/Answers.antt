use Rattle.std.proofs.Common.{ap, Ok}
use Rattle.std.proofs.lemmas.Result.{err_from_is_err_and}
use Rattle.jr_rev.proofs.Faults.{refused}
use Rattle.jr_rev.proofs.Listed.{no_list, text_of_reads, text_of_empty, not_empty}
use Rattle.jr_rev.proofs.OneVector.{one_vector}
use Rattle.jr_rev.proofs.vector.RevVec.parse.Goals as goal

pub returns-then-is_empty-clause-found : goal.returns-then-is_empty-clause-found
returns-then-is_empty-clause-found c = rw c.none.ensures (text_of_empty _ _ c.is_empty.ensures c.if-is_empty.true)

pub returns-then-is_empty-clause-read : goal.returns-then-is_empty-clause-read
returns-then-is_empty-clause-read c = λ v t. ap Ok (one_vector _ _ v (returns-then-is_empty-clause-found c) t)

pub returns-in_err-vector-clause-fault : goal.returns-in_err-vector-clause-fault
returns-in_err-vector-clause-fault c =
    let p = err_from_is_err_and c.from_residual.result c.from_residual.ensures.1 in
    rw (p.1, p.2) (no_list _ _ (not_empty _ _ c.is_empty.ensures c.if-is_empty.false) c.in_err-vector.ensures.fault)

pub returns-in_err-vector-clause-read : goal.returns-in_err-vector-clause-read
returns-in_err-vector-clause-read c = λ v t. absurd (refused _ _ _ (no_list _ _ (not_empty _ _ c.is_empty.ensures c.if-is_empty.false) c.in_err-vector.ensures.fault) (v, t))

pub returns-clause-found : goal.returns-clause-found
returns-clause-found c = text_of_reads _ _ c.in_ok-vector.ensures.found

pub returns-clause-read : goal.returns-clause-read
returns-clause-read c = λ v t. ap Ok (one_vector _ _ v (returns-clause-found c) t)
