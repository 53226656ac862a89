use Rattle.std.proofs.Common.{arith}
use Rattle.std.proofs.lemmas.Result.{err_from_is_err_and}
use Rattle.jr_rev.proofs.Clusters.{no_moment, no_cluster, no_rest, no_more}
use Rattle.jr_rev.proofs.Listed.{found_end, found_more}
use Rattle.jr_rev.proofs.vector.+revisions_from.Goals as goal

pub returns-in_err-time-clause-fault : goal.returns-in_err-time-clause-fault
returns-in_err-time-clause-fault t c =
    let p = err_from_is_err_and c.from_residual.result c.from_residual.ensures.1 in
    rw (p.1, p.2) (no_moment _ _ _ _ c.requires.high c.requires.within c.in_err-time.ensures.fault)

pub returns-in_err-cluster-clause-fault : goal.returns-in_err-cluster-clause-fault
returns-in_err-cluster-clause-fault t c =
    let p = err_from_is_err_and c.from_residual-in_err-cluster.result c.from_residual-in_err-cluster.ensures.1 in
    rw (p.1, p.2) (no_cluster _ _ _ _ _ _ _ c.requires.high c.in_ok-time.ensures.within c.in_ok-time.ensures.found c.in_err-cluster.ensures.fault)

pub returns-then-text-end-ne44-clause-fault : goal.returns-then-text-end-ne44-clause-fault
returns-then-text-end-ne44-clause-fault t c = no_rest _ _ _ _ _ _ _ c.in_ok-time.ensures.found c.in_ok-cluster.ensures.found (omega (arith, c.in_ok-cluster.ensures.found.within, c.if-end-text.false)) (λ e. absurd (c.if-text-end-ne44.true e))

pub returns-then-cluster-eq8-clause-fault : goal.returns-then-cluster-eq8-clause-fault
returns-then-cluster-eq8-clause-fault t c = no_rest _ _ _ _ _ _ _ c.in_ok-time.ensures.found c.in_ok-cluster.ensures.found (omega (arith, c.in_ok-cluster.ensures.found.within, c.if-end-text.false)) (λ e. omega (arith, c.if-cluster-eq8.true))

pub returns-in_err-vector-clause-fault : goal.returns-in_err-vector-clause-fault
returns-in_err-vector-clause-fault t c =
    let p = err_from_is_err_and c.from_residual-in_err-vector.result c.from_residual-in_err-vector.ensures.1 in
    rw (p.1, p.2) (no_more _ _ _ _ _ _ _ _ c.in_ok-time.ensures.found c.in_ok-cluster.ensures.found (omega (arith, c.in_ok-cluster.ensures.found.within, c.if-end-text.false)) c.if-text-end-ne44.false c.in_err-vector.ensures.fault)

pub returns-then-end-text-clause-found : goal.returns-then-end-text-clause-found
returns-then-end-text-clause-found t c = rw (c.with.ensures, c.none.ensures) (found_end _ _ _ _ _ _ _ c.requires.low c.in_ok-time.ensures.found c.in_ok-cluster.ensures.found c.if-end-text.true)

pub returns-clause-found : goal.returns-clause-found
returns-clause-found t c =
    rw c.with-2.ensures
    (found_more _ _ _ _ _ _ _ _ c.requires.low c.in_ok-time.ensures.found c.in_ok-cluster.ensures.found (omega (arith, c.in_ok-cluster.ensures.found.within, c.if-end-text.false)) c.if-text-end-ne44.false c.in_ok-vector.ensures.found)
