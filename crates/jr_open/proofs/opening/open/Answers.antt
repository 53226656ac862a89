use Rattle.std.proofs.lemmas.Result.{IfErr-weaker, IfOk-weaker}
use Rattle.jr_open.proofs.Typing.{opened_typed, sixth_told}
use Rattle.jr_open.proofs.opening.open.Goals as goal

pub returns-clause-ok : goal.returns-clause-ok
returns-clause-ok c =
    IfOk-weaker _ _ _ (λ o h. opened_typed c.args.clusters c.args.sessions c.args.types.now c.args.documents.items c.in_ok-opened.opened o c.in_ok-opened.ensures.ok h.0 h.1) c.typed.ensures.ok

pub returns-clause-err : goal.returns-clause-err
returns-clause-err c =
    IfErr-weaker _ _ _ (λ f h. sixth_told c.args.clusters c.args.sessions c.args.types.now c.args.documents.items c.in_ok-opened.opened f c.in_ok-opened.ensures.ok h) c.typed.ensures.err
