use Rattle.jcr_view.proofs.Drawn.{none_drawn, none_drawn_refused}
use Rattle.jcr_view.proofs.writing.write.Goals as goal

pub returns-in-Mixin-clause-ok : goal.returns-in-Mixin-clause-ok
returns-in-Mixin-clause-ok c = rw c.in-Mixin.is c.mixin.ensures.ok

pub returns-in-Mixin-clause-err : goal.returns-in-Mixin-clause-err
returns-in-Mixin-clause-err c = rw c.in-Mixin.is c.mixin.ensures.err

pub returns-in-OrderBefore-clause-ok : goal.returns-in-OrderBefore-clause-ok
returns-in-OrderBefore-clause-ok c = rw c.in-OrderBefore.is
    (none_drawn c.order.result _ c.order.new.draft.steps c.args.ids.now c.order.ensures.ok)

pub returns-in-OrderBefore-clause-err : goal.returns-in-OrderBefore-clause-err
returns-in-OrderBefore-clause-err c =
    rw c.in-OrderBefore.is (none_drawn_refused c.order.result _ c.args.ids.now c.order.ensures.err)
