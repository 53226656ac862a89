use Rattle.std.proofs.Common.{Option, sym, subst}
use Rattle.jr_rev.specs.declared.revision.Revision.{Revision}
use Rattle.jr_part.specs.Parts.{Knowledge}
use Rattle.jr_known.specs.Renewal.{AreListed, IsRenewedBut, ListsChild}
use Rattle.jr_known.proofs.Listed.{still_listed}
use Rattle.jr_known.proofs.Renewing.{renews}
use Rattle.jr_known.proofs.renewal.renew_at.Goals as goal

pub returns-clause-renewed : goal.returns-clause-renewed
returns-clause-renewed c = λ t left agrees was.
    subst (λ (k : Knowledge). IsRenewedBut t left k) (sym c.in_ok-put_node.ensures.ok)
    (renews t c.args.path.now c.in_ok-node.node (agrees.nodes c.args.path.now c.in_ok-node.node c.in_ok-node.ensures) left c.args.part.now c.list_above.new.part
    (subst (λ (b : Option (Option Revision)). ListsChild c.args.part.now c.list_above.new.part c.args.path.now b) c.born_in.ensures c.in_ok-list_above.ensures) c.in_order.ensures.nodes was)

pub returns-clause-listed : goal.returns-clause-listed
returns-clause-listed c = λ told is was.
    subst (λ (k : Knowledge). AreListed told k) (sym c.in_ok-put_node.ensures.ok)
    (still_listed told c.args.part.now c.list_above.new.part c.args.path.now c.in_ok-node.node
    (subst (λ (b : Option (Option Revision)). ListsChild c.args.part.now c.list_above.new.part c.args.path.now b) c.born_in.ensures c.in_ok-list_above.ensures) c.in_order.ensures.nodes is was)
