use Rattle.std.proofs.Common.{◌≡◌, List, [], sym, subst}
use Rattle.std.specs.List.{fold}
use Rattle.jr_path.specs.declared.path.Path.{Path}
use Rattle.jr_known.specs.Earlier.{Earlier, IsEarlierThan}
use Rattle.jr_known.specs.Renewal.{AreListed, IsRenewedBut, with_list_begun}
use Rattle.jr_known.proofs.Renewed.{renewed_agrees, renewed_whole}
use Rattle.jr_known.proofs.earlier.EarlierTree.renew.Goals as goal

pub returns-clause-agrees : goal.returns-clause-agrees
returns-clause-agrees c = λ t tree earlier agrees.
    renewed_agrees c.leave_gone.new.part c.begin_lists.new.part c.renew_all.new.part c.self.inside.told
    (subst (λ (ps : List Path). c.begin_lists.new.part ≡ fold with_list_begun c.leave_gone.new.part ps) c.as_slice-2.ensures c.in_ok-begin_lists.ensures)
    c.in_order.ensures.nodes c.in_ok-leave_gone.ensures.whole t tree
    (subst (λ (ps : List Path). IsEarlierThan t (record { part = c.self.inside.part; told = ps }) → IsEarlierThan t (record { part = c.leave_gone.new.part; told = ps })) c.as_slice.ensures
    (c.in_ok-leave_gone.ensures.earlier t tree agrees) (subst (λ (e : Earlier). IsEarlierThan t e) (sym c.self.view_is) earlier))
    (subst (λ (ps : List Path). IsRenewedBut t ps c.begin_lists.new.part → IsRenewedBut t [] c.renew_all.new.part) c.as_slice-3.ensures (c.in_ok-renew_all.ensures.renewed t agrees))
    c.in_order-2.ensures.lists

pub returns-clause-whole : goal.returns-clause-whole
returns-clause-whole c = λ t tree earlier agrees.
    renewed_whole c.leave_gone.new.part c.begin_lists.new.part c.renew_all.new.part c.self.inside.told
    (subst (λ (ps : List Path). c.begin_lists.new.part ≡ fold with_list_begun c.leave_gone.new.part ps) c.as_slice-2.ensures c.in_ok-begin_lists.ensures)
    c.in_order.ensures.nodes c.in_ok-leave_gone.ensures.whole t tree
    (subst (λ (ps : List Path). IsEarlierThan t (record { part = c.self.inside.part; told = ps }) → IsEarlierThan t (record { part = c.leave_gone.new.part; told = ps })) c.as_slice.ensures
    (c.in_ok-leave_gone.ensures.earlier t tree agrees) (subst (λ (e : Earlier). IsEarlierThan t e) (sym c.self.view_is) earlier))
    (subst (λ (ps : List Path). IsRenewedBut t ps c.begin_lists.new.part → IsRenewedBut t [] c.renew_all.new.part) c.as_slice-3.ensures (c.in_ok-renew_all.ensures.renewed t agrees))
    c.in_order-2.ensures.lists
    (subst (λ (ps : List Path). AreListed ps c.begin_lists.new.part → AreListed ps c.renew_all.new.part) c.as_slice-3.ensures c.in_ok-renew_all.ensures.listed)
