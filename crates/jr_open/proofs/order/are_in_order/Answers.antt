use Rattle.std.proofs.Common.{refl, sym}
use Rattle.jr_open.proofs.Rising.{all_behind, one_before}
use Rattle.jr_open.proofs.order.are_in_order.Goals as goal

pub returns-then-not-is_behind : goal.returns-then-not-is_behind
returns-then-not-is_behind c =
    one_before c.args.documents.now _ c.loop-document.document-index c.document-item.result _ c.loop-document-test.true c.document-item.is c.is_behind.ensures c.if-not-is_behind.true c.loop-document.invariant

pub returns : goal.returns
returns c = all_behind c.args.documents.now _ c.loop-document.document-index c.loop-document-test.false c.loop-document.invariant
