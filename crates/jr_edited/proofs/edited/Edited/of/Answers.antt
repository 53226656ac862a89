use Rattle.jr_edited.proofs.Made.{made_counted, made_view}
use Rattle.jr_edited.proofs.edited.Edited.of.Goals as goal

pub invariant_of-result : goal.invariant_of-result
invariant_of-result c =
    made_counted c.args.tree.now _ _ c.args.edit.now.writes _ _ _ c.len.ensures.sorted c.in_ok-old.ensures c.as_slice-writes.ensures c.in_ok-new.ensures c.in_ok-changes.ensures c.of.ensures _ _ c.len-3.ensures.len c.len-4.ensures.len

pub returns : goal.returns
returns c = made_view c.args.tree.now _ _ c.args.edit.now.writes _ _ _ c.len.ensures.sorted c.in_ok-old.ensures c.as_slice-writes.ensures c.in_ok-new.ensures c.in_ok-changes.ensures c.of.ensures
