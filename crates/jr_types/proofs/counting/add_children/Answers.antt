use Rattle.std.proofs.Common.{rules, ◌<◌, length}
use Rattle.jr_types.proofs.Wanted.{behind_more}
use Rattle.jr_types.proofs.counting.add_children.Goals as goal

pub loop-child-preserved : goal.loop-child-preserved
loop-child-preserved c =
    let l : c.loop-child.child-index < length c.args.children.now = search rules in
    behind_more c.args.children.now c.loop-child.child-index c.child-item.result _ _ _ l c.child-item.is c.loop-child.invariant c.in_ok-add_one.ensures
