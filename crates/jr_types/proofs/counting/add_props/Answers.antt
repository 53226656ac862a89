use Rattle.std.proofs.Common.{rules, ◌<◌, length}
use Rattle.jr_types.proofs.Wanted.{behind_more}
use Rattle.jr_types.proofs.counting.add_props.Goals as goal

pub loop-prop-preserved : goal.loop-prop-preserved
loop-prop-preserved c =
    let l : c.loop-prop.prop-index < length c.args.props.now = search rules in
    behind_more c.args.props.now c.loop-prop.prop-index c.prop-item.result _ _ _ l c.prop-item.is c.loop-prop.invariant c.in_ok-add_one.ensures
