use Rattle.std.proofs.Common.{rules, ◌<◌, ◌≤◌, length}
use Rattle.jr_types.specs.Types.{is_named}
use Rattle.jr_types.specs.declared.PropDef.{PropDef}
use Rattle.jr_types.proofs.Wanted.{wanted_all, wanted_more}
use Rattle.jr_types.proofs.counting.props_named.Goals as goal

pub loop-def-preserved : goal.loop-def-preserved
loop-def-preserved c =
    let l : c.loop-def.def-index < length c.args.props.now = search rules in
    wanted_more (λ (d : PropDef). is_named c.args.name.now d.name) c.args.props.now c.loop-def.def-index c.def-item.result _ _ _ l c.def-item.is c.loop-def.invariant c.is_of.ensures c.in_ok-add_if.ensures

pub returns : goal.returns
returns c =
    let l : length c.args.props.now ≤ c.loop-def.def-index = search rules in
    wanted_all (λ (d : PropDef). is_named c.args.name.now d.name) c.args.props.now c.loop-def.def-index _ l c.loop-def.invariant
