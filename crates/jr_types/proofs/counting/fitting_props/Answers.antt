use Rattle.std.proofs.Common.{rules, ◌<◌, ◌≤◌, length}
use Rattle.jr_types.specs.Types.{fits}
use Rattle.jr_types.specs.declared.PropDef.{PropDef}
use Rattle.jr_types.proofs.Wanted.{wanted_all, wanted_more}
use Rattle.jr_types.proofs.counting.fitting_props.Goals as goal

pub loop-def-preserved : goal.loop-def-preserved
loop-def-preserved c =
    let l : c.loop-def.def-index < length c.args.counting.now = search rules in
    wanted_more (λ (d : PropDef). fits d c.args.property.now) c.args.counting.now c.loop-def.def-index c.def-item.result _ _ _ l c.def-item.is c.loop-def.invariant c.fits.ensures c.in_ok-add_if.ensures

pub returns : goal.returns
returns c =
    let l : length c.args.counting.now ≤ c.loop-def.def-index = search rules in
    wanted_all (λ (d : PropDef). fits d c.args.property.now) c.args.counting.now c.loop-def.def-index _ l c.loop-def.invariant
