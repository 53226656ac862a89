use Rattle.std.proofs.Common.{rules, ◌<◌, ◌≤◌, length}
use Rattle.jr_defs.specs.Reading.{IsPropJson}
use Rattle.jr_defs.proofs.ByParts.{read_all, read_more, read_stop}
use Rattle.jr_defs.proofs.reading.prop_list_of.Goals as goal

pub returns-in_err-prop_in : goal.returns-in_err-prop_in
returns-in_err-prop_in c =
    let l : c.loop-item.item-index < length c.args.items.now = search rules in
    read_stop IsPropJson c.args.items.now c.loop-item.item-index c.item-item.result _ _ l c.item-item.is c.from_residual.ensures.1 c.in_err-prop_in.ensures

pub loop-item-preserved : goal.loop-item-preserved
loop-item-preserved c =
    let l : c.loop-item.item-index < length c.args.items.now = search rules in
    read_more IsPropJson c.args.items.now c.loop-item.item-index c.item-item.result _ _ _ l c.item-item.is c.loop-item.invariant c.in_ok-prop_in.ensures c.in_ok-push.ensures.ok

pub returns : goal.returns
returns c =
    let l : length c.args.items.now ≤ c.loop-item.item-index = search rules in
    read_all IsPropJson c.args.items.now c.loop-item.item-index _ l c.loop-item.invariant
