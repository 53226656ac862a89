use Rattle.std.proofs.Common.{rules, refl, ◌<◌, ◌≤◌, length}
use Rattle.jr_types.proofs.Lines.{above_all, above_base, above_step}
use Rattle.jr_types.proofs.registry.Registry.above.Goals as goal

pub loop-name-preserved : goal.loop-name-preserved
loop-name-preserved c =
    let l : c.loop-name.name-index < length c.as_slice-name-items.result.now = search rules in
    above_step c.args.self.now c.as_slice-name-items.result.now c.loop-name.name-index c.name-item.result c.name-item.result c.loop-name.above c.add_places_of.new.above
    l refl c.name-item.is c.loop-name.invariant c.in_ok-add_places_of.ensures

pub returns : goal.returns
returns c =
    let l : length c.as_slice-name-items.result.now ≤ c.loop-name.name-index = search rules in
    let h = above_all c.args.self.now c.args.definition.now c.as_slice-name-items.result.now c.loop-name.name-index c.loop-name.above c.as_slice-name-items.ensures l c.loop-name.invariant in
    above_base c.args.self.now c.args.definition.now c.in_ok-base.base c.loop-name.above c.add_places_of-2.new.above c.if-definition.false c.in_ok-base.ensures h c.in_ok-add_places_of-2.ensures
