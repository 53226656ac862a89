use Rattle.std.proofs.Common.{sym}
use Rattle.oak_node.proofs.Places.{front_of, lookup_found, lookup_nowhere, gap_nowhere}
use Rattle.oak_node.proofs.pins.find.Goals as goal

pub returns-in-Ok : goal.returns-in-Ok
returns-in-Ok c =
    let place = c.in-Ok.ensures in
    sym (lookup_found c.args.owner c.index-pins-at.result c.args.pins.now c.in-Ok.at place.within (front_of c.args.owner c.args.pins.now c.in-Ok.at c.requires place.within place.there) place.there)

pub returns-in-Err : goal.returns-in-Err
returns-in-Err c = sym (lookup_nowhere c.args.owner c.args.pins.now (gap_nowhere c.args.owner c.args.pins.now _ c.in-Err.ensures))
