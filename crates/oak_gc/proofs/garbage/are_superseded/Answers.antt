use Rattle.std.specs.Prelude.{◌++◌}
use Rattle.std.specs.Map.{keys_of}
use Rattle.oak_doc.specs.Updates.{values_of_property}
use Rattle.oak_gc.specs.Garbage.{is_superseded}
use Rattle.oak_gc.proofs.Newest.{passed_with, failed_with, superseded_by}
use Rattle.oak_gc.proofs.garbage.are_superseded.Goals as goal

pub loop-r-preserved : goal.loop-r-preserved
loop-r-preserved c =
    passed_with (is_superseded c.args.bound.now.base c.args.bound.now.sweep (keys_of (values_of_property c.args.document.now.props c.args.name.now) ++ keys_of c.args.values.now)) c.is_superseded.result _ (c.in-Some.r.now, c.in-Some.field-0-1.now) c.loop-r.r-iterator c.next.new.self
    (superseded_by c.args.bound.now.base c.args.bound.now.sweep (keys_of (values_of_property c.args.document.now.props c.args.name.now)) (keys_of c.args.values.now) c.in-Some.r.now c.newest_in.result c.newest_of-newest.result c.is_superseded.result
    (c.newest_in.ensures c.in-Some.r.now) (c.newest_of-newest.ensures c.in-Some.r.now) c.is_superseded.ensures)
    c.if-not-is_superseded.false c.in-Some.ensures.steps c.loop-r.invariant

pub returns-then-not-is_superseded : goal.returns-then-not-is_superseded
returns-then-not-is_superseded c =
    failed_with (is_superseded c.args.bound.now.base c.args.bound.now.sweep (keys_of (values_of_property c.args.document.now.props c.args.name.now) ++ keys_of c.args.values.now)) c.is_superseded.result _ (c.in-Some.r.now, c.in-Some.field-0-1.now) c.loop-r.r-iterator c.next.new.self
    (superseded_by c.args.bound.now.base c.args.bound.now.sweep (keys_of (values_of_property c.args.document.now.props c.args.name.now)) (keys_of c.args.values.now) c.in-Some.r.now c.newest_in.result c.newest_of-newest.result c.is_superseded.result
    (c.newest_in.ensures c.in-Some.r.now) (c.newest_of-newest.ensures c.in-Some.r.now) c.is_superseded.ensures)
    c.if-not-is_superseded.true c.in-Some.ensures.steps c.loop-r.invariant
