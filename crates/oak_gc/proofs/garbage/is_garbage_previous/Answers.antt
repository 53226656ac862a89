use Rattle.std.proofs.Common.{sym, ap, ◌∙◌}
use Rattle.std.specs.List.{list_all}
use Rattle.jr_rev.specs.Vectors.{sees}
use Rattle.oak_gc.specs.Garbage.{are_superseded}
use Rattle.oak_gc.proofs.Newest.{failed_one, passed_one, status_unseen, statuses_seen}
use Rattle.oak_gc.proofs.garbage.is_garbage_previous.Goals as goal

pub loop-name-preserved : goal.loop-name-preserved
loop-name-preserved c =
    passed_one (are_superseded c.args.bound.now.base c.args.bound.now.sweep c.args.document.now) c.are_superseded.result _ (c.in-Some.name.now, c.in-Some.values.now) c.loop-name.name-iterator c.next.new.self
    c.are_superseded.ensures c.if-not-are_superseded.false c.in-Some.ensures.steps c.loop-name.invariant

pub returns-then-not-are_superseded : goal.returns-then-not-are_superseded
returns-then-not-are_superseded c =
    statuses_seen (sees c.args.bound.now.sweep) c.are_seen.result _ _ c.args.previous.now.commit_root c.are_seen.ensures c.if-not-are_seen.false
    (failed_one (are_superseded c.args.bound.now.base c.args.bound.now.sweep c.args.document.now) c.are_superseded.result _ (c.in-Some.name.now, c.in-Some.values.now) c.loop-name.name-iterator c.next.new.self
    c.are_superseded.ensures c.if-not-are_superseded.true c.in-Some.ensures.steps c.loop-name.invariant)

pub returns-then-not-are_seen : goal.returns-then-not-are_seen
returns-then-not-are_seen c = status_unseen (sees c.args.bound.now.sweep) c.are_seen.result _ c.args.previous.now.commit_root c.are_seen.ensures c.if-not-are_seen.true

pub returns : goal.returns
returns c =
    statuses_seen (sees c.args.bound.now.sweep) c.are_seen.result _ _ c.args.previous.now.commit_root c.are_seen.ensures c.if-not-are_seen.false
    (ap (list_all (are_superseded c.args.bound.now.base c.args.bound.now.sweep c.args.document.now)) (sym c.in-None.ensures.steps.0) ∙ c.loop-name.invariant)
