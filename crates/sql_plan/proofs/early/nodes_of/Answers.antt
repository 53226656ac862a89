use Rattle.std.proofs.Common.{ap, map, ◌∙◌}
use Rattle.std.specs.Map.Iter.{deref, deref_pair}
use Rattle.std.proofs.lemmas.List.{take_all}
use Rattle.sql_plan.specs.Early.{early_nodes}
use Rattle.sql_plan.proofs.Asked.{early_more, early_range}
use Rattle.sql_plan.proofs.early.nodes_of.Goals as goal

pub loop-spot-preserved : goal.loop-spot-preserved
loop-spot-preserved c =
    early_more c.args.set.now (map deref c.args.parts.now) c.args.selector deref_pair c.range_of-spot-items.result.now c.loop-spot.spot-index c.spot-item.result _ _ c.loop-spot-test.true c.spot-item.is c.in_ok-add_if_asked.ensures c.loop-spot.invariant

pub returns : goal.returns
returns c =
    c.loop-spot.invariant
    ∙ ap (λ xs. early_nodes (map deref_pair xs) c.args.set.now (map deref c.args.parts.now) c.args.selector) (take_all c.loop-spot.spot-index c.range_of-spot-items.result.now c.loop-spot-test.false)
    ∙ early_range c.args.set.now (map deref c.args.parts.now) c.args.selector c.requires.only (map deref_pair c.range_of-spot-items.result.now) (map deref_pair c.args.nodes.now) c.range_of-spot-items.ensures
