use Rattle.std.proofs.Common.{ap, map, refl, ◌+◌, ◌∙◌}
use Rattle.std.specs.Map.Iter.{deref_pair}
use Rattle.sql_plan.specs.Index.{sought}
use Rattle.sql_plan.specs.Links.{keys_of_node, linked}
use Rattle.sql_plan.proofs.Partners.{entries_back, entries_more}
use Rattle.sql_plan.proofs.join.index_of_nodes.Goals as goal

pub loop-spot-preserved : goal.loop-spot-preserved
loop-spot-preserved c = record {
  place = ap (λ k. k + 1) c.loop-spot.invariant.place;
  all = entries_more (keys_of_node (linked c.args.link.now)) deref_pair c.args.right.now c.loop-spot.spot-index c.spot-item.result c.loop-spot.place _ _ _ _ c.loop-spot-test.true c.spot-item.is c.in_ok-add_entries.ensures (ap (map sought) c.deref.ensures.value ∙ c.in_ok-keys_of_node.ensures) c.loop-spot.invariant.all;
}

pub returns-clause-only : goal.returns-clause-only
returns-clause-only c =
    entries_back (keys_of_node (linked c.args.link.now)) (map deref_pair) c.loop-spot.place c.loop-spot.spot-index c.args.right.now _ _ _ refl c.loop-spot-test.false c.loop-spot.invariant.all c.of.ensures.only
