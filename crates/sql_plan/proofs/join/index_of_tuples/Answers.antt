use Rattle.std.proofs.Common.{ap, map, refl, ◌+◌, ◌∙◌}
use Rattle.sql_plan.specs.Index.{sought}
use Rattle.sql_plan.specs.Links.{keys_of_tuple, linked}
use Rattle.sql_plan.proofs.Partners.{entries_back, tuple_entries_more}
use Rattle.sql_plan.proofs.join.index_of_tuples.Goals as goal

pub loop-tuple-preserved : goal.loop-tuple-preserved
loop-tuple-preserved c = record {
  place = ap (λ k. k + 1) c.loop-tuple.invariant.place;
  all = tuple_entries_more (keys_of_tuple (linked c.args.link.now)) c.args.left.now c.loop-tuple.tuple-index c.tuple-item.result c.loop-tuple.place _ _ _ _ c.loop-tuple-test.true c.tuple-item.is c.in_ok-add_entries.ensures (ap (map sought) c.deref.ensures.value ∙ c.in_ok-keys_of_tuple.ensures) c.loop-tuple.invariant.all;
}

pub returns-clause-only : goal.returns-clause-only
returns-clause-only c =
    entries_back (keys_of_tuple (linked c.args.link.now)) (λ ys. ys) c.loop-tuple.place c.loop-tuple.tuple-index c.args.left.now _ _ _ refl c.loop-tuple-test.false c.loop-tuple.invariant.all c.of.ensures.only
