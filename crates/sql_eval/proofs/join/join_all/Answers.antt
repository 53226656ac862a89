use Rattle.std.proofs.Common.{map, ap, ◌∙◌, arith}
use Rattle.sql_eval.specs.Joins.{joined_tuples, nodes_of_type}
use Rattle.sql_eval.proofs.Places.{first_and_rest, one_more}
use Rattle.sql_eval.proofs.join.join_all.Goals as goal

pub loop-joins_left-preserved : goal.loop-joins_left-preserved
loop-joins_left-preserved c = record {
  places = grind arith;
  same =
      one_more c.args.tree.now c.loop-joins_left.count c.loop-joins_left.tuples.items _ c.loop-joins_left.joins_left.now _ c.join-item.result _ _ c.set-item.result.items _
      (first_and_rest c.loop-joins_left.joins_left.now c.join-item.result c.in-len1-up.len_at_least c.join-item.is)
      (ap (map (λ set. set.items)) (first_and_rest c.loop-joins_left.sets_left.now c.set-item.result c.in-len1-up-sets_left.len_at_least c.set-item.is))
      (c.in_ok-join_one.ensures ∙ ap (λ set. joined_tuples c.join-item.result c.loop-joins_left.count c.loop-joins_left.tuples.items (nodes_of_type c.args.tree.now set)) c.deref.ensures.value) c.loop-joins_left.invariant.same;
}
