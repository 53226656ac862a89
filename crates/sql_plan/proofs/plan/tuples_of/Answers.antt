use Rattle.std.proofs.Common.{◌≡◌, ◌-◌, length, take, drop, ap, map, sym, subst, ◌∙◌, arith}
use Rattle.std.specs.Map.Iter.{deref_pair}
use Rattle.std.specs.Option.{option_copied}
use Rattle.sql_query.specs.declared.query.JoinKind.TheVariants.{LeftOuter}
use Rattle.sql_eval.specs.Joins.{joined_tuples}
use Rattle.sql_plan.specs.Early.{asked_early, early_nodes, kind_is}
use Rattle.sql_plan.proofs.Asked.{begins, begins_sized, goes_on}
use Rattle.sql_plan.proofs.Seen.{Sized, sized_joined}
use Rattle.sql_plan.proofs.plan.tuples_of.Goals as goal

pub loop-joins_left-init : goal.loop-joins_left-init
loop-joins_left-init c = record {
  places = grind arith;
  sized = begins_sized c.in_ok-tuples.tuples.items _ c.in_ok-tuples.ensures;
  same = begins (λ set. set.items) (option_copied c.args.filter) (map deref_pair c.args.nodes.now) c.args.joins.now c.args.sets.now c.first-item.result c.in_ok-tuples.tuples.items c.deref-2.result.now c.in-len1-up.len_at_least c.first-item.is c.deref-2.ensures.value c.in_ok-tuples.ensures;
}

pub joined-requires : goal.joined-requires
joined-requires c = subst (Sized c.loop-joins_left.count) (sym c.deref-in-len1-up-joins_left-3.ensures.value) c.loop-joins_left.invariant.sized

pub loop-joins_left-preserved : goal.loop-joins_left-preserved
loop-joins_left-preserved c =
    let nodes = map deref_pair c.args.nodes.now in
    let asks = option_copied c.args.filter in
    let later = take (length c.loop-joins_left.joins_left.now - 1) (drop 1 c.loop-joins_left.joins_left.now) in
    let more : c.in_ok-tuples-2.tuples.items ≡ joined_tuples c.join-item.result c.loop-joins_left.count c.loop-joins_left.tuples.items (early_nodes nodes c.set-item.result.items (asked_early asks c.loop-joins_left.count (kind_is LeftOuter c.join-item.result.kind) later) c.loop-joins_left.count) =
    c.in_ok-tuples-2.ensures
    ∙ (λ i. joined_tuples c.join-item.result c.loop-joins_left.count (c.deref-in-len1-up-joins_left-3.ensures.value i) (map deref_pair (c.deref-in-len1-up-joins_left-4.ensures.value i)))
    ∙ ap (joined_tuples c.join-item.result c.loop-joins_left.count c.loop-joins_left.tuples.items) (c.in_ok-spots.ensures ∙ ap (λ set. early_nodes nodes set (asked_early asks c.loop-joins_left.count (kind_is LeftOuter c.join-item.result.kind) later) c.loop-joins_left.count) c.deref-in-len1-up-joins_left-2.ensures.value)
    in
    record {
      places = grind arith;
      sized = subst (Sized _) (sym more) (sized_joined c.join-item.result c.loop-joins_left.count c.loop-joins_left.tuples.items _ c.loop-joins_left.invariant.sized);
      same = goes_on (λ set. set.items) asks nodes c.loop-joins_left.count c.loop-joins_left.joins_left.now c.loop-joins_left.sets_left.now c.join-item.result c.set-item.result c.loop-joins_left.tuples.items c.in_ok-tuples-2.tuples.items _ c.in-len1-up-joins_left.len_at_least c.join-item.is c.in-len1-up-sets_left.len_at_least c.set-item.is more c.loop-joins_left.invariant.same;
    }
