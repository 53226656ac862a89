use Rattle.std.proofs.Common.{◌++◌, [], append-nil, ap, sym, ◌∙◌}
use Rattle.oak_changes.proofs.Gathering.{one_behind, one_over}
use Rattle.oak_changes.proofs.said.add_each.Goals as goal

pub loop-one-init : goal.loop-one-init
loop-one-init c = record {
  whole = ap (λ ys. c.args.said.now ++ ys) (c.into_iter-one-iterator.ensures.into_iter_gives.0 ∙ c.into_inner-one-items.ensures);
  front = ([], sym (append-nil c.args.said.now));
}

pub loop-one-preserved : goal.loop-one-preserved
loop-one-preserved c = record {
  whole = one_over c.loop-one.said c.loop-one.one-iterator.rest.items c.next.new.self.rest.items c.push.new.self _ c.in-Some.one c.in-Some.ensures.steps.0 c.in_ok-push.ensures.ok c.loop-one.invariant.whole;
  front = one_behind c.args.said.now c.loop-one.said c.push.new.self c.loop-one.invariant.front.0 c.in-Some.one c.loop-one.invariant.front.1 c.in_ok-push.ensures.ok;
}

pub returns-in_err-push-clause-front : goal.returns-in_err-push-clause-front
returns-in_err-push-clause-front c = (c.loop-one.invariant.front.0, c.in_err-push.ensures.err ∙ c.loop-one.invariant.front.1)
