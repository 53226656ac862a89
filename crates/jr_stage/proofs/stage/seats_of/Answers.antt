use Rattle.std.proofs.Common.{◌≡◌, ◌∙◌, length, rules, subst, vec_len}
use Rattle.jr_stage.specs.Seats.{AreNew}
use Rattle.jr_stage.proofs.Beginning.{all_yielded, comes_next, goes_over, none_new, seats_more}
use Rattle.jr_stage.proofs.stage.seats_of.Goals as goal

pub loop-session-init : goal.loop-session-init
loop-session-init c = record {
  whole = c.into_iter-session-iterator.ensures.into_iter_gives.0 ∙ c.into_inner-session-items.ensures;
  new = rw c.new-seats.ensures.items (none_new c.args.types.now c.args.sessions);
}

pub loop-session-preserved : goal.loop-session-preserved
loop-session-preserved c =
    let left = c.in-Some.ensures.steps.0 in
    let whole = c.loop-session.invariant.whole in
    let many : vec_len c.loop-session.seats ≡ length c.loop-session.seats.items = search rules in
    record {
      whole = goes_over c.loop-session.yielded c.next.new.self.rest.items c.loop-session.session-iterator.rest.items c.args.sessions c.in-Some.session whole left;
      new = seats_more c.args.types.now c.args.sessions c.loop-session.yielded c.loop-session.seats.items c.push.new.self.items c.in-Some.session c.in_ok-seat.seat c.len.result
          (comes_next c.loop-session.yielded c.next.new.self.rest.items c.loop-session.session-iterator.rest.items c.args.sessions c.in-Some.session whole left) c.loop-session.invariant.new (c.len.ensures ∙ many) c.in_ok-seat.ensures c.in_ok-push.ensures.items;
    }

pub returns : goal.returns
returns c =
    let none : length c.loop-session.session-iterator.rest.items ≡ 0 = search rules in
    subst (λ l. AreNew c.args.types.now c.args.sessions (length l) c.loop-session.seats.items)
    (all_yielded c.loop-session.yielded c.loop-session.session-iterator.rest.items c.args.sessions c.loop-session.invariant.whole none) c.loop-session.invariant.new
