use Rattle.std.proofs.Common.{◌≡◌, ◌<◌, ◌%◌, length, subst, sym, ap, arith, rules, refl}
use Rattle.std.proofs.lemmas.List.{nil_from_length}
use Rattle.std.proofs.lemmas.Option.{slice_get_read}
use Rattle.jr_work.proofs.Dealing.{all_dealt, dealt_more}
use Rattle.jr_work.proofs.hands.deal.Goals as goal

pub loop-session-preserved : goal.loop-session-preserved
loop-session-preserved c =
    let left = c.in-Some.ensures.steps.0 in
    let more = ap (λ l. length l) left in
    let many = c.loop-session.invariant.many in
    record {
      many = omega (arith, more, many);
      dealing = dealt_more c.args.sessions c.loop-session.session-iterator.rest.items c.next.new.self.rest.items c.args.workers c.loop-session.s c.loop-session.hands.items _ c.in-Some.session c.index_mut.result.now c.put.new.self
          c.loop-session.invariant.dealing left (slice_get_read c.loop-session.hands.items (length c.loop-session.hands.items) (c.loop-session.s % c.args.workers) c.index_mut.result.now refl (subst (λ n. c.loop-session.s % c.args.workers < n) (sym c.loop-session.invariant.dealing.many) (search (arith, rules))) c.index_mut.ensures.value) c.in_ok-put.ensures refl;
    }

pub returns : goal.returns
returns c =
    let none : length c.loop-session.session-iterator.rest.items ≡ 0 = search rules in
    all_dealt c.args.sessions c.loop-session.session-iterator.rest.items c.args.workers c.loop-session.s c.loop-session.hands.items (nil_from_length c.loop-session.session-iterator.rest.items none) c.loop-session.invariant.dealing
