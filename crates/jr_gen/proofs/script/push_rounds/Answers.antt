use Rattle.std.proofs.Common.{◌≡◌, ◌-◌, arith}
use Rattle.jr_gen.proofs.Left.{after_further, no_rounds, none_after, rounds_further}
use Rattle.jr_gen.proofs.script.push_rounds.Goals as goal

pub loop-preserved : goal.loop-preserved
loop-preserved c = record {
  commands =
      rounds_further _ _ _ _ _ _ _ _ _ _ _ c.loop-test.true c.next_round-round.ensures.round
      c.next_round-round.ensures.state c.in_ok-push.ensures.items c.in_ok-round_json.ensures
      c.loop.invariant.commands;
  state =
      after_further _ _ _ _ _ c.loop-test.true c.next_round-round.ensures.state c.loop.invariant.state;
}

pub returns-clause-commands : goal.returns-clause-commands
returns-clause-commands c =
    let none : 100 - c.loop.counter ≡ 0 = omega (arith, c.loop-test.false) in
    no_rounds _ _ _ _ _ _ none c.loop.invariant.commands

pub returns-clause-state : goal.returns-clause-state
returns-clause-state c =
    let none : 100 - c.loop.counter ≡ 0 = omega (arith, c.loop-test.false) in
    none_after _ _ _ none c.loop.invariant.state
