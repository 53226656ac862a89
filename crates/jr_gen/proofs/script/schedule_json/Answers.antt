use Rattle.std.proofs.Common.{◌≡◌, ◌-◌, ◌*◌, ◌∙◌, arith, ap, refl}
use Rattle.serde_json.proofs.Views.{view-Array}
use Rattle.jr_gen.specs.Scripts.{json_list}
use Rattle.jr_gen.proofs.Left.{no_turns, turns_further}
use Rattle.jr_gen.proofs.script.schedule_json.Goals as goal

pub loop-preserved : goal.loop-preserved
loop-preserved c = record {
  end = refl;
  turns =
      turns_further _ _ _ _ _ _ _ _ _ _ c.loop-test.true c.below.ensures.drawn c.below.ensures.state
      c.in_ok-push.ensures.items c.from.ensures c.loop.invariant.turns;
}

pub returns : goal.returns
returns c =
    let none : 100 * c.args.sessions - c.loop.counter ≡ 0 = omega (arith, c.loop-test.false) in
    view-Array c.loop.turns ∙ ap json_list (no_turns _ _ _ _ _ none c.loop.invariant.turns)
