use Rattle.std.proofs.Common.{◌≡◌, ◌-◌, ◌*◌, ◌∙◌, arith, ap}
use Rattle.serde_json.proofs.Views.{view-Array}
use Rattle.jr_gen.specs.Scripts.{json_list}
use Rattle.jr_gen.proofs.Left.{no_sessions, none_after, sessions_further, sessions_join}
use Rattle.jr_gen.proofs.script.sessions_json.Goals as goal

pub loop-session-preserved : goal.loop-session-preserved
loop-session-preserved c = record {
  sessions =
      sessions_further _ _ _ _ _ _ _ _ _ c.loop-session-test.true c.in_ok-session_json.ensures.state
      c.in_ok-push.ensures.items c.in_ok-session_json.ensures.json c.loop-session.invariant.sessions;
  state =
      sessions_join _ _ _ _ _ c.loop-session-test.true c.in_ok-session_json.ensures.state
      c.loop-session.invariant.state;
}

pub returns-clause-json : goal.returns-clause-json
returns-clause-json c =
    let none : c.args.sessions - c.loop-session.session ≡ 0 = omega (arith, c.loop-session-test.false) in
    view-Array c.loop-session.items
    ∙ ap json_list (no_sessions _ _ _ _ _ _ none c.loop-session.invariant.sessions)

pub returns-clause-state : goal.returns-clause-state
returns-clause-state c =
    let none : 100 * (c.args.sessions - c.loop-session.session) ≡ 0 =
    omega (arith, c.loop-session-test.false) in
    none_after _ _ _ none c.loop-session.invariant.state
