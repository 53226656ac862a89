use Rattle.std.proofs.Common.{◌≡◌, ◌++◌, ◌-◌, ◌*◌, map}
use Rattle.serde_json.specs.View.{view}
use Rattle.jr_gen.specs.Rounds.{after_rounds}
use Rattle.jr_gen.specs.Scripts.{sessions_data}
use Rattle.jr_gen.proofs.script.sessions_json.Given as goal

-- the sessions so far, and those that are left
abbrev pub invariant-loop-session : goal.invariant-loop-session
invariant-loop-session l = record {
  sessions : map view l.items.items ++ sessions_data (l.sessions - l.session) l.session l.sessions l.draws.state ≡ sessions_data l.sessions 0 l.sessions l.initial.draws.state;
  state : after_rounds (100 * (l.sessions - l.session)) l.draws.state ≡ after_rounds (100 * l.sessions) l.initial.draws.state;
}
