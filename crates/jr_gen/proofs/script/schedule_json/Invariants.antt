use Rattle.std.proofs.Common.{◌≡◌, ◌++◌, ◌-◌, ◌*◌, map}
use Rattle.serde_json.specs.View.{view}
use Rattle.jr_gen.specs.Scripts.{turns_data}
use Rattle.jr_gen.proofs.script.schedule_json.Given as goal

-- the turns so far, and those that are left
abbrev pub invariant-loop : goal.invariant-loop
invariant-loop l = record {
  end : l.end ≡ 100 * l.sessions;
  turns : map view l.turns.items ++ turns_data (l.end - l.counter) l.sessions l.draws.state ≡ turns_data (100 * l.sessions) l.sessions l.initial.draws.state;
}
