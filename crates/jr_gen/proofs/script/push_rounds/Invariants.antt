use Rattle.std.proofs.Common.{◌≡◌, ◌++◌, ◌-◌, map}
use Rattle.serde_json.specs.View.{view}
use Rattle.jr_gen.specs.Rounds.{after_rounds}
use Rattle.jr_gen.specs.Scripts.{rounds_data}
use Rattle.jr_gen.proofs.script.push_rounds.Given as goal

-- the commands so far, and those of the rounds that are left
abbrev pub invariant-loop : goal.invariant-loop
invariant-loop l = record {
  commands : map view l.commands.items ++ rounds_data (100 - l.counter) l.session l.sessions l.draws.state
      ≡ map view l.initial.commands.items ++ rounds_data 100 l.session l.sessions l.initial.draws.state;
  state : after_rounds (100 - l.counter) l.draws.state ≡ after_rounds 100 l.initial.draws.state;
}
