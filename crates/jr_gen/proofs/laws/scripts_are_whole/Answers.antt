use Rattle.jr_gen.proofs.Sizes.{all_turns, commands_size, draw_below, sessions_size, turns_size}
use Rattle.jr_gen.proofs.laws.scripts_are_whole.Goals as goal

pub returns-clause-draws : goal.returns-clause-draws
returns-clause-draws c = draw_below

pub returns-clause-sessions : goal.returns-clause-sessions
returns-clause-sessions c = λ m seed. sessions_size m 0 m seed

pub returns-clause-commands : goal.returns-clause-commands
returns-clause-commands c = commands_size

pub returns-clause-schedule : goal.returns-clause-schedule
returns-clause-schedule c = turns_size

pub returns-clause-turns : goal.returns-clause-turns
returns-clause-turns c = all_turns
