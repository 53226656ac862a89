use Rattle.jr_stage.specs.Nearing.{left_at}
use Rattle.jr_stage.proofs.Counting.{HasSaid}
use Rattle.jr_stage.proofs.stage.Stage.say.Given as goal

-- so many replies are said
abbrev pub invariant-turns : goal.invariant-turns
invariant-turns l = HasSaid l.initial.self l.self l.s l.count l.said

-- what the session has left
abbrev pub decreases-turns : goal.decreases-turns
decreases-turns l = left_at l.self l.s
