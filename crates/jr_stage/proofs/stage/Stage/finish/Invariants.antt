use Rattle.jr_stage.specs.Nearing.{left_at}
use Rattle.jr_stage.proofs.Looping.{IsFinishing}
use Rattle.jr_stage.proofs.stage.Stage.finish.Given as goal

-- the session goes on towards its end, and no other has a commit in flight
abbrev pub invariant-turns : goal.invariant-turns
invariant-turns l = IsFinishing l.initial.self l.self l.s

-- what the session has left
abbrev pub decreases-turns : goal.decreases-turns
decreases-turns l = left_at l.self l.s
