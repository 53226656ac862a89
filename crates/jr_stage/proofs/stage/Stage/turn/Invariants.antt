use Rattle.jr_stage.specs.Nearing.{left_at}
use Rattle.jr_stage.proofs.Reading.{HasReadShort}
use Rattle.jr_stage.proofs.stage.Stage.turn.Given as goal

-- reading steps alone were made so far
abbrev pub invariant-places : goal.invariant-places
invariant-places l = HasReadShort l.initial.self l.self l.s l.until

-- what the session has left
abbrev pub decreases-places : goal.decreases-places
decreases-places l = left_at l.self l.s
