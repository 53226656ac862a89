use Rattle.jr_stage.specs.Nearing.{unread_at}
use Rattle.jr_stage.proofs.Reading.{HasReadHere}
use Rattle.jr_stage.proofs.stage.Stage.turn_here.Given as goal

-- reading steps alone were made so far, and the session stands where it stood
abbrev pub invariant-needs : goal.invariant-needs
invariant-needs l = HasReadHere l.initial.self l.self l.s l.until

-- how much may still be read
abbrev pub decreases-needs : goal.decreases-needs
decreases-needs l = unread_at l.self l.s
