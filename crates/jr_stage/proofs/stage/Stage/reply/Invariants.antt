use Rattle.jr_stage.specs.Nearing.{left_at}
use Rattle.jr_stage.proofs.Looping.{IsReplying}
use Rattle.jr_stage.proofs.stage.Stage.reply.Given as goal

-- no reply is said yet, and no other session keeps this one waiting
abbrev pub invariant-turns : goal.invariant-turns
invariant-turns l = IsReplying l.initial.self l.self l.s

-- what the session has left
abbrev pub decreases-turns : goal.decreases-turns
decreases-turns l = left_at l.self l.s
