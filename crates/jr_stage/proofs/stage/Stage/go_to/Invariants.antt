use Rattle.std.proofs.Common.{◌+◌, cond}
use Rattle.jr_stage.specs.Nearing.{left_at}
use Rattle.jr_stage.specs.Parts.{by_entry}
use Rattle.jr_stage.specs.Stages.{has_come}
use Rattle.jr_stage.proofs.Counting.{HasGone}
use Rattle.jr_stage.proofs.stage.Stage.go_to.Given as goal

-- the turns so far said no reply
abbrev pub invariant-turns : goal.invariant-turns
invariant-turns l = HasGone l.initial.self l.self (by_entry l.entry) l.s

-- what the session has left, until its commit has come
abbrev pub decreases-turns : goal.decreases-turns
decreases-turns l = cond (has_come l.self l.s l.entry) 0 (left_at l.self l.s + 1)
