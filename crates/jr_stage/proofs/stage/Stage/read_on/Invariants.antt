use Rattle.std.proofs.Common.{◌+◌, cond}
use Rattle.jr_stage.specs.Nearing.{reads_at, steps_at}
use Rattle.jr_stage.proofs.Reading.{HasReadSoFar}
use Rattle.jr_stage.proofs.stage.Stage.read_on.Given as goal

-- reading steps alone were made so far
abbrev pub invariant-reads : goal.invariant-reads
invariant-reads l = HasReadSoFar l.initial.self l.self l.s

-- the steps that are left of what is being read
abbrev pub decreases-reads : goal.decreases-reads
decreases-reads l = cond (reads_at l.self l.s) (steps_at l.self l.s + 1) 0
