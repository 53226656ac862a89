use Rattle.std.proofs.Common.{map, take}
use Rattle.jr_stage.specs.Parts.{by_entry}
use Rattle.jr_stage.specs.Stages.{ClosesAll}
use Rattle.jr_stage.proofs.stage.Stage.play_all.Given as goal

-- the entries so far have their parts
abbrev pub invariant-loop-i : goal.invariant-loop-i
invariant-loop-i l = ClosesAll l.initial.self l.self (map by_entry (take l.i l.initial.self.schedule))
