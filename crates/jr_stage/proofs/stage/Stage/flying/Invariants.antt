use Rattle.jr_stage.proofs.Ascending.{AreKept}
use Rattle.jr_stage.proofs.stage.Stage.flying.Given as goal

-- the commits of the seats so far
abbrev pub invariant-loop-s : goal.invariant-loop-s
invariant-loop-s l = AreKept l.self l.s l.flying.entries
