use Rattle.std.proofs.Common.{map}
use Rattle.std.specs.List.{range_with_len}
use Rattle.jr_stage.specs.Awaited.{IsStill}
use Rattle.jr_stage.specs.Parts.{to_end}
use Rattle.jr_stage.specs.Stages.{HaveEnded, ClosesAll, past_of}
use Rattle.jr_stage.proofs.stage.Stage.finish_all.Given as goal

-- the sessions so far have ended
abbrev pub invariant-loop-s : goal.invariant-loop-s
invariant-loop-s l = record {
  closes : ClosesAll l.initial.self l.self (map to_end (range_with_len 0 l.s));
  over : HaveEnded l.self l.s;
  still : IsStill (past_of l.self);
}
