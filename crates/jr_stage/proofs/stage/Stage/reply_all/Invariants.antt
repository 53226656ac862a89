use Rattle.std.proofs.Common.{drop, map, take}
use Rattle.jr_stage.specs.Awaited.{AreInTurn}
use Rattle.jr_stage.specs.Parts.{to_reply}
use Rattle.jr_stage.specs.Stages.{ClosesAll, past_of}
use Rattle.jr_stage.proofs.stage.Stage.reply_all.Given as goal

-- the sessions so far have said their replies, and the others still have their commits in flight
abbrev pub invariant-loop-s : goal.invariant-loop-s
invariant-loop-s l = record {
  closes : ClosesAll l.initial.self l.self (map to_reply (take l.s-index l.sessions));
  in_turn : AreInTurn (past_of l.self) (drop l.s-index l.sessions);
}
