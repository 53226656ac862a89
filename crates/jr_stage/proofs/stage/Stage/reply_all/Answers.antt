use Rattle.std.proofs.Common.{◌+◌, drop, map, refl, take}
use Rattle.jr_stage.specs.Parts.{to_reply}
use Rattle.jr_stage.specs.Stages.{past_of}
use Rattle.jr_stage.proofs.InTurn.{first_drawing, first_in_turn, in_turn_at, next_in_turn, none_in_turn}
use Rattle.jr_stage.proofs.Whole.{all_begins, all_taken, listed_there, replied_more}
use Rattle.jr_stage.proofs.stage.Stage.reply_all.Goals as goal

pub loop-s-init : goal.loop-s-init
loop-s-init c = record { closes = all_begins c.args.self.now c.requires.stage; in_turn = c.requires.in_turn }

pub reply-requires-clause-stage : goal.reply-requires-clause-stage
reply-requires-clause-stage c = c.loop-s.invariant.closes.stage

pub reply-requires-clause-there : goal.reply-requires-clause-there
reply-requires-clause-there c =
    listed_there c.args.self.now c.loop-s.self (map to_reply (take c.loop-s.s-index c.args.sessions.now)) c.loop-s.invariant.closes c.requires.stage
    c.args.sessions.now c.requires.there c.loop-s.s-index 0 _ c.loop-s-test.true refl

pub reply-requires-clause-flies : goal.reply-requires-clause-flies
reply-requires-clause-flies c =
    first_drawing (past_of c.loop-s.self) _ (drop (c.loop-s.s-index + 1) c.args.sessions.now)
    (in_turn_at (past_of c.loop-s.self) c.args.sessions.now c.loop-s.s-index 0 _ c.loop-s-test.true refl c.loop-s.invariant.in_turn)

pub reply-requires-clause-first : goal.reply-requires-clause-first
reply-requires-clause-first c =
    first_in_turn (past_of c.loop-s.self) _ (drop (c.loop-s.s-index + 1) c.args.sessions.now)
    (in_turn_at (past_of c.loop-s.self) c.args.sessions.now c.loop-s.s-index 0 _ c.loop-s-test.true refl c.loop-s.invariant.in_turn)

-- one session more has said its reply
pub loop-s-preserved : goal.loop-s-preserved
loop-s-preserved c = record {
  closes = replied_more c.args.self.now c.loop-s.self c.reply.new.self c.args.sessions.now c.loop-s.s-index 0 _ c.loop-s.invariant.closes c.loop-s-test.true refl c.in_ok-reply.ensures.closes;
  in_turn = next_in_turn (past_of c.loop-s.self) (past_of c.reply.new.self) _ (drop (c.loop-s.s-index + 1) c.args.sessions.now)
      (in_turn_at (past_of c.loop-s.self) c.args.sessions.now c.loop-s.s-index 0 _ c.loop-s-test.true refl c.loop-s.invariant.in_turn)
      c.in_ok-reply.ensures.leaves c.in_ok-reply.ensures.lands;
}

pub returns-clause-closes : goal.returns-clause-closes
returns-clause-closes c = all_taken to_reply c.args.self.now c.loop-s.self c.args.sessions.now c.loop-s.s-index c.loop-s-test.false c.loop-s.invariant.closes

pub returns-clause-still : goal.returns-clause-still
returns-clause-still c = none_in_turn (past_of c.loop-s.self) c.args.sessions.now c.loop-s.s-index c.loop-s-test.false c.loop-s.invariant.in_turn
