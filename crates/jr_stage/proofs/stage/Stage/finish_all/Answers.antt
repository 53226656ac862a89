use Rattle.jr_stage.specs.Parts.{to_end}
use Rattle.jr_stage.specs.Stages.{past_of}
use Rattle.jr_stage.proofs.First.{still_alone}
use Rattle.jr_stage.proofs.Whole.{finished_more, over_more}
use Rattle.jr_stage.proofs.stage.Stage.finish_all.Goals as goal

pub finish-requires-clause-alone : goal.finish-requires-clause-alone
finish-requires-clause-alone c = still_alone (past_of c.loop-s.self) c.loop-s.s c.loop-s.invariant.still

-- one session more has ended
pub loop-s-preserved : goal.loop-s-preserved
loop-s-preserved c = record {
  closes = finished_more c.args.self.now c.loop-s.self c.finish.new.self c.loop-s.s c.loop-s.invariant.closes c.in_ok-finish.ensures.closes;
  over = over_more c.loop-s.self c.finish.new.self c.loop-s.s (to_end c.loop-s.s) c.in_ok-finish.ensures.closes c.loop-s.invariant.over c.in_ok-finish.ensures.over;
  still = c.in_ok-finish.ensures.still;
}
