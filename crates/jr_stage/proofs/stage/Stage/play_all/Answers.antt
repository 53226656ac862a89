use Rattle.std.proofs.Common.{ℕ, ◌<◌, refl, subst}
use Rattle.jr_stage.proofs.Whole.{played_more}
use Rattle.jr_stage.proofs.stage.Stage.play_all.Goals as goal

-- one entry more has its part
pub loop-i-preserved : goal.loop-i-preserved
loop-i-preserved c = played_more c.args.self.now c.loop-i.self c.play.new.self c.requires.stage c.loop-i.i _ _ c.as_slice.result.now c.loop-i.invariant (subst (λ (n : ℕ). c.loop-i.i < n) c.len-i-end.ensures c.loop-i-test.true) c.as_slice.ensures refl c.in_ok-play.ensures
