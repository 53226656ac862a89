use Rattle.oak_world.proofs.Playing.{turn_more}
use Rattle.oak_world.proofs.world.World.play.Goals as goal

pub loop-actor-preserved : goal.loop-actor-preserved
loop-actor-preserved g c = turn_more c.args.schedule.now c.loop-actor.actor-index _ _ _ _ c.loop-actor-test.true c.loop-actor.invariant c.turn.ensures
