use Rattle.std.proofs.Common.{take}
use Rattle.oak_world.specs.Steps.{Plays}
use Rattle.oak_world.proofs.world.World.play.Given as goal

-- those that were named so far took their turns
abbrev pub invariant-loop-actor : goal.invariant-loop-actor
invariant-loop-actor g l = Plays l.initial.self (take l.actor-index l.schedule) l.self
