use Rattle.std.proofs.Common.{◌≡◌, map, take}
use Rattle.oak_world.proofs.Starting.{idle_actor}
use Rattle.oak_world.proofs.world.World.new.Given as goal

-- the sessions so far have a seat each
abbrev pub invariant-loop-node : goal.invariant-loop-node
invariant-loop-node g l = record {
  numbers : l.numbers ≡ take l.node-index l.sessions;
  actors : l.actors.items ≡ map (λ k. idle_actor) (take l.node-index l.sessions);
}
