use Rattle.jr_stage.proofs.Taking.{stands_at, turned_out}
use Rattle.jr_stage.proofs.turns.turn_once.Goals as goal

pub turn-requires : goal.turn-requires
turn-requires c = record {
  stands = stands_at _ c.new-port.result.world.ghost_name c.args.s c.new-port.result.actor c.args.world.now c.new-port.result.world.now c.args.run.now c.new-port.ensures.name c.new-port.ensures.world c.new-port.ensures.session (c.requires.stands _);
}

pub returns : goal.returns
returns c =
    turned_out _ c.new-port.result.world.ghost_name c.turn.new.port.world.ghost_name c.args.s c.new-port.result.actor c.turn.new.port.actor c.args.world.now c.new-port.result.world.now c.turn.new.port.world.now _ c.args.run.now c.turn.new.run
    c.new-port.ensures.name c.new-port.ensures.world c.new-port.ensures.session c.requires.stands c.turn.ensures.law c.world-1.given.1 c.turn.result c.turn.ensures.turned c.turn.ensures.draws c.turn.ensures.nears c.turn.ensures.reads
