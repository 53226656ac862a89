use Rattle.jr_stage.proofs.Taking.{read_out, stands_at}
use Rattle.jr_stage.proofs.stage.read_one.Goals as goal

pub read-requires : goal.read-requires
read-requires c = record {
  stands = stands_at _ c.new-port.result.world.ghost_name c.args.s c.new-port.result.actor c.args.world.now c.new-port.result.world.now c.args.run.now c.new-port.ensures.name c.new-port.ensures.world c.new-port.ensures.session (c.requires.stands _);
}

pub returns : goal.returns
returns c =
    read_out _ c.new-port.result.world.ghost_name c.read.new.port.world.ghost_name c.args.s c.new-port.result.actor c.read.new.port.actor c.args.world.now c.new-port.result.world.now c.read.new.port.world.now _ c.args.run.now c.read.new.run
    c.new-port.ensures.name c.new-port.ensures.world c.new-port.ensures.session c.read.ensures.law c.world-1.given.1 c.read.ensures.looked
