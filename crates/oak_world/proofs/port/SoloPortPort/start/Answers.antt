use Rattle.std.proofs.lemmas.Result.{on_err_weaker, on_ok_weaker}
use Rattle.core_world.specs.States.{actor_pin}
use Rattle.oak_world.specs.Worlds.{state_of}
use Rattle.oak_world.proofs.Porting.{is_idle, none_waits, start_law, start_waits}
use Rattle.oak_world.proofs.port.SoloPortPort.start.Goals as goal

pub start-requires-clause-idle : goal.start-requires-clause-idle
start-requires-clause-idle g c = is_idle (g.L.Law.may_start c.args.self.now.world.now.law) (g.L.Law.may_say c.args.self.now.world.now.law) c.args.self.now.world.now c.args.self.now.actor c.args.self.now.there c.is_kept.ensures.run c.is_kept.ensures.seats c.args.self.now.world.ghost_name c.requires.idle

pub returns-clause-law : goal.returns-clause-law
returns-clause-law g c = start_law c.args.self.now.world.now c.start.new.self c.args.self.now.actor c.start.result c.args.self.now.world.now.history.clusters (actor_pin (state_of c.args.self.now.world.now) c.args.self.now.actor) c.args.task c.start.ensures.ok c.start.ensures.err

pub returns-clause-ok : goal.returns-clause-ok
returns-clause-ok g c = on_ok_weaker c.start.result (start_waits (g.L.Law.may_start c.args.self.now.world.now.law) (g.L.Law.may_say c.args.self.now.world.now.law) c.args.self.now.world.now c.args.self.now.actor c.args.self.now.there c.is_kept.ensures.run c.is_kept.ensures.seats c.args.self.now.world.ghost_name c.requires.idle c.start.new.self c.args.self.now.world.now.history.clusters (actor_pin (state_of c.args.self.now.world.now) c.args.self.now.actor) c.args.task) c.start.ensures.ok

pub returns-clause-err : goal.returns-clause-err
returns-clause-err g c = on_err_weaker c.start.result (none_waits (g.L.Law.may_start c.args.self.now.world.now.law) (g.L.Law.may_say c.args.self.now.world.now.law) c.args.self.now.world.now c.args.self.now.actor c.args.self.now.there c.is_kept.ensures.run c.is_kept.ensures.seats c.args.self.now.world.ghost_name c.requires.idle c.start.new.self) c.start.ensures.err
