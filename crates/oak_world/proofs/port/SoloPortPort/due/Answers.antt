use Rattle.std.proofs.Common.{refl}
use Rattle.oak_world.specs.Worlds.{work_in}
use Rattle.oak_world.proofs.Keeping.{shown_rest, still_waits}
use Rattle.oak_world.proofs.Porting.{busy_shown}
use Rattle.oak_world.proofs.port.SoloPortPort.due.Goals as goal

pub returns-clause-same : goal.returns-clause-same
returns-clause-same g c = still_waits (g.L.Law.may_start c.args.self.now.world.now.law) (g.L.Law.may_say c.args.self.now.world.now.law) c.args.self.now.world.now c.args.self.now.actor c.args.self.now.world.ghost_name c.is_kept.ensures.run

pub returns-clause-busy : goal.returns-clause-busy
returns-clause-busy g c = busy_shown c.due.result (work_in c.args.self.now.world.now.actors c.args.self.now.actor) c.due.ensures.busy

pub returns-clause-left : goal.returns-clause-left
returns-clause-left g c = λ same. refl

pub returns-clause-over : goal.returns-clause-over
returns-clause-over g c = λ h. shown_rest (work_in c.args.self.now.world.now.actors c.args.self.now.actor) (c.due.ensures.over h)
