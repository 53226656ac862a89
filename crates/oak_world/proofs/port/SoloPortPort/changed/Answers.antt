use Rattle.std.proofs.Common.{refl}
use Rattle.oak_world.proofs.Keeping.{still_waits}
use Rattle.oak_world.proofs.port.SoloPortPort.changed.Goals as goal

pub returns-clause-same : goal.returns-clause-same
returns-clause-same g c = still_waits (g.L.Law.may_start c.args.self.now.world.now.law) (g.L.Law.may_say c.args.self.now.world.now.law) c.args.self.now.world.now c.args.self.now.actor c.args.self.now.world.ghost_name c.is_kept.ensures.run

pub returns-clause-told : goal.returns-clause-told
returns-clause-told g c = c.changed.ensures.told

pub returns-clause-left : goal.returns-clause-left
returns-clause-left g c = λ same. refl
