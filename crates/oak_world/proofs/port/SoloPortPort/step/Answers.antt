use Rattle.oak_world.specs.Worlds.{work_in}
use Rattle.oak_world.proofs.Porting.{at_work}
use Rattle.oak_world.proofs.Sessions.{step_there}
use Rattle.oak_world.proofs.port.SoloPortPort.step.Goals as goal

pub step-requires-clause-busy : goal.step-requires-clause-busy
step-requires-clause-busy g c = at_work (work_in c.args.self.now.world.now.actors c.args.self.now.actor) c.requires.busy

pub invariant_of-self : goal.invariant_of-self
invariant_of-self g c = record { there = step_there c.args.self.now.world.now c.step.new.self c.args.self.now.actor c.args.self.now.there (g.L.Law.may_start c.args.self.now.world.now.law) (g.L.Law.may_say c.args.self.now.world.now.law) c.args.self.now.world.ghost_name c.step.result (c.step.ensures.seen c.args.self.now.world.ghost_name) }

pub returns-clause-law : goal.returns-clause-law
returns-clause-law g c = c.step.ensures.made.law

pub returns-clause-steps : goal.returns-clause-steps
returns-clause-steps g c = c.step.ensures.seen c.args.self.now.world.ghost_name

pub returns-clause-lowers : goal.returns-clause-lowers
returns-clause-lowers g c = λ alone. c.step.ensures.lowers
