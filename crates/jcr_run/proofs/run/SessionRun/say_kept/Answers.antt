use Rattle.jcr_run.proofs.Saying.{answered_turns, may_rest}
use Rattle.jcr_run.proofs.run.SessionRun.say_kept.Goals as goal

-- nothing is left to be done but to tell
pub say-requires-clause-idle : goal.say-requires-clause-idle
say-requires-clause-idle g c = may_rest (g.P.Port.law c.args.port.now) (g.P.Port.shown c.args.port.now) c.args.self.now c.args.text.now c.requires.answer

-- the session stands before its next command
pub returns-clause-turned : goal.returns-clause-turned
returns-clause-turned g c = answered_turns (g.P.Port.law c.args.port.now) (g.P.Port.shown c.args.port.now) (g.P.Port.shown c.say.new.self) c.args.self.now c.args.text.now c.requires.answer c.say.ensures.said
