use Rattle.std.proofs.Common.{subst, false}
use Rattle.jr_path.specs.Lists.{Text}
use Rattle.jcr_run.specs.Asked.{MayAnswer}
use Rattle.jcr_run.proofs.Lawful.{forgo_answers}
use Rattle.jcr_run.proofs.Lengths.{memory_reply_is}
use Rattle.jcr_run.proofs.run.SessionRun.say_memory.Goals as goal

pub say-requires : goal.say-requires
say-requires g c = record { answer = subst (λ (text : Text). MayAnswer (g.P.Port.law c.args.port.now) (g.P.Port.shown c.args.port.now) c.refuse.new.self text) memory_reply_is (forgo_answers (g.P.Port.law c.args.port.now) (g.P.Port.shown c.args.port.now) c.args.self.now c.refuse.new.self false c.requires.forgoes c.refuse.ensures) }
