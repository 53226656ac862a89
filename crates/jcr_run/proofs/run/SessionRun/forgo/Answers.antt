use Rattle.std.proofs.Common.{subst, length}
use Rattle.jr_path.specs.Lists.{Text}
use Rattle.oak_port.specs.Ports.{HasRoom}
use Rattle.jcr_run.specs.Asked.{MayAnswer}
use Rattle.jcr_run.proofs.Lawful.{forgo_answers}
use Rattle.jcr_run.proofs.Lengths.{memory_reply_is, memory_room}
use Rattle.jcr_run.proofs.run.SessionRun.forgo.Goals as goal

pub say_kept-requires-clause-answer : goal.say_kept-requires-clause-answer
say_kept-requires-clause-answer g c = subst (λ (text : Text). MayAnswer (g.P.Port.law c.args.port.now) (g.P.Port.shown c.args.port.now) c.refuse.new.self text) memory_reply_is (forgo_answers (g.P.Port.law c.args.port.now) (g.P.Port.shown c.args.port.now) c.args.self.now c.refuse.new.self c.args.drew c.requires.forgoes c.refuse.ensures)

pub say_kept-requires-clause-room : goal.say_kept-requires-clause-room
say_kept-requires-clause-room g c = subst (λ (text : Text). HasRoom (g.P.Port.shown c.args.port.now).room (length text)) memory_reply_is (memory_room (g.P.Port.shown c.args.port.now).room c.requires.room)
