use Rattle.std.proofs.Common.{subst, sym, ap, is_some, length, ◌∙◌}
use Rattle.jr_path.specs.Lists.{Text}
use Rattle.oak_port.specs.Ports.{HasRoom}
use Rattle.jcr_run.specs.Asked.{MayAnswer}
use Rattle.jcr_session.proofs.Ending.{clash_answers, clash_memory}
use Rattle.jcr_run.proofs.Lengths.{memory_reply_is, memory_room}
use Rattle.jcr_session.proofs.ends.say_clash.Goals as goal

pub refuse-requires : goal.refuse-requires
refuse-requires g c = record { next = ap is_some c.requires.clash.asked.next }

-- the clash
pub say_or_memory-requires-clause-answer : goal.say_or_memory-requires-clause-answer
say_or_memory-requires-clause-answer g c =
    subst (λ (t : Text). MayAnswer (g.P.Port.law c.args.port.now) (g.P.Port.shown c.args.port.now) c.refuse.new.self t) (sym (c.as_str.ensures.value ∙ c.in-Ok.ensures)) (clash_answers (g.P.Port.law c.args.port.now) (g.P.Port.shown c.args.port.now) c.args.run.now c.refuse.new.self c.args.item c.args.other c.requires.clash c.refuse.ensures)

pub say_or_memory-requires-clause-memory : goal.say_or_memory-requires-clause-memory
say_or_memory-requires-clause-memory g c = clash_memory (g.P.Port.law c.args.port.now) (g.P.Port.shown c.args.port.now) c.args.run.now c.refuse.new.self c.args.item c.args.other c.requires.clash c.refuse.ensures

-- memory was refused for its text
pub say_kept-requires-clause-answer : goal.say_kept-requires-clause-answer
say_kept-requires-clause-answer g c =
    subst (λ (text : Text). MayAnswer (g.P.Port.law c.args.port.now) (g.P.Port.shown c.args.port.now) c.refuse.new.self text) memory_reply_is (clash_memory (g.P.Port.law c.args.port.now) (g.P.Port.shown c.args.port.now) c.args.run.now c.refuse.new.self c.args.item c.args.other c.requires.clash c.refuse.ensures)

pub say_kept-requires-clause-room : goal.say_kept-requires-clause-room
say_kept-requires-clause-room g c = subst (λ (text : Text). HasRoom (g.P.Port.shown c.args.port.now).room (length text)) memory_reply_is (memory_room (g.P.Port.shown c.args.port.now).room c.requires.clash.room)
