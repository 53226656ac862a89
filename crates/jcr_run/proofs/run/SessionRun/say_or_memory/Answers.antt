use Rattle.std.proofs.Common.{Some, length, subst}
use Rattle.jr_path.specs.Lists.{Text}
use Rattle.oak_port.specs.Ports.{HasRoom}
use Rattle.jcr_trans.specs.Texts.{memory_text}
use Rattle.jcr_law.specs.Lasting.{says_of, starts_of}
use Rattle.jcr_run.specs.Asked.{MayAnswer}
use Rattle.jcr_run.proofs.Calling.{may_behind, turned_behind_place}
use Rattle.jcr_run.proofs.Lengths.{memory_reply_is, memory_room}
use Rattle.jcr_run.proofs.Saying.{room_kept, room_stays}
use Rattle.jcr_run.proofs.run.SessionRun.say_or_memory.Goals as goal

-- there is a place for the text
pub say_kept-requires-clause-answer : goal.say_kept-requires-clause-answer
say_kept-requires-clause-answer g c =
    may_behind (g.P.Port.law c.args.port.now) (g.P.Port.law c.reserve_say.new.self) c.in-Ok.ensures.law (g.P.Port.shown c.args.port.now) (g.P.Port.shown c.reserve_say.new.self) c.args.self.now c.args.text.now c.requires.answer (Some (length c.args.text.now)) c.in-Ok.ensures.ok

pub say_kept-requires-clause-room : goal.say_kept-requires-clause-room
say_kept-requires-clause-room g c =
    room_kept (starts_of (g.P.Port.law c.args.port.now)) (says_of (g.P.Port.law c.args.port.now)) (g.P.Port.shown c.args.port.now) (g.P.Port.shown c.reserve_say.new.self) (g.P.Port.shown c.args.port.now).work (length c.args.text.now) c.in-Ok.ensures.ok

pub returns-in-Ok-clause-turned : goal.returns-in-Ok-clause-turned
returns-in-Ok-clause-turned g c =
    turned_behind_place (g.P.Port.law c.args.port.now) (g.P.Port.law c.reserve_say.new.self) c.in-Ok.ensures.law (g.P.Port.shown c.args.port.now) (g.P.Port.shown c.reserve_say.new.self) c.args.self.now c.args.text.now
    c.requires.answer (Some (length c.args.text.now)) c.in-Ok.ensures.ok (g.P.Port.shown c.say_kept.new.port) c.say_kept.new.self c.say_kept.result c.say_kept.ensures.turned

-- there is the place that was kept before
pub say_kept-requires-in-Err-clause-answer : goal.say_kept-requires-in-Err-clause-answer
say_kept-requires-in-Err-clause-answer g c =
    subst (λ (text : Text). MayAnswer (g.P.Port.law c.reserve_say.new.self) (g.P.Port.shown c.reserve_say.new.self) c.args.self.now text) memory_reply_is
    (may_behind (g.P.Port.law c.args.port.now) (g.P.Port.law c.reserve_say.new.self) c.in-Err.ensures.law (g.P.Port.shown c.args.port.now) (g.P.Port.shown c.reserve_say.new.self) c.args.self.now memory_text c.requires.memory (g.P.Port.shown c.args.port.now).room c.in-Err.ensures.err)

pub say_kept-requires-in-Err-clause-room : goal.say_kept-requires-in-Err-clause-room
say_kept-requires-in-Err-clause-room g c =
    subst (λ (text : Text). HasRoom (g.P.Port.shown c.reserve_say.new.self).room (length text)) memory_reply_is
    (memory_room (g.P.Port.shown c.reserve_say.new.self).room (room_stays (starts_of (g.P.Port.law c.args.port.now)) (says_of (g.P.Port.law c.args.port.now)) (g.P.Port.shown c.args.port.now) (g.P.Port.shown c.reserve_say.new.self) (g.P.Port.shown c.args.port.now).work 40 c.in-Err.ensures.err c.requires.room))

pub returns-in-Err-clause-turned : goal.returns-in-Err-clause-turned
returns-in-Err-clause-turned g c =
    turned_behind_place (g.P.Port.law c.args.port.now) (g.P.Port.law c.reserve_say.new.self) c.in-Err.ensures.law (g.P.Port.shown c.args.port.now) (g.P.Port.shown c.reserve_say.new.self) c.args.self.now memory_text
    c.requires.memory (g.P.Port.shown c.args.port.now).room c.in-Err.ensures.err (g.P.Port.shown c.say_kept-in-Err.new.port) c.say_kept-in-Err.new.self c.say_kept-in-Err.result c.say_kept-in-Err.ensures.turned
