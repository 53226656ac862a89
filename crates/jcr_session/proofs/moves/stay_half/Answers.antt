use Rattle.std.proofs.Common.{false, refl, sym, ap, subst, length}
use Rattle.jr_path.specs.Lists.{Text}
use Rattle.jcr_trans.specs.Texts.{memory_text}
use Rattle.oak_port.specs.Ports.{HasRoom}
use Rattle.jcr_run.specs.Asked.{MayAnswer}
use Rattle.jcr_session.proofs.Moved.{half_answers, half_holds, half_next, half_pin, half_pinned, half_room}
use Rattle.jcr_run.proofs.Calling.{may_behind, turned_behind_place}
use Rattle.jcr_run.proofs.Lengths.{memory_reply_is, memory_room}
use Rattle.jcr_run.proofs.Saying.{replied_like}
use Rattle.jcr_session.proofs.moves.stay_half.Goals as goal

pub unreachable-requires : goal.unreachable-requires
unreachable-requires g c = half_pinned (g.P.Port.law c.args.port.now) (g.P.Port.shown c.args.port.now) c.args.run.now c.requires.half c.pin.result c.in_default.is c.pin.ensures.base

pub refuse-requires : goal.refuse-requires
refuse-requires g c = record { next = half_next (g.P.Port.law c.args.port.now) (g.P.Port.shown c.args.port.now) c.args.run.now c.requires.half }

pub say_kept-requires-clause-answer : goal.say_kept-requires-clause-answer
say_kept-requires-clause-answer g c =
    let law = g.P.Port.law c.args.port.now in
    let old = g.P.Port.shown c.args.port.now in
    let mid = g.P.Port.shown c.pin.new.self in
    subst (λ (t : Text). MayAnswer (g.P.Port.law c.pin.new.self) mid (record c.refuse.new.self { attached = false }) t) memory_reply_is
    (may_behind law (g.P.Port.law c.pin.new.self) c.in-Some.ensures.law old mid (record c.refuse.new.self { attached = false }) memory_text
    (half_answers law old c.args.run.now c.requires.half c.move_to.new.self c.refuse.new.self (record c.refuse.new.self { attached = false })
    (half_holds law old c.args.run.now c.requires.half c.in-Some.pin.base c.move_to.new.self (half_pin law old c.args.run.now c.requires.half c.pin.result c.in-Some.pin c.in-Some.is c.pin.ensures.base) (λ x t holds settled is. c.move_to.ensures.moved x t holds settled is))
    c.refuse.ensures refl)
    old.room c.in-Some.ensures.same)

pub say_kept-requires-clause-room : goal.say_kept-requires-clause-room
say_kept-requires-clause-room g c =
    let mid = g.P.Port.shown c.pin.new.self in
    subst (λ (t : Text). HasRoom mid.room (length t)) memory_reply_is
    (memory_room mid.room (subst (λ (o : _). HasRoom o 40) (sym c.in-Some.ensures.same.room_is) (half_room (g.P.Port.law c.args.port.now) (g.P.Port.shown c.args.port.now) c.args.run.now c.requires.half)))

pub returns-clause-turned : goal.returns-clause-turned
returns-clause-turned g c =
    let law = g.P.Port.law c.args.port.now in
    let old = g.P.Port.shown c.args.port.now in
    let mid = g.P.Port.shown c.pin.new.self in
    let same = c.refuse.ensures.same in
    replied_like law old (g.P.Port.shown c.say_kept.new.port) c.args.run.now (record c.refuse.new.self { attached = false }) c.say_kept.new.self c.say_kept.result (ap (λ r. r.session) same) (ap (λ r. r.commands) same) (ap (λ r. r.index) same) c.say_kept.ensures.said
    (turned_behind_place law (g.P.Port.law c.pin.new.self) c.in-Some.ensures.law old mid (record c.refuse.new.self { attached = false }) memory_text
    (half_answers law old c.args.run.now c.requires.half c.move_to.new.self c.refuse.new.self (record c.refuse.new.self { attached = false })
    (half_holds law old c.args.run.now c.requires.half c.in-Some.pin.base c.move_to.new.self (half_pin law old c.args.run.now c.requires.half c.pin.result c.in-Some.pin c.in-Some.is c.pin.ensures.base) (λ x t holds settled is. c.move_to.ensures.moved x t holds settled is))
    c.refuse.ensures refl)
    old.room c.in-Some.ensures.same (g.P.Port.shown c.say_kept.new.port) c.say_kept.new.self c.say_kept.result c.say_kept.ensures.turned)
