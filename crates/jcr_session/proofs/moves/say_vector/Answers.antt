use Rattle.std.proofs.Common.{length, sym, ap, subst, refl, ◌∙◌}
use Rattle.jr_path.specs.Lists.{Text}
use Rattle.oak_port.specs.Ports.{HasRoom}
use Rattle.jcr_run.proofs.Lawful.{moved_answers, moved_eight, moved_next, moved_room}
use Rattle.jcr_run.proofs.Saying.{replied_like}
use Rattle.jcr_session.proofs.moves.say_vector.Goals as goal

pub shown_vector-text-requires : goal.shown_vector-text-requires
shown_vector-text-requires g c = record { eight = moved_eight (g.P.Port.law c.args.port.now) (g.P.Port.shown c.args.port.now) c.args.run.now c.requires.stands c.args.vector c.requires.moved }

pub accept-requires : goal.accept-requires
accept-requires g c = record { next = moved_next (g.P.Port.law c.args.port.now) (g.P.Port.shown c.args.port.now) c.args.run.now c.requires.stands c.args.vector c.requires.moved }

pub say_kept-requires-clause-answer : goal.say_kept-requires-clause-answer
say_kept-requires-clause-answer g c =
    moved_answers (g.P.Port.law c.args.port.now) (g.P.Port.shown c.args.port.now) c.args.run.now c.requires.stands c.args.vector c.requires.moved c.accept.new.self
    (record c.accept.new.self { attached = c.attaches-attached.result }) c.attaches-attached.result c.as_str.result.now (c.as_str.ensures.value ∙ c.shown_vector-text.ensures.text) c.accept.ensures c.attaches-attached.ensures refl

pub say_kept-requires-clause-room : goal.say_kept-requires-clause-room
say_kept-requires-clause-room g c =
    subst (λ (t : Text). HasRoom (g.P.Port.shown c.args.port.now).room (length t)) (sym c.as_str.ensures.value)
    (moved_room (g.P.Port.law c.args.port.now) (g.P.Port.shown c.args.port.now) c.args.run.now c.requires.stands c.args.vector c.requires.moved (length c.shown_vector-text.result.bytes) c.shown_vector-text.ensures.few)

pub returns-clause-turned : goal.returns-clause-turned
returns-clause-turned g c =
    let same = c.accept.ensures.same in
    replied_like (g.P.Port.law c.args.port.now) (g.P.Port.shown c.args.port.now) (g.P.Port.shown c.say_kept.new.port) c.args.run.now (record c.accept.new.self { attached = c.attaches-attached.result }) c.say_kept.new.self c.say_kept.result (ap (λ r. r.session) same) (ap (λ r. r.commands) same) (ap (λ r. r.index) same) c.say_kept.ensures.said c.say_kept.ensures.turned
