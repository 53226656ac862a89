use Rattle.std.proofs.Common.{refl, ap}
use Rattle.jcr_run.proofs.Calling.{made_err, made_if}
use Rattle.jcr_run.proofs.Lawful.{between_forgoes, head_settles, unread_by}
use Rattle.jcr_run.proofs.Nexts.{next_due}
use Rattle.std.specs.Prelude.{string_bytes}
use Rattle.jcr_run.specs.declared.next.Due.TheVariants as due
use Rattle.jcr_run.specs.Standing.{reads_for}
use Rattle.jcr_session.proofs.turns.show_base.Goals as goal

pub say_settled-requires-clause-settles : goal.say_settled-requires-clause-settles
say_settled-requires-clause-settles g c =
    let m = next_due c.args.run.now due.ShowBase c.requires.next refl in
    made_if c.vector_reply-text.result _ _
    (λ text is. head_settles (g.P.Port.law c.args.port.now) (g.P.Port.shown c.args.port.now) c.args.run.now c.requires.stands c.requires.between m.0 m.1 (unread_by (g.P.Port.law c.args.port.now) (g.P.Port.shown c.args.port.now) c.args.run.now c.requires.stands c.requires.between (ap reads_for c.requires.next)) (string_bytes text) c.base.result m.2 c.base.ensures is) c.vector_reply-text.ensures

pub say_settled-requires-clause-memory : goal.say_settled-requires-clause-memory
say_settled-requires-clause-memory g c =
    let m = next_due c.args.run.now due.ShowBase c.requires.next refl in
    made_err c.vector_reply-text.result _
    (between_forgoes (g.P.Port.law c.args.port.now) (g.P.Port.shown c.args.port.now) c.args.run.now c.requires.stands c.requires.between m.0 m.1 (unread_by (g.P.Port.law c.args.port.now) (g.P.Port.shown c.args.port.now) c.args.run.now c.requires.stands c.requires.between (ap reads_for c.requires.next)))
