use Rattle.std.proofs.Common.{refl}
use Rattle.jcr_run.proofs.Calling.{made_if}
use Rattle.jcr_run.proofs.Lawful.{bar_settles, unread_by}
use Rattle.jcr_run.proofs.Nexts.{next_due}
use Rattle.std.specs.Prelude.{string_bytes}
use Rattle.jcr_run.specs.declared.next.Due.TheVariants as due
use Rattle.jcr_run.specs.Standing.{reads_for}
use Rattle.jcr_run.proofs.run.SessionRun.bar.Goals as goal

pub say_settled-requires-clause-settles : goal.say_settled-requires-clause-settles
say_settled-requires-clause-settles g c =
    let m = next_due c.args.self.now due.Bar c.requires.next refl in
    made_if c.barred-text.result _ _
    (λ text is. bar_settles (g.P.Port.law c.args.port.now) (g.P.Port.shown c.args.port.now) c.args.self.now c.requires.stands c.requires.between m.0 m.1 (unread_by (g.P.Port.law c.args.port.now) (g.P.Port.shown c.args.port.now) c.args.self.now c.requires.stands c.requires.between (Rattle.std.proofs.Common.ap reads_for c.requires.next)) (string_bytes text) m.2 (is m.0 m.1)) c.barred-text.ensures

pub say_settled-requires-clause-memory : goal.say_settled-requires-clause-memory
say_settled-requires-clause-memory g c =
    let m = next_due c.args.self.now due.Bar c.requires.next refl in
    Rattle.jcr_run.proofs.Calling.made_err c.barred-text.result _
    (Rattle.jcr_run.proofs.Lawful.between_forgoes (g.P.Port.law c.args.port.now) (g.P.Port.shown c.args.port.now) c.args.self.now c.requires.stands c.requires.between m.0 m.1 (unread_by (g.P.Port.law c.args.port.now) (g.P.Port.shown c.args.port.now) c.args.self.now c.requires.stands c.requires.between (Rattle.std.proofs.Common.ap reads_for c.requires.next)))
