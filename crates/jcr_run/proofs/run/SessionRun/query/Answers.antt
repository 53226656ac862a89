use Rattle.std.proofs.Common.{refl}
use Rattle.jcr_run.proofs.Calling.{made_err, made_if}
use Rattle.jcr_run.proofs.Lawful.{between_forgoes, query_settles}
use Rattle.jcr_run.proofs.Nexts.{next_due}
use Rattle.jcr_run.specs.declared.next.Due.TheVariants as due
use Rattle.jcr_run.proofs.run.SessionRun.query.Goals as goal

pub say_settled-requires-clause-settles : goal.say_settled-requires-clause-settles
say_settled-requires-clause-settles g c =
    let m = next_due c.args.self.now due.Query c.requires.next refl in
    made_if c.queried-text.result _ _ (λ text is. query_settles (g.P.Port.law c.args.port.now) (g.P.Port.shown c.args.port.now) c.args.self.now c.requires.stands c.requires.between m.0 m.1 c.requires.ready.done text m.2 is) c.queried-text.ensures

pub say_settled-requires-clause-memory : goal.say_settled-requires-clause-memory
say_settled-requires-clause-memory g c =
    let m = next_due c.args.self.now due.Query c.requires.next refl in
    made_err c.queried-text.result _ (between_forgoes (g.P.Port.law c.args.port.now) (g.P.Port.shown c.args.port.now) c.args.self.now c.requires.stands c.requires.between m.0 m.1 c.requires.ready.done)
