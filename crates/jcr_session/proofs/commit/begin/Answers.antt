use Rattle.std.proofs.Common.{refl}
use Rattle.jcr_run.specs.declared.next.Due.TheVariants as due
use Rattle.jcr_run.proofs.Lawful.{between_forgoes}
use Rattle.jcr_run.proofs.Nexts.{next_due}
use Rattle.jcr_session.proofs.Nearer.{reply_steps}
use Rattle.jcr_session.proofs.commit.begin.Goals as goal

pub say_memory-requires : goal.say_memory-requires
say_memory-requires g c =
    let m = next_due c.args.run.now due.Commit c.requires.next refl in
    record { forgoes = between_forgoes (g.P.Port.law c.args.port.now) (g.P.Port.shown c.args.port.now) c.args.run.now c.requires.stands c.requires.between m.0 m.1 c.requires.ready.done }

pub returns-in-Err-clause-steps : goal.returns-in-Err-clause-steps
returns-in-Err-clause-steps g c = reply_steps _ _ _ c.say_memory.result c.say_memory.ensures.said
