use Rattle.std.proofs.Common.{subst}
use Rattle.jcr_session.specs.declared.errand.Start.{Start}
use Rattle.jcr_session.specs.Begins.{StartsNext}
use Rattle.jcr_session.proofs.Begun.{errand_next, said_settles}
use Rattle.jcr_run.proofs.Lawful.{between_forgoes}
use Rattle.jcr_session.proofs.Nearer.{reply_steps}
use Rattle.jcr_session.proofs.errand.set_out.Goals as goal

pub keep_place-requires-clause-starts : goal.keep_place-requires-clause-starts
keep_place-requires-clause-starts g c = subst (λ (x : Start). StartsNext c.args.run.now x) c.in-Ok-Begun.field-0-is c.in-Ok-Begun.ensures

pub say_settled-requires-clause-settles : goal.say_settled-requires-clause-settles
say_settled-requires-clause-settles g c =
    said_settles (g.P.Port.law c.args.port.now) (g.P.Port.shown c.args.port.now) c.args.run.now c.requires.stands c.requires.between
    c.requires.next c.requires.unread c.in-Ok-Said.text
    (subst (λ (x : Start). StartsNext c.args.run.now x) c.in-Ok-Said.field-0-is c.in-Ok-Said.ensures)

pub say_memory-requires : goal.say_memory-requires
say_memory-requires g c =
    let m = errand_next c.args.run.now c.requires.next in
    record {
      forgoes = between_forgoes (g.P.Port.law c.args.port.now) (g.P.Port.shown c.args.port.now) c.args.run.now c.requires.stands
          c.requires.between m.0 m.1 c.requires.unread;
    }

pub returns-in-Ok-Said-clause-steps : goal.returns-in-Ok-Said-clause-steps
returns-in-Ok-Said-clause-steps g c = reply_steps _ _ _ c.say_settled.result c.say_settled.ensures.said

pub returns-in-Err-clause-steps : goal.returns-in-Err-clause-steps
returns-in-Err-clause-steps g c = reply_steps _ _ _ c.say_memory.result c.say_memory.ensures.said
