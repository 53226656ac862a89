use Rattle.std.proofs.Common.{refl, subst}
use Rattle.jcr_call.specs.declared.coming.Coming.{Coming}
use Rattle.jcr_run.specs.Asked.{ComesNext}
use Rattle.jcr_run.proofs.Lawful.{between_forgoes, commit_settles}
use Rattle.jcr_run.proofs.Nexts.{next_due}
use Rattle.jcr_run.specs.declared.next.Due.TheVariants as due
use Rattle.jcr_session.proofs.Nearer.{reply_steps}
use Rattle.jcr_session.proofs.commit.commit.Goals as goal

pub come-requires : goal.come-requires
come-requires g c = record { next = c.requires.next; ready = c.requires.ready }

pub say_settled-requires-clause-settles : goal.say_settled-requires-clause-settles
say_settled-requires-clause-settles g c =
    let m = next_due c.args.run.now due.Commit c.requires.next refl in
    commit_settles (g.P.Port.law c.args.port.now) (g.P.Port.shown c.args.port.now) c.args.run.now c.requires.stands c.requires.between m.0 m.1 c.requires.ready.done m.2 c.in-Ok-Said.text (subst (λ (x : Coming). ComesNext c.args.run.now x) c.in-Ok-Said.field-0-is c.in-Ok-Said.ensures) c.replies_without_commit_keep_tokens.ensures

pub begin-requires-clause-comes : goal.begin-requires-clause-comes
begin-requires-clause-comes g c = subst (λ (x : Coming). ComesNext c.args.run.now x) c.in-Ok-Planned.field-0-is c.in-Ok-Planned.ensures

pub say_memory-requires : goal.say_memory-requires
say_memory-requires g c =
    let m = next_due c.args.run.now due.Commit c.requires.next refl in
    record { forgoes = between_forgoes (g.P.Port.law c.args.port.now) (g.P.Port.shown c.args.port.now) c.args.run.now c.requires.stands c.requires.between m.0 m.1 c.requires.ready.done }

pub returns-in-Ok-Said-clause-steps : goal.returns-in-Ok-Said-clause-steps
returns-in-Ok-Said-clause-steps g c = reply_steps _ _ _ c.say_settled.result c.say_settled.ensures.said

pub returns-in-Err-clause-steps : goal.returns-in-Err-clause-steps
returns-in-Err-clause-steps g c = reply_steps _ _ _ c.say_memory.result c.say_memory.ensures.said
