use Rattle.std.proofs.Common.{subst}
use Rattle.jcr_held.specs.declared.splits.NextSplit.{NextSplit}
use Rattle.jcr_session.specs.Tidying.{IsSplitNext}
use Rattle.jcr_run.proofs.Lawful.{at_between, between_forgoes}
use Rattle.jcr_run.specs.Standing.{due_for}
use Rattle.jcr_session.proofs.Nearer.{reply_steps}
use Rattle.jcr_session.proofs.Tidying.{split_next, split_task, split_tidies, tidy_next, unsplit_settles}
use Rattle.jcr_session.proofs.tidy.split.Goals as goal

pub keep_place-requires-clause-next : goal.keep_place-requires-clause-next
keep_place-requires-clause-next g c = split_tidies (due_for c.args.run.now) c.requires.next

pub keep_place-requires-clause-task : goal.keep_place-requires-clause-task
keep_place-requires-clause-task g c =
    let here = (at_between (g.P.Port.law c.args.port.now) (g.P.Port.shown c.args.port.now) c.args.run.now c.requires.stands c.requires.between).1 in
    let q = split_next c.args.run.now c.requires.next in
    let begins = subst (λ (x : NextSplit). IsSplitNext c.args.run.now x) c.in-Ok-At.field-0-is c.in-Ok-At.ensures in
    split_task c.args.run.now q.0 c.in-Ok-At.path q.1 (begins q.0 here.call q.1 here.holds).0

-- nothing is split
pub say_settled-requires-clause-settles : goal.say_settled-requires-clause-settles
say_settled-requires-clause-settles g c =
    let q = split_next c.args.run.now c.requires.next in
    unsplit_settles (g.P.Port.law c.args.port.now) (g.P.Port.shown c.args.port.now) c.args.run.now c.requires.stands c.requires.between (split_tidies (due_for c.args.run.now) c.requires.next) c.requires.ready.done
    q.0 c.in-Ok-Refused.text q.1 (subst (λ (x : NextSplit). IsSplitNext c.args.run.now x) c.in-Ok-Refused.field-0-is c.in-Ok-Refused.ensures)

pub say_memory-requires : goal.say_memory-requires
say_memory-requires g c =
    let m = tidy_next c.args.run.now (split_tidies (due_for c.args.run.now) c.requires.next) in
    record { forgoes = between_forgoes (g.P.Port.law c.args.port.now) (g.P.Port.shown c.args.port.now) c.args.run.now c.requires.stands c.requires.between m.0 m.1 c.requires.ready.done }

pub returns-in-Ok-Refused-clause-steps : goal.returns-in-Ok-Refused-clause-steps
returns-in-Ok-Refused-clause-steps g c = reply_steps _ _ _ c.say_settled.result c.say_settled.ensures.said

pub returns-in-Err-clause-steps : goal.returns-in-Err-clause-steps
returns-in-Err-clause-steps g c = reply_steps _ _ _ c.say_memory.result c.say_memory.ensures.said
